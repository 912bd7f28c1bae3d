-- The round trips of the two calls, and that refusals leave the output as it was.
use Rattle.std.specs.Prelude.{Result, Ok, Err, ⊤}
use Rattle.metadata.specs.declared.MetadataError.{MetadataError}
use mathlib.Core.Path.{◌≡◌, refl, sym, ap, ◌∙◌}
use Prim.Native.Nat.{ℕ, ◌<◌}
use mathlib.Core.Bool.{Bool, true, false}
use mathlib.Core.List.{List, [], ◌∷◌}
use native.Mathlib.Omega.{arith}
use borrow.Author.Tests.{eq-eqb, le-leb}
use lib.Dec.{eqb, leb}
use lib.IntN.{ℤ, pos}
use lib.ListN.{length, take, drop, get_or}
use lib.Seq.{take_all}
use Rattle.model.specs.declared.LogRecord.{LogRecord}
use Rattle.model.specs.Bytes.{le4, le8, u32, u64, zeros}
use Rattle.model.specs.LogBufferDescriptor.{reading, sound_record, tail_of}
use Rattle.metadata.specs.declared.Beside.{Beside}
use Rattle.metadata.specs.Metadata.{header_length, counters, connection, ids, lengths, section, tails_from, record_from, beside_of, zero_from, accepted}
use Rattle.metadata.specs.Calls.{rows, output_by, read_by, write_of, write_bytes, read_of}
use Rattle.metadata.specs.Theorems.{Fits, WrittenRead, ReadWritten, Untouched}
use Rattle.metadata.proofs.Fields.{back4, back8, field_is, field4, field8}
use Rattle.metadata.proofs.Gaps.{zero-bytes}
use Rattle.metadata.proofs.Parts.{joined, length-section, by-fields}
use Rattle.metadata.proofs.Answers.{no_row}
use Rattle.metadata.proofs.Acceptance.{Judged, judged}

-- ---- refusals

kept : (a : Result ⊤ MetadataError) (new out : List ℕ) → (a ≡ Ok tt → ⊥) → output_by a new out ≡ out
kept (Ok _) new out h = absurd (h refl)
kept (Err e) new out h = refl

pub untouched : Untouched
unfolding write_bytes
untouched r out = kept (write_of r (length out)) (section r) out

-- done means that no row refuses
went : (good fit sound : Bool) → rows good fit sound ≡ Ok tt → (good ≡ true) × ((fit ≡ true) × (sound ≡ true))
went true true true h = (refl, (refl, refl))
went true true false h = absurd (let x : ◌≡◌ {A = ℕ} 0 1 = cc in omega arith)
went true false sound h = absurd (let x : ◌≡◌ {A = ℕ} 0 1 = cc in omega arith)
went false fit sound h = absurd (let x : ◌≡◌ {A = ℕ} 0 1 = cc in omega arith)

-- ---- a record written, and read

three-of : (t : List ℤ) (a b c : ℤ) → length t ≡ 3 → a ≡ get_or t 0 (pos 0) → b ≡ get_or t 1 (pos 0) → c ≡ get_or t 2 (pos 0) → a ∷ b ∷ c ∷ [] ≡ t
three-of [] a b c l ea eb ec = absurd (omega arith)
three-of (x ∷ []) a b c l ea eb ec = absurd (omega arith)
three-of (x ∷ y ∷ []) a b c l ea eb ec = absurd (omega arith)
three-of (x ∷ y ∷ z ∷ []) a b c l ea eb ec = cc
three-of (x ∷ y ∷ z ∷ w ∷ t) a b c l ea eb ec = absurd (omega arith)

module _ (r : LogRecord) where
  pub section-accepted : accepted (section r) ≡ true
  unfolding accepted section counters connection ids lengths le8 le4 zeros zero_from u32
  section-accepted = refl

  module _ (f : Fits r) where
    tails-back : tails_from (section r) ≡ r.tails
    unfolding tails_from section counters connection ids lengths le8 le4 zeros u64 u32
    tails-back = three-of r.tails _ _ _ f.three (back8 (tail_of r 0) (f.tail 0)) (back8 (tail_of r 1) (f.tail 1)) (back8 (tail_of r 2) (f.tail 2))

    pub record-back : record_from (section r) (beside_of r) ≡ r
    unfolding record_from beside_of section counters connection ids lengths le8 le4 zeros u64 u32
    record-back =
        by-fields r _ _ _ _ _ _ _ _ _ _ _ _ _ _ tails-back (back4 r.active_term_count f.count) (back4 r.initial_term_id f.initial) (back4 r.term_length f.term) (back4 r.mtu_length f.mtu) refl refl
        (back4 r.is_connected f.connected) refl (back8 r.end_of_stream_position f.end) refl (back4 r.active_transport_count f.transports) (back8 r.correlation_id f.correlation) (back4 r.page_size f.page)

pub written_read : WrittenRead
unfolding write_of write_bytes read_of
written_read r out f h =
    let w = went (leb (length out) 2147483647) (eqb (length out) 320) (sound_record (reading r)) h in
    let s = section r in
    let b = beside_of r in
    let g = no_row (leb (length s) 2147483647) (accepted s) (sound_record (reading (record_from s b)))
    (le-leb (length s) 2147483647 (omega (arith, length-section r))) (section-accepted r) (ap (λ (x : LogRecord). sound_record (reading x)) (record-back r f) ∙ w.1.1) in
    ap (λ (x : Result ⊤ MetadataError). read_of (output_by x s out) b) h
    ∙ ap (λ (x : Result ⊤ MetadataError). read_by x (record_from s b)) g
    ∙ ap (λ (x : LogRecord). read_by (Ok tt) x) (record-back r f)

-- ---- bytes read, and written

module _ (s : List ℕ) (b : Beside) (bytes : (i : ℕ) → get_or s i 0 < 256) (h : accepted s ≡ true) where
  j : Judged s
  j = judged s h

  header-field : le4 header_length ≡ take 4 (drop 268 s)
  header-field = ap le4 (sym j.header) ∙ field_is s bytes 268 (omega (arith, j.size))

  counters-back : counters (record_from s b) ≡ take 128 (drop 0 s)
  unfolding counters record_from tails_from
  counters-back =
      joined 8 120 0 s (field8 s bytes 0 (omega (arith, j.size)))
      (joined 8 112 8 s (field8 s bytes 8 (omega (arith, j.size)))
      (joined 8 104 16 s (field8 s bytes 16 (omega (arith, j.size)))
      (joined 4 100 24 s (field4 s bytes 24 (omega (arith, j.size))) (zero-bytes 100 s 28 (omega (arith, j.size)) j.pad-1))))

  connection-back : connection (record_from s b) ≡ take 128 (drop 128 s)
  unfolding connection record_from
  connection-back =
      joined 8 120 128 s (field8 s bytes 128 (omega (arith, j.size)))
      (joined 4 116 136 s (field4 s bytes 136 (omega (arith, j.size)))
      (joined 4 112 140 s (field4 s bytes 140 (omega (arith, j.size))) (zero-bytes 112 s 144 (omega (arith, j.size)) j.pad-2)))

  ids-back : ids (record_from s b) ≡ take 16 (drop 256 s)
  unfolding ids record_from
  ids-back = joined 8 8 256 s (field8 s bytes 256 (omega (arith, j.size))) (joined 4 4 264 s (field4 s bytes 264 (omega (arith, j.size))) header-field)

  lengths-back : lengths (record_from s b) ≡ take 48 (drop 272 s)
  unfolding lengths record_from
  lengths-back =
      joined 4 44 272 s (field4 s bytes 272 (omega (arith, j.size)))
      (joined 4 40 276 s (field4 s bytes 276 (omega (arith, j.size)))
      (joined 4 36 280 s (field4 s bytes 280 (omega (arith, j.size))) (zero-bytes 36 s 284 (omega (arith, j.size)) j.pad-3)))

  pub section-back : section (record_from s b) ≡ s
  unfolding section
  section-back = joined 128 192 0 s counters-back (joined 128 64 128 s connection-back (joined 16 48 256 s ids-back lengths-back)) ∙ take_all 320 s (omega (arith, j.size))

-- a record was read where no row refuses
found : (a : Result ⊤ MetadataError) (x : LogRecord) → (read_by a x).answer ≡ Ok tt → a ≡ Ok tt
found (Ok _) x h = refl
found (Err e) x h = h

beside_back : (s : List ℕ) (b : Beside) → beside_of (record_from s b) ≡ b
unfolding beside_of record_from
beside_back s b = refl

pub read-written : ReadWritten
unfolding write_of write_bytes read_of
read-written s b out bytes h l =
    let x = record_from s b in
    let a = rows (leb (length s) 2147483647) (accepted s) (sound_record (reading x)) in
    let q : a ≡ (Ok tt) = found a x h in
    let n : (read_by a x).next ≡ x = ap (λ (y : Result ⊤ MetadataError). (read_by y x).next) q in
    let w = went (leb (length s) 2147483647) (accepted s) (sound_record (reading x)) q in
    let d = no_row (leb (length out) 2147483647) (eqb (length out) 320) (sound_record (reading (read_by a x).next))
    (le-leb (length out) 2147483647 (omega arith)) (eq-eqb (length out) 320 l) (ap (λ (y : LogRecord). sound_record (reading y)) n ∙ w.1.1) in (
      d,
      (
        ap (λ (y : Result ⊤ MetadataError). output_by y (section (read_by a x).next) out) d ∙ ap section n ∙ section-back s b bytes w.1.0,
        ap beside_of n ∙ beside_back s b,
      ),
    )
