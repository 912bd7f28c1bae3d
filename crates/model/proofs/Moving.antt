-- For callers of the appenders and of `rotate_log`: the record after the active tail has moved is still sound, and handed its own count
-- and term id it is rotated.
use Rattle.std.specs.Prelude.{Ok}
use mathlib.Core.Path.{◌≡◌, refl, sym, ap, ap₂, ◌∙◌}
use mathlib.Core.Bool.{true, false}
use Prim.Native.Nat.{ℕ, ◌+◌, ◌/◌, ◌%◌, ◌≤◌, ◌<◌}
use native.Mathlib.Omega.{arith}
use borrow.Author.Tests.{le-leb}
use lib.ListN.{length}
use lib.IntN.{ℤ}
use mir.Syntax.{w32, w64}
use mir.Val.{SFits}
use mir.Facts.{of_z-to_z, Fits-of_z}
use Rattle.model.specs.declared.LogRecord.{LogRecord}
use Rattle.model.specs.declared.Reading.{Reading}
use Rattle.model.specs.Bytes.{word, long}
use Rattle.model.specs.LogBufferDescriptor.{id_of, offset_of, term_id_of, tail_of, reading_of, active, reading, sound_record, changed, with_tail, last_term, rotated, rotate_log_of, Sound}
use Rattle.model.proofs.RawTail.{raw-id, raw-offset, moved-tail}
use Rattle.model.proofs.SoundRecord.{sound-record-by}
use Rattle.model.proofs.Rotate.{rotate-own}

-- a term id as the Rust answers it, handed back, is the tail's
pub term-id-back : (raw : ℤ) → SFits w64 raw → word (term_id_of raw) ≡ id_of raw
term-id-back raw f =
    let small : long raw < 18446744073709551616 = (Fits-of_z f).fits in
    let e : long raw / 4294967296 ≡ id_of raw = omega arith in
    of_z-to_z {w = w32} (record { fits = omega arith }) ∙ e

-- ---- the active tail moved

-- a reading with another tail
abbrev pub with_place : Reading → ℕ → ℕ → Reading
with_place v id offset =
    record {
      term = v.term;
      mtu = v.mtu;
      count = v.count;
      initial = v.initial;
      session = v.session;
      stream = v.stream;
      connected = v.connected;
      limit = v.limit;
      id = id;
      offset = offset;
      closed = v.closed;
      slowest = v.slowest;
    }

pub place-sound : (v : Reading) (n id offset : ℕ) → Sound v n → offset % 32 ≡ 0 → offset ≤ 2147483647 → sound_record (with_place v id offset) ≡ true
place-sound v n id offset s m h =
    sym (sound-record-by (with_place v id offset) s.term-low s.term-high s.one_bit s.mtu-low s.mtu-high s.mtu-32 s.count-high s.limit-high s.slowest-high s.slowest-32 m) ∙ le-leb _ _ h

module _ (r : LogRecord) (id offset : ℕ) (three : length r.tails ≡ 3) (hi : id < 4294967296) (ho : offset < 4294967296) where
  by_place : (a b : ℕ) → a ≡ id → b ≡ offset → with_place (reading r) a b ≡ with_place (reading r) id offset
  by_place a b ea eb = ap₂ (with_place (reading r)) ea eb

  pub place-reading : reading (with_tail r (active r) id offset) ≡ with_place (reading r) id offset
  unfolding reading_of with_tail changed
  place-reading =
      let inside : active r < length r.tails = omega arith in
      let t : tail_of (with_tail r (active r) id offset) (active r) ≡ _ = moved-tail r (active r) id offset inside in
      by_place _ _ (ap id_of t ∙ raw-id id offset hi ho) (ap offset_of t ∙ raw-offset id offset ho)

-- after an append that tripped, `rotate_log` on the record's own count and term id
pub rotate-moved : (r : LogRecord) (n needed : ℕ) (id : ℤ) → length r.tails ≡ 3 → Sound (reading r) n → (reading r).id < 4294967296 → needed % 32 ≡ 0 → (reading r).offset + needed ≤ 2147483647
    → word id ≡ (reading r).id → last_term (reading r).count ≡ false
    → rotate_log_of (with_tail r (active r) (reading r).id ((reading r).offset + needed)) r.active_term_count id
    ≡ record { next = rotated (with_tail r (active r) (reading r).id ((reading r).offset + needed)) (reading r).count (reading r).id; answer = Ok tt }
unfolding reading_of with_tail changed
rotate-moved r n needed id three s hi m h ei l =
    let v = reading r in
    let e = place-reading r v.id (v.offset + needed) three hi (omega arith) in
    let ok : sound_record (with_place v v.id (v.offset + needed)) ≡ true = place-sound v n v.id (v.offset + needed) s (omega (arith, s.offset-32)) h in
    rotate-own (with_tail r (active r) v.id (v.offset + needed)) r.active_term_count id v.count v.id refl refl ei (ap sound_record e ∙ ok) s.count-high l
