-- What a call leaves in the words is read again as the next record or image that it gives: the theorems of specs/Theorems.antt on calls in a row.
use Rattle.std.specs.Prelude.{Result, Ok, Err, ⊤}
use mathlib.Core.Path.{◌≡◌, refl, sym, ap, ap₂, ◌∙◌, subst}
use mathlib.Core.Bool.{Bool, true, false, cond, not}
use Prim.Native.Nat.{ℕ, zero, suc, ◌+◌, ◌*◌, ◌/◌, ◌%◌, ◌≤◌, ◌<◌}
use mathlib.Core.List.{List, [], ◌∷◌}
use native.Mathlib.Omega.{arith}
use borrow.Author.Tests.{eqb-true}
use lib.Dec.{eqb, ltb}
use lib.IntN.{ℤ}
use lib.ListN.{length, set}
use lib.ListN.{length-set}
use mir.Syntax.{w32, w64}
use mir.Val.{Fits, SFits, to_z}
use mir.Facts.{to_z-of_z, sfits_to_z}
use Rattle.model.specs.Bytes.{word, long}
use Rattle.model.specs.declared.Claim.{Claim}
use Rattle.model.specs.declared.LogRecord.{LogRecord}
use Rattle.model.specs.declared.Reading.{Reading}
use Rattle.model.specs.FrameDescriptor.{space}
use Rattle.model.specs.LogBufferDescriptor.{id_plus, active, reading, reading_of, sound_record, sound, raw_of, changed, with_tail, with_count, with_limit, with_closed, noted, with_slowest, with_mark, due, is_ready, id_of, tail_of, next_tail, rotated, greatest, last_term, payload_limit}
use Rattle.model.specs.Publication.{refuse_if, change_of, place, after_closed, too_long, fits, on_trip, trip_next, append_next, need_of, tail_room, before_append, offer_verdict, next_by, offer_of, claim_verdict, claim_of, reply_by, clear_verdict, clear_of, raise_verdict, raise_of}
use Rattle.model.specs.declared.Error.{Error}
use Rattle.model.specs.declared.Error.TheVariants.{IllegalArgument, IllegalRecord, PublicationClosed, ExceedsMaxPayloadLength, ExceedsMaxMessageLength}
use Rattle.model.specs.declared.RecordReply.{RecordReply}
use Rattle.model.specs.Image.{moved_to}
use Rattle.model.specs.History.{Call, offer, claim, fill, commit, abort, set_limit, close, clear, raise, World, step}
use Rattle.model.specs.Corollaries.{RefusalsChangeNothing}
use Rattle.model.proofs.Sound.{sound-true}
use Rattle.model.proofs.Corollaries.{refusals-change-nothing}
use Rattle.image.specs.Images.{state_of}
use Rattle.capi.specs.Words.{at, low_of, high_of, pair_of, flag_of, bit_of, bit_number, record_in, claim_in, record_out, limit_out, closed_out, slowest_out, marks_out, image_in, image_out}
use Rattle.capi.specs.Theorems.{Words, Moved, RecordBack, world, words_by, RefusalsKeep, StepsBack, ImageBack}
use Rattle.capi.proofs.Kept.{long-bound, word_bound, bits64, bits32, record-kept}

-- ---- halves of a pair

pair-bits : (a b : ℤ) → SFits w32 a → SFits w32 b → long (pair_of a b) ≡ word a + word b * 4294967296
pair-bits a b f g =
    let x = word_bound a f in
    let y = word_bound b g in
    let h : word a + word b * 4294967296 < 18446744073709551616 = omega (arith, x, y) in bits64 (word a + word b * 4294967296) h

low-of : (a b : ℤ) → SFits w32 a → SFits w32 b → low_of (pair_of a b) ≡ a
low-of a b f g =
    let x = word_bound a f in
    let k : (word a + word b * 4294967296) % 4294967296 * 4294967296 < 18446744073709551616 = omega arith in
    let e : (word a + word b * 4294967296) % 4294967296 * 4294967296 / 4294967296 ≡ word a = omega (arith, x) in
    ap (λ (n : ℕ). to_z w32 (long (to_z w64 (n % 4294967296 * 4294967296)) / 4294967296)) (pair-bits a b f g)
    ∙ ap (λ (n : ℕ). to_z w32 (n / 4294967296)) (bits64 _ k) ∙ ap (to_z w32) e ∙ to_z-of_z f

high-of : (a b : ℤ) → SFits w32 a → SFits w32 b → high_of (pair_of a b) ≡ b
high-of a b f g =
    let x = word_bound a f in
    let e : (word a + word b * 4294967296) / 4294967296 ≡ word b = omega (arith, x) in
    ap (λ (n : ℕ). to_z w32 (n / 4294967296)) (pair-bits a b f g) ∙ ap (to_z w32) e ∙ to_z-of_z g

-- a claim's two words, read again
claim-fields : (c : Claim) (a b l i : ℤ) → a ≡ c.partition → b ≡ c.offset → l ≡ c.length → i ≡ c.term_id → record { partition = a; offset = b; length = l; term_id = i } ≡ c
claim-fields c a b l i ea eb el ei =
    ap₂ {C = Claim} (λ (x y : ℤ). record { partition = x; offset = y; length = l; term_id = i }) ea eb
    ∙ ap₂ {C = Claim} (λ (x y : ℤ). record { partition = c.partition; offset = c.offset; length = x; term_id = y }) el ei

pub claim-back : (c : Claim) → SFits w32 c.partition → SFits w32 c.offset → SFits w32 c.length → SFits w32 c.term_id → claim_in (pair_of c.partition c.offset) (pair_of c.length c.term_id) ≡ c
claim-back c f g h k = claim-fields c _ _ _ _ (low-of c.partition c.offset f g) (high-of c.partition c.offset f g) (low-of c.length c.term_id h k) (high-of c.length c.term_id h k)

high_fits : (w : ℤ) → SFits w64 w → SFits w32 (high_of w)
high_fits w f =
    let b = long-bound w f in
    let h : long w / 4294967296 < 4294967296 = omega (arith, b) in
    let k : Fits w32 (long w / 4294967296) = record { fits = h } in sfits_to_z k

low_fits : (w : ℤ) → SFits w32 (low_of w)
low_fits w =
    let h : long w % 4294967296 * 4294967296 < 18446744073709551616 = omega arith in
    let e : long w % 4294967296 * 4294967296 / 4294967296 < 4294967296 = omega arith in
    let k : Fits w32 (long w % 4294967296 * 4294967296 / 4294967296) = record { fits = e } in
    subst (λ (n : ℕ). SFits w32 (to_z w32 (n / 4294967296))) (sym (bits64 (long w % 4294967296 * 4294967296) h)) (sfits_to_z k)

-- ---- lists of a known length

split : (P : List ℤ → Type 0) (n : ℕ) → ((x : ℤ) (xs : List ℤ) → length xs ≡ n → P (x ∷ xs)) → (w : List ℤ) → length w ≡ suc n → P w
split P n f [] h = absurd (omega (arith, h))
split P n f (x ∷ xs) h = f x xs (omega (arith, h))

none : (P : List ℤ → Type 0) → P [] → (w : List ℤ) → length w ≡ 0 → P w
none P p [] h = p
none P p (x ∷ xs) h = absurd (omega (arith, h))

two : (P : List ℤ → Type 0) → ((a0 a1 : ℤ) → P (a0 ∷ a1 ∷ [])) → (w : List ℤ) → length w ≡ 2 → P w
two P f w h = split P 1 (λ (a0 : ℤ) (w0 : List ℤ) (h0 : length w0 ≡ 1). split (λ (v : List ℤ). P (a0 ∷ v)) 0 (λ (a1 : ℤ) (w1 : List ℤ) (h1 : length w1 ≡ 0). none (λ (v : List ℤ). P (a0 ∷ a1 ∷ v)) (f a0 a1) w1 h1) w0 h0) w h

three-words : (P : List ℤ → Type 0) → ((a0 a1 a2 : ℤ) → P (a0 ∷ a1 ∷ a2 ∷ [])) → (w : List ℤ) → length w ≡ 3 → P w
three-words P f w h = split P 2 (λ (a0 : ℤ) (w0 : List ℤ) (h0 : length w0 ≡ 2). split (λ (v : List ℤ). P (a0 ∷ v)) 1 (λ (a1 : ℤ) (w1 : List ℤ) (h1 : length w1 ≡ 1). split (λ (v : List ℤ). P (a0 ∷ a1 ∷ v)) 0 (λ (a2 : ℤ) (w2 : List ℤ) (h2 : length w2 ≡ 0). none (λ (v : List ℤ). P (a0 ∷ a1 ∷ a2 ∷ v)) (f a0 a1 a2) w2 h2) w1 h1) w0 h0) w h

three-marks : (P : List Bool → Type 0) → ((m0 m1 m2 : Bool) → P (m0 ∷ m1 ∷ m2 ∷ [])) → (ms : List Bool) → length ms ≡ 3 → P ms
three-marks P f [] h = absurd (omega (arith, h))
three-marks P f (m0 ∷ []) h = absurd (omega (arith, h))
three-marks P f (m0 ∷ m1 ∷ []) h = absurd (omega (arith, h))
three-marks P f (m0 ∷ m1 ∷ m2 ∷ []) h = f m0 m1 m2
three-marks P f (m0 ∷ m1 ∷ m2 ∷ m3 ∷ ms) h = absurd (omega (arith, h))

fourteen : (P : List ℤ → Type 0) → ((a0 a1 a2 a3 a4 a5 a6 a7 a8 a9 a10 a11 a12 a13 : ℤ) → P (a0 ∷ a1 ∷ a2 ∷ a3 ∷ a4 ∷ a5 ∷ a6 ∷ a7 ∷ a8 ∷ a9 ∷ a10 ∷ a11 ∷ a12 ∷ a13 ∷ [])) → (w : List ℤ) → length w ≡ 14 → P w
fourteen P f w h = split P 13 (λ (a0 : ℤ) (w0 : List ℤ) (h0 : length w0 ≡ 13). split (λ (v : List ℤ). P (a0 ∷ v)) 12 (λ (a1 : ℤ) (w1 : List ℤ) (h1 : length w1 ≡ 12). split (λ (v : List ℤ). P (a0 ∷ a1 ∷ v)) 11 (λ (a2 : ℤ) (w2 : List ℤ) (h2 : length w2 ≡ 11). split (λ (v : List ℤ). P (a0 ∷ a1 ∷ a2 ∷ v)) 10 (λ (a3 : ℤ) (w3 : List ℤ) (h3 : length w3 ≡ 10). split (λ (v : List ℤ). P (a0 ∷ a1 ∷ a2 ∷ a3 ∷ v)) 9 (λ (a4 : ℤ) (w4 : List ℤ) (h4 : length w4 ≡ 9). split (λ (v : List ℤ). P (a0 ∷ a1 ∷ a2 ∷ a3 ∷ a4 ∷ v)) 8 (λ (a5 : ℤ) (w5 : List ℤ) (h5 : length w5 ≡ 8). split (λ (v : List ℤ). P (a0 ∷ a1 ∷ a2 ∷ a3 ∷ a4 ∷ a5 ∷ v)) 7 (λ (a6 : ℤ) (w6 : List ℤ) (h6 : length w6 ≡ 7). split (λ (v : List ℤ). P (a0 ∷ a1 ∷ a2 ∷ a3 ∷ a4 ∷ a5 ∷ a6 ∷ v)) 6 (λ (a7 : ℤ) (w7 : List ℤ) (h7 : length w7 ≡ 6). split (λ (v : List ℤ). P (a0 ∷ a1 ∷ a2 ∷ a3 ∷ a4 ∷ a5 ∷ a6 ∷ a7 ∷ v)) 5 (λ (a8 : ℤ) (w8 : List ℤ) (h8 : length w8 ≡ 5). split (λ (v : List ℤ). P (a0 ∷ a1 ∷ a2 ∷ a3 ∷ a4 ∷ a5 ∷ a6 ∷ a7 ∷ a8 ∷ v)) 4 (λ (a9 : ℤ) (w9 : List ℤ) (h9 : length w9 ≡ 4). split (λ (v : List ℤ). P (a0 ∷ a1 ∷ a2 ∷ a3 ∷ a4 ∷ a5 ∷ a6 ∷ a7 ∷ a8 ∷ a9 ∷ v)) 3 (λ (a10 : ℤ) (w10 : List ℤ) (h10 : length w10 ≡ 3). split (λ (v : List ℤ). P (a0 ∷ a1 ∷ a2 ∷ a3 ∷ a4 ∷ a5 ∷ a6 ∷ a7 ∷ a8 ∷ a9 ∷ a10 ∷ v)) 2 (λ (a11 : ℤ) (w11 : List ℤ) (h11 : length w11 ≡ 2). split (λ (v : List ℤ). P (a0 ∷ a1 ∷ a2 ∷ a3 ∷ a4 ∷ a5 ∷ a6 ∷ a7 ∷ a8 ∷ a9 ∷ a10 ∷ a11 ∷ v)) 1 (λ (a12 : ℤ) (w12 : List ℤ) (h12 : length w12 ≡ 1). split (λ (v : List ℤ). P (a0 ∷ a1 ∷ a2 ∷ a3 ∷ a4 ∷ a5 ∷ a6 ∷ a7 ∷ a8 ∷ a9 ∷ a10 ∷ a11 ∷ a12 ∷ v)) 0 (λ (a13 : ℤ) (w13 : List ℤ) (h13 : length w13 ≡ 0). none (λ (v : List ℤ). P (a0 ∷ a1 ∷ a2 ∷ a3 ∷ a4 ∷ a5 ∷ a6 ∷ a7 ∷ a8 ∷ a9 ∷ a10 ∷ a11 ∷ a12 ∷ a13 ∷ v)) (f a0 a1 a2 a3 a4 a5 a6 a7 a8 a9 a10 a11 a12 a13) w13 h13) w12 h12) w11 h11) w10 h10) w9 h9) w8 h8) w7 h7) w6 h6) w5 h5) w4 h4) w3 h3) w2 h2) w1 h1) w0 h0) w h

-- ---- the record

-- the marks stored and read again
bit-back : (m : Bool) → not (eqb (bit_number m) 0) ≡ m
bit-back true = refl
bit-back false = refl

bit-low : (m : Bool) → bit_number m ≤ 1
bit-low true = omega arith
bit-low false = omega arith

abbrev stored-marks : ℕ → Bool → Bool → Bool → ℕ
stored-marks n m0 m1 m2 = n / 8 * 8 + (bit_number m0 + 2 * bit_number m1 + 4 * bit_number m2)

-- a number made of three bits and what is behind them
bits_of : (q a b c : ℕ) → a ≤ 1 → b ≤ 1 → c ≤ 1 → let x = q * 8 + (a + 2 * b + 4 * c) in (x % 2 ≡ a) × ((x / 2 % 2 ≡ b) × (x / 4 % 2 ≡ c))
bits_of q a b c f g h =
    let x = q * 8 + (a + 2 * b + 4 * c) in
    let d : x / 2 ≡ q * 4 + (b + 2 * c) = omega arith in
    let e : x / 4 ≡ q * 2 + c = omega arith in
    (omega arith, (omega (arith, d), omega (arith, e)))

marks-back : (z : ℤ) → SFits w64 z → (m0 m1 m2 : Bool) → let x = long (to_z w64 (stored-marks (long z) m0 m1 m2)) in (bit_of x ≡ m0) × ((bit_of (x / 2) ≡ m1) × (bit_of (x / 4) ≡ m2))
marks-back z f m0 m1 m2 =
    let b = long-bound z f in
    let n = long z in
    let h : n / 8 < 2305843009213693952 = omega (arith, b) in
    let x = stored-marks n m0 m1 m2 in
    let s : x < 18446744073709551616 = omega (arith, h, bit-low m0, bit-low m1, bit-low m2) in
    let e = bits64 x s in
    let o = bits_of (n / 8) (bit_number m0) (bit_number m1) (bit_number m2) (bit-low m0) (bit-low m1) (bit-low m2) in (
      ap bit_of e ∙ ap (λ (y : ℕ). not (eqb y 0)) o.0 ∙ bit-back m0,
      (
        ap (λ (y : ℕ). bit_of (y / 2)) e ∙ ap (λ (y : ℕ). not (eqb y 0)) o.1.0 ∙ bit-back m1,
        ap (λ (y : ℕ). bit_of (y / 4)) e ∙ ap (λ (y : ℕ). not (eqb y 0)) o.1.1 ∙ bit-back m2,
      ),
    )

-- a record with other tails, count and marks
abbrev after : LogRecord → List ℤ → ℤ → List Bool → LogRecord
after a ts n ms = noted (changed a ts n a.publication_limit a.is_closed) a.slowest_position ms

abbrev ReadBack : List ℤ → ℤ → List ℤ → List Bool → Type 0
ReadBack w n ts ms = record_in (record_out w (after (record_in w) ts n ms)) ≡ after (record_in w) ts n ms

back_at : (w ts : List ℤ) (n : ℤ) (ms : List Bool) → length w ≡ 14 → length ts ≡ 3 → length ms ≡ 3 → SFits w32 n → SFits w64 (at w 3) → SFits w64 (at w 11) → ReadBack w n ts ms
unfolding changed noted
back_at w ts n ms h k j f g g11 =
    fourteen (λ (v : List ℤ). SFits w64 (at v 3) → SFits w64 (at v 11) → ReadBack v n ts ms)
    (λ a0 a1 a2 a3 a4 a5 a6 a7 a8 a9 a10 a11 a12 a13 g3 g11. three-words (λ (us : List ℤ). ReadBack (a0 ∷ a1 ∷ a2 ∷ a3 ∷ a4 ∷ a5 ∷ a6 ∷ a7 ∷ a8 ∷ a9 ∷ a10 ∷ a11 ∷ a12 ∷ a13 ∷ []) n us ms)
    (λ t0 t1 t2. three-marks (ReadBack (a0 ∷ a1 ∷ a2 ∷ a3 ∷ a4 ∷ a5 ∷ a6 ∷ a7 ∷ a8 ∷ a9 ∷ a10 ∷ a11 ∷ a12 ∷ a13 ∷ []) n (t0 ∷ t1 ∷ t2 ∷ []))
    (λ m0 m1 m2. let b = marks-back a11 g11 m0 m1 m2 in fields a3 a4 a5 a6 a7 a8 a9 a10 a12 a13 t0 t1 t2 m0 m1 m2 (low-of n (high_of a3) f (high_fits a3 g3)) (high-of n (high_of a3) f (high_fits a3 g3)) b.0 b.1.0 b.1.1) ms j) ts k) w h g g11
  where
    fields : (a3 a4 a5 a6 a7 a8 a9 a10 a12 a13 t0 t1 t2 : ℤ) (m0 m1 m2 : Bool) {x y z : ℤ} {b0 b1 b2 : Bool} → x ≡ n → y ≡ z → b0 ≡ m0 → b1 ≡ m1 → b2 ≡ m2
        → ◌≡◌ {A = LogRecord} (record { tails = t0 ∷ t1 ∷ t2 ∷ []; active_term_count = x; initial_term_id = y; term_length = low_of a4; mtu_length = high_of a4; session_id = low_of a5; stream_id = high_of a5; is_connected = low_of a6; publication_limit = a7; end_of_stream_position = a8; is_closed = flag_of (long a9); slowest_position = a10; is_cleared = b0 ∷ b1 ∷ b2 ∷ []; active_transport_count = low_of a12; correlation_id = a13; page_size = high_of a12 })
        (record { tails = t0 ∷ t1 ∷ t2 ∷ []; active_term_count = n; initial_term_id = z; term_length = low_of a4; mtu_length = high_of a4; session_id = low_of a5; stream_id = high_of a5; is_connected = low_of a6; publication_limit = a7; end_of_stream_position = a8; is_closed = flag_of (long a9); slowest_position = a10; is_cleared = m0 ∷ m1 ∷ m2 ∷ []; active_transport_count = low_of a12; correlation_id = a13; page_size = high_of a12 })
    fields a3 a4 a5 a6 a7 a8 a9 a10 a12 a13 t0 t1 t2 m0 m1 m2 p q b0 b1 b2 = cc

pub record-back : RecordBack
record-back w r h m =
    subst (λ (x : LogRecord). record_in (record_out w x) ≡ x) (sym m.same)
    (back_at w m.tails m.count m.marks h.count m.three m.three-marks m.fits (h.fits 3) (h.fits 11))

-- ---- the changes that calls make: each leaves a record moved from the one that a call was given

module _ {a : LogRecord} where
  tail-moved : {r : LogRecord} (k id offset : ℕ) → Moved a r → Moved a (with_tail r k id offset)
  unfolding with_tail changed noted
  tail-moved k id offset m =
      record {
        tails = set m.tails k (raw_of id offset);
        count = m.count;
        marks = m.marks;
        three = length-set m.tails k (raw_of id offset) ∙ m.three;
        three-marks = m.three-marks;
        fits = m.fits;
        same = ap (λ (r : LogRecord). with_tail r k id offset) m.same;
      }

  count-moved : {r : LogRecord} (n : ℕ) → n < 4294967296 → Moved a r → Moved a (with_count r n)
  unfolding with_count changed noted
  count-moved n h m =
      let k : Fits w32 n = record { fits = h } in
      record { tails = m.tails; count = to_z w32 n; marks = m.marks; three = m.three; three-marks = m.three-marks; fits = sfits_to_z k; same = ap (λ (r : LogRecord). with_count r n) m.same }

  mark-moved : {r : LogRecord} (k : ℕ) (b : Bool) → Moved a r → Moved a (with_mark r k b)
  unfolding with_mark changed noted
  mark-moved k b m =
      record {
        tails = m.tails;
        count = m.count;
        marks = set m.marks k b;
        three = m.three;
        three-marks = length-set m.marks k b ∙ m.three-marks;
        fits = m.fits;
        same = ap (λ (r : LogRecord). with_mark r k b) m.same;
      }

  pick : {r s : LogRecord} (b : Bool) → Moved a r → Moved a s → Moved a (cond b r s)
  pick true m n = m
  pick false m n = n

  rotated-moved : {r : LogRecord} (count id : ℕ) → count + 1 < 4294967296 → Moved a r → Moved a (rotated r count id)
  unfolding rotated next_tail
  rotated-moved {r} count id h m =
      count-moved (count + 1) h (mark-moved (due count) false (pick (eqb (id_plus (id_of (tail_of r ((count + 1) % 3))) 2) id) (tail-moved ((count + 1) % 3) (id_plus id 1) 0 m) m))

-- the record of some words, as it is
words-moved : (w : List ℤ) → Moved (record_in w) (record_in w)
unfolding changed noted
words-moved w = record { tails = (record_in w).tails; count = low_of (at w 3); marks = (record_in w).is_cleared; three = refl; three-marks = refl; fits = low_fits (at w 3); same = refl }

-- an append that was let through, of a count that row 2 bounds
append-moved : (w : List ℤ) (needed : ℕ) → (reading (record_in w)).count ≤ 2147483647 → Moved (record_in w) (append_next (record_in w) (reading (record_in w)) needed)
unfolding append_next on_trip
append-moved w needed h =
    let v = reading (record_in w) in
    let m = tail-moved (active (record_in w)) v.id (v.offset + needed) (words-moved w) in
    let b : v.count + 1 < 4294967296 = omega (arith, h) in
    pick (fits v needed) m (pick (ltb (greatest v) (place v + v.offset)) m (pick (last_term v.count) m (pick (is_ready (record_in w)) (rotated-moved v.count v.id b m) m)))

-- what passed the ladder has passed row 2
passed-rung : (b : Bool) (e : Error) (rest : Result ⊤ Error) → refuse_if b e rest ≡ Ok tt → (b ≡ false) × (rest ≡ Ok tt)
passed-rung true e rest h = absurd (let z : ◌≡◌ {A = ℕ} 0 1 = cc in omega arith)
passed-rung false e rest h = (refl, h)

not-not : (b : Bool) → not b ≡ false → b ≡ true
not-not true h = refl
not-not false h = absurd (let z : ◌≡◌ {A = ℕ} 0 1 = cc in omega arith)

-- rows 1 and 2, with which both ladders begin
second-rung : (v : Reading) (n m : ℕ) (rest : Result ⊤ Error) → refuse_if (ltb 2147483647 m) IllegalArgument (refuse_if (not (sound v n)) IllegalRecord rest) ≡ Ok tt → v.count ≤ 2147483647
second-rung v n m rest h =
    let p = passed-rung (ltb 2147483647 m) IllegalArgument (refuse_if (not (sound v n)) IllegalRecord rest) h in
    let q = passed-rung (not (sound v n)) IllegalRecord rest p.1 in
    (sound-true v n (not-not (sound v n) q.0)).count-high

offer-count : (v : Reading) (n m : ℕ) (rest : Result ⊤ Error) → before_append v n m rest ≡ Ok tt → v.count ≤ 2147483647
unfolding before_append
offer-count v n m rest h =
    second-rung v n m (refuse_if v.closed PublicationClosed (after_closed v m (refuse_if (too_long v m) ExceedsMaxMessageLength rest))) h

claim-count : (v : Reading) (n m : ℕ) → claim_verdict v n m ≡ Ok tt → v.count ≤ 2147483647
unfolding claim_verdict
claim-count v n m h =
    second-rung v n m (refuse_if v.closed PublicationClosed (refuse_if (ltb (payload_limit v) m) ExceedsMaxPayloadLength (after_closed v m (tail_room v (space m))))) h

next-moved : (w : List ℤ) (needed : ℕ) (x : Result ⊤ Error) → (x ≡ Ok tt → (reading (record_in w)).count ≤ 2147483647)
    → Moved (record_in w) (next_by (record_in w) (reading (record_in w)) needed x)
next-moved w needed (Err e) h = words-moved w
next-moved w needed (Ok _) h = append-moved w needed (h refl)

offer-moved : (w : List ℤ) (log m : List ℕ) → Moved (record_in w) (offer_of (record_in w) log m).next
unfolding offer_of
offer-moved w log m =
    let v = reading (record_in w) in
    next-moved w (need_of v (length m)) (offer_verdict v (length log) (length m)) (offer-count v (length log) (length m) (tail_room v (need_of v (length m))))

claim-moved : (w : List ℤ) (log : List ℕ) (n : ℤ) → Moved (record_in w) (claim_of (record_in w) log n).next
unfolding claim_of
claim-moved w log n =
    let v = reading (record_in w) in
    next-moved w (space (word n)) (claim_verdict v (length log) (word n)) (claim-count v (length log) (word n))

-- ---- limit and close

limit-at : (w : List ℤ) (n : ℤ) → length w ≡ 14 → record_in (limit_out w (with_limit (record_in w) n)) ≡ with_limit (record_in w) n
unfolding with_limit changed
limit-at w n h = fourteen (λ (v : List ℤ). record_in (limit_out v (with_limit (record_in v) n)) ≡ with_limit (record_in v) n) (λ a0 a1 a2 a3 a4 a5 a6 a7 a8 a9 a10 a11 a12 a13. refl) w h

-- a flag's byte, set
set-flag : (z : ℤ) → SFits w64 z → flag_of (long z) ≡ false → flag_of (long (to_z w64 (long z + 1))) ≡ true
set-flag z f h =
    let b = long-bound z f in
    let e : long z % 256 ≡ 0 = eqb-true (long z % 256) 0 (not-false (eqb (long z % 256) 0) h) in
    let k : long z + 1 < 18446744073709551616 = omega (arith, b, e) in
    let g : (long z + 1) % 256 ≡ 1 = omega (arith, e) in
    ap flag_of (bits64 (long z + 1) k) ∙ ap (λ (n : ℕ). not (eqb n 0)) g
  where
    not-false : (b : Bool) → not b ≡ false → b ≡ true
    not-false true h = refl
    not-false false h = absurd (let z : ◌≡◌ {A = ℕ} 0 1 = cc in omega arith)

-- a record by its flag alone
closed-by : (r : LogRecord) (b : Bool) → b ≡ true → changed r r.tails r.active_term_count r.publication_limit b ≡ with_closed r
unfolding with_closed
closed-by r b e = ap (changed r r.tails r.active_term_count r.publication_limit) e

close_at : (w : List ℤ) → length w ≡ 14 → SFits w64 (at w 9) → record_in (closed_out w (with_closed (record_in w))) ≡ with_closed (record_in w)
unfolding with_closed changed
close_at w h f =
    fourteen (λ (v : List ℤ). SFits w64 (at v 9) → record_in (closed_out v (with_closed (record_in v))) ≡ with_closed (record_in v))
    (λ a0 a1 a2 a3 a4 a5 a6 a7 a8 a9 a10 a11 a12 a13 f9. go a0 a1 a2 a3 a4 a5 a6 a7 a8 a9 a10 a11 a12 a13 f9 (flag_of (long a9)) refl) w h f
  where
    go : (a0 a1 a2 a3 a4 a5 a6 a7 a8 a9 a10 a11 a12 a13 : ℤ) → SFits w64 a9 → (b : Bool) → flag_of (long a9) ≡ b
        → record_in (cond b (a0 ∷ a1 ∷ a2 ∷ a3 ∷ a4 ∷ a5 ∷ a6 ∷ a7 ∷ a8 ∷ a9 ∷ a10 ∷ a11 ∷ a12 ∷ a13 ∷ []) (a0 ∷ a1 ∷ a2 ∷ a3 ∷ a4 ∷ a5 ∷ a6 ∷ a7 ∷ a8 ∷ to_z w64 (long a9 + 1) ∷ a10 ∷ a11 ∷ a12 ∷ a13 ∷ []))
        ≡ with_closed (record_in (a0 ∷ a1 ∷ a2 ∷ a3 ∷ a4 ∷ a5 ∷ a6 ∷ a7 ∷ a8 ∷ a9 ∷ a10 ∷ a11 ∷ a12 ∷ a13 ∷ []))
    go a0 a1 a2 a3 a4 a5 a6 a7 a8 a9 a10 a11 a12 a13 f9 true e = closed-by (record_in (a0 ∷ a1 ∷ a2 ∷ a3 ∷ a4 ∷ a5 ∷ a6 ∷ a7 ∷ a8 ∷ a9 ∷ a10 ∷ a11 ∷ a12 ∷ a13 ∷ [])) (flag_of (long a9)) e
    go a0 a1 a2 a3 a4 a5 a6 a7 a8 a9 a10 a11 a12 a13 f9 false e =
        closed-by (record_in (a0 ∷ a1 ∷ a2 ∷ a3 ∷ a4 ∷ a5 ∷ a6 ∷ a7 ∷ a8 ∷ a9 ∷ a10 ∷ a11 ∷ a12 ∷ a13 ∷ [])) (flag_of (long (to_z w64 (long a9 + 1)))) (set-flag a9 f9 e)

-- ---- the slowest reader and the marks

slowest-at : (w : List ℤ) (p : ℤ) → length w ≡ 14 → record_in (slowest_out w (with_slowest (record_in w) p)) ≡ with_slowest (record_in w) p
unfolding with_slowest noted
slowest-at w p h = fourteen (λ (v : List ℤ). record_in (slowest_out v (with_slowest (record_in v) p)) ≡ with_slowest (record_in v) p) (λ a0 a1 a2 a3 a4 a5 a6 a7 a8 a9 a10 a11 a12 a13. refl) w h

abbrev MarksBack : List ℤ → List Bool → Type 0
MarksBack w ms = record_in (marks_out w (noted (record_in w) (record_in w).slowest_position ms)) ≡ noted (record_in w) (record_in w).slowest_position ms

marks-at : (w : List ℤ) (ms : List Bool) → length w ≡ 14 → length ms ≡ 3 → SFits w64 (at w 11) → MarksBack w ms
unfolding noted
marks-at w ms h j g =
    fourteen (λ (v : List ℤ). SFits w64 (at v 11) → MarksBack v ms)
    (λ a0 a1 a2 a3 a4 a5 a6 a7 a8 a9 a10 a11 a12 a13 g11. three-marks (MarksBack (a0 ∷ a1 ∷ a2 ∷ a3 ∷ a4 ∷ a5 ∷ a6 ∷ a7 ∷ a8 ∷ a9 ∷ a10 ∷ a11 ∷ a12 ∷ a13 ∷ []))
    (λ m0 m1 m2. let b = marks-back a11 g11 m0 m1 m2 in
    ap₂ (λ (x y : Bool). noted (record_in (a0 ∷ a1 ∷ a2 ∷ a3 ∷ a4 ∷ a5 ∷ a6 ∷ a7 ∷ a8 ∷ a9 ∷ a10 ∷ a11 ∷ a12 ∷ a13 ∷ [])) a10 (x ∷ y ∷ bit_of (long (to_z w64 (stored-marks (long a11) m0 m1 m2)) / 4) ∷ [])) b.0 b.1.0
    ∙ ap (λ (z : Bool). noted (record_in (a0 ∷ a1 ∷ a2 ∷ a3 ∷ a4 ∷ a5 ∷ a6 ∷ a7 ∷ a8 ∷ a9 ∷ a10 ∷ a11 ∷ a12 ∷ a13 ∷ [])) a10 (m0 ∷ m1 ∷ z ∷ [])) b.1.1) ms j) w h g

mark-at : (w : List ℤ) (k : ℕ) → length w ≡ 14 → SFits w64 (at w 11) → record_in (marks_out w (with_mark (record_in w) k true)) ≡ with_mark (record_in w) k true
unfolding with_mark
mark-at w k h g = marks-at w (set (record_in w).is_cleared k true) h (length-set (record_in w).is_cleared k true) g

-- one that a verdict lets through, or the old one
reply-back : (w : List ℤ) (next : LogRecord) (x : Result ⊤ Error) (out : List ℤ → LogRecord → List ℤ) → record_in (out w next) ≡ next → record_in (out w (record_in w)) ≡ record_in w
    → record_in (out w (reply_by (record_in w) next x).next) ≡ (reply_by (record_in w) next x).next
reply-back w next (Ok _) out new old = new
reply-back w next (Err e) out new old = old

-- the new record, or the old one
change-back : (w : List ℤ) (next : LogRecord) (out : List ℤ → LogRecord → List ℤ) → record_in (out w next) ≡ next → record_in (out w (record_in w)) ≡ record_in w
    → record_in (out w (change_of (record_in w) next).next) ≡ (change_of (record_in w) next).next
unfolding change_of
change-back w next out new old = go (sound_record (reading next))
  where
    go : (b : Bool)
        → record_in (out w (cond {A = RecordReply} b (record { next = next; answer = Ok tt }) (record { next = record_in w; answer = Err IllegalRecord })).next)
        ≡ (cond {A = RecordReply} b (record { next = next; answer = Ok tt }) (record { next = record_in w; answer = Err IllegalRecord })).next
    go true = new
    go false = old

-- ---- the theorems

pub steps_back : StepsBack
unfolding step clear_of raise_of
steps_back w log (offer m reserved) h = record-back w _ h (offer-moved w log m)
steps_back w log (claim n) h = record-back w _ h (claim-moved w log n)
steps_back w log (fill c b) h = refl
steps_back w log (commit c) h = refl
steps_back w log (abort c) h = refl
steps_back w log (set_limit n) h = change-back w (with_limit (record_in w) n) limit_out (limit-at w n h.count) (ap record_in (record-kept w h).0.1.0)
steps_back w log close h = change-back w (with_closed (record_in w)) closed_out (close_at w h.count (h.fits 9)) (ap record_in (record-kept w h).0.1.1)
steps_back w log (clear k) h =
    reply-back w (with_mark (record_in w) (word k) true) (clear_verdict (reading (record_in w)) (length log) (word k)) marks_out (mark-at w (word k) h.count (h.fits 11)) (ap record_in (record-kept w h).1.1)
steps_back w log (raise p) h =
    reply-back w (with_slowest (record_in w) p) (raise_verdict (reading (record_in w)) (long p)) slowest_out (slowest-at w p h.count) (ap record_in (record-kept w h).1.0)

pub refusals-keep : RefusalsKeep
unfolding RefusalsChangeNothing
refusals-keep w log y e h refused = ap (words_by w y) (ap (λ (x : World). x.record·) (refusals-change-nothing (world w log) y e refused)) ∙ kept y
  where
    kept : (y : Call) → words_by w y (record_in w) ≡ w
    kept (offer m reserved) = (record-kept w h).0.0
    kept (claim n) = (record-kept w h).0.0
    kept (fill c b) = refl
    kept (commit c) = refl
    kept (abort c) = refl
    kept (set_limit n) = (record-kept w h).0.1.0
    kept close = (record-kept w h).0.1.1
    kept (clear k) = (record-kept w h).1.1
    kept (raise p) = (record-kept w h).1.0

pub image-back : ImageBack
image-back w p h = two (λ (v : List ℤ). state_of (image_in (image_out v (moved_to (state_of (image_in v)) p))) ≡ moved_to (state_of (image_in v)) p) (λ a0 a1. refl) w h.count
