-- Packing again what was unpacked changes no word: the theorems of specs/Theorems.antt that say so.
use mathlib.Core.Path.{◌≡◌, refl, sym, ap, ap₂, ◌∙◌}
use mathlib.Core.Bool.{Bool, true, false, cond, not}
use Prim.Native.Nat.{ℕ, zero, suc, ◌+◌, ◌*◌, ◌/◌, ◌%◌, ◌<◌}
use lib.Dec.{eqb}
use mathlib.Core.List.{List}
use native.Mathlib.Omega.{arith}
use lib.IntN.{ℤ, pos, negsuc}
use lib.ListN.{set}
use lib.Seq.{set-get_or, get_or-set_other}
use mir.Syntax.{w32, w64}
use mir.Val.{Fits, SFits, of_z, to_z}
use mir.Facts.{to_z-of_z, of_z-to_z}
use Rattle.model.specs.Bytes.{word, long}
use Rattle.model.specs.declared.LogRecord.{LogRecord}
use Rattle.model.specs.LogBufferDescriptor.{changed, tail_of}
use Rattle.logbuffer.specs.Assembler.{sessions_of}
use Rattle.capi.specs.Words.{at, low_of, high_of, pair_of, flag_of, bit_of, bit_number, record_in, record_out, tail_moved, marks_word, marks_out, count_out, shut_bits, ids_from, held_from, ids_to, held_to, assembler_from, assembler_to}
use Rattle.capi.specs.Theorems.{RecordKept, ImageKept, AssemblerKept, ReplayKept}

-- ---- parts of a word

pub long-bound : (z : ℤ) → SFits w64 z → long z < 18446744073709551616
long-bound (pos n) f = omega arith
long-bound (negsuc n) f = omega arith

pub word_bound : (z : ℤ) → SFits w32 z → word z < 4294967296
word_bound (pos n) f = omega arith
word_bound (negsuc n) f = omega arith

pub bits64 : (n : ℕ) → n < 18446744073709551616 → long (to_z w64 n) ≡ n
bits64 n h = let f : Fits w64 n = record { fits = h } in of_z-to_z f

pub bits32 : (n : ℕ) → n < 4294967296 → word (to_z w32 n) ≡ n
bits32 n h = let f : Fits w32 n = record { fits = h } in of_z-to_z f

-- the bits of the halves
pub low_bits : (w : ℤ) → word (low_of w) ≡ long w % 4294967296
low_bits w =
    let n = long w in
    let h : n % 4294967296 * 4294967296 < 18446744073709551616 = omega arith in
    let e : n % 4294967296 * 4294967296 / 4294967296 ≡ n % 4294967296 = omega arith in
    let k : n % 4294967296 < 4294967296 = omega arith in
    ap (λ (m : ℕ). word (to_z w32 (m / 4294967296))) (bits64 (n % 4294967296 * 4294967296) h) ∙ ap (λ (m : ℕ). word (to_z w32 m)) e ∙ bits32 (n % 4294967296) k

pub high_bits : (w : ℤ) → SFits w64 w → word (high_of w) ≡ long w / 4294967296
high_bits w f =
    let n = long w in
    let b : n < 18446744073709551616 = long-bound w f in
    let h : n / 4294967296 < 4294967296 = omega (arith, b) in bits32 (n / 4294967296) h

pub pair_same : (w : ℤ) → SFits w64 w → pair_of (low_of w) (high_of w) ≡ w
pair_same w f =
    let n = long w in
    let e : n % 4294967296 + n / 4294967296 * 4294967296 ≡ n = omega arith in
    ap₂ (λ (a b : ℕ). to_z w64 (a + b * 4294967296)) (low_bits w) (high_bits w f) ∙ ap (to_z w64) e ∙ to_z-of_z f

pub count_same : (w : ℤ) → SFits w64 w → count_out (long w) ≡ w
count_same w f = to_z-of_z f

-- ---- words stored where they are

-- a list that is the words so far, and a word stored in it that is the word there
stored : (w : List ℤ) (i : ℕ) {v : List ℤ} {x : ℤ} → v ≡ w → x ≡ at w i → set v i x ≡ w
stored w i p q = ap₂ (λ (u : List ℤ) (y : ℤ). set u i y) p q ∙ set-get_or w i (pos 0)

-- a bit read and stored again
bit-same : (n : ℕ) → bit_number (bit_of n) ≡ n % 2
bit-same n = go (n % 2) refl
  where
    go : (m : ℕ) → n % 2 ≡ m → bit_number (not (eqb m 0)) ≡ m
    go zero e = refl
    go (suc zero) e = refl
    go (suc (suc m)) e = absurd (omega arith)

-- a number is its bits and what is behind them
halves : (n a b c : ℕ) {x y z : ℕ} → x ≡ n % 2 → y ≡ a % 2 → z ≡ b % 2 → n / 2 ≡ a → a / 2 ≡ b → b / 2 ≡ c → c * 8 + (x + 2 * y + 4 * z) ≡ n
halves n a b c p q r f g h = omega arith

-- the marks read and stored again, beside the bits that are kept
marks-same : (z : ℤ) → SFits w64 z → (n : ℕ) → long z ≡ n → to_z w64 (n / 8 * 8 + (bit_number (bit_of n) + 2 * bit_number (bit_of (n / 2)) + 4 * bit_number (bit_of (n / 4)))) ≡ z
marks-same z f n e =
    let a : n / 2 / 2 ≡ n / 4 = omega arith in
    let b : n / 4 / 2 ≡ n / 8 = omega arith in
    let k : n / 8 * 8 + (bit_number (bit_of n) + 2 * bit_number (bit_of (n / 2)) + 4 * bit_number (bit_of (n / 4))) ≡ long z = halves n (n / 2) (n / 4) (n / 8) (bit-same n) (bit-same (n / 2)) (bit-same (n / 4)) refl a b ∙ sym e in
    ap (to_z w64) k ∙ to_z-of_z f

pub record-kept : RecordKept
record-kept w h =
    let t = stored w 2 (stored w 1 (stored w 0 refl refl) refl) refl in
    let q = stored w 3 t (pair_same (at w 3) (h.fits 3)) in
    let m = marks-same (at w 11) (h.fits 11) (long (at w 11)) refl in
    let marks = stored w 11 refl m in
    ((ap (λ (v : List ℤ). marks_out v (record_in w)) q ∙ marks, (stored w 7 refl refl, closed (flag_of (long (at w 9))))), (stored w 10 refl refl, marks))
  where
    closed : (b : Bool) → cond b w (cond b (set w 9 (to_z w64 (long (at w 9) + 1))) w) ≡ w
    closed true = refl
    closed false = refl

-- One tail moved in its word is the record with it written out: the other words are those that were there.
module _ (w : List ℤ) (t : ℤ) (fits : (i : ℕ) → SFits w64 (at w i)) where
  abbrev moved : ℕ → LogRecord
  moved k = tail_moved (record_in w) k t

  -- behind the tails
  rest : (k : ℕ) {v : List ℤ} → v ≡ set w k t → (k ≡ 3 → ⊥) → (k ≡ 11 → ⊥) → marks_out (set v 3 (pair_of (low_of (at w 3)) (high_of (at w 3)))) (moved k) ≡ set w k t
  unfolding changed
  rest k p three eleven =
      let u = set w k t in
      let third : at u 3 ≡ at w 3 = get_or-set_other w k 3 t (pos 0) (λ e. three (sym e)) in
      let last : at u 11 ≡ at w 11 = get_or-set_other w k 11 t (pos 0) (λ e. eleven (sym e)) in
      let q = stored u 3 p (pair_same (at w 3) (fits 3) ∙ sym third) in
      ap (λ (v : List ℤ). marks_out v (moved k)) q
      ∙ stored u 11 refl (ap (λ (z : ℤ). marks_word (long z) (moved k)) last ∙ marks-same (at w 11) (fits 11) (long (at w 11)) refl ∙ sym last)

  pub tail-alone : (k : ℕ) → k < 3 → set w k t ≡ record_out w (moved k)
  unfolding changed
  tail-alone zero h =
      let u = set w 0 t in
      let one : at w 1 ≡ at u 1 = sym (get_or-set_other w 0 1 t (pos 0) (λ e. omega arith)) in
      let two : at w 2 ≡ at u 2 = sym (get_or-set_other w 0 2 t (pos 0) (λ e. omega arith)) in
      sym (rest 0 (stored u 2 (stored u 1 refl one) two) (λ e. omega arith) (λ e. omega arith))
  tail-alone (suc zero) h =
      let u = set w 1 t in
      let two : at w 2 ≡ at u 2 = sym (get_or-set_other w 1 2 t (pos 0) (λ e. omega arith)) in
      sym (rest 1 (stored u 2 (ap (λ (v : List ℤ). set v 1 t) (stored w 0 refl refl)) two) (λ e. omega arith) (λ e. omega arith))
  tail-alone (suc (suc zero)) h =
      sym (rest 2 (ap (λ (v : List ℤ). set v 2 t) (stored w 1 (stored w 0 refl refl) refl)) (λ e. omega arith) (λ e. omega arith))
  tail-alone (suc (suc (suc k))) h = absurd (omega arith)

-- the active partition's tail, by its word
pub tail_at : (w : List ℤ) (k : ℕ) → k < 3 → at w k ≡ tail_of (record_in w) k
tail_at w zero h = refl
tail_at w (suc zero) h = refl
tail_at w (suc (suc zero)) h = refl
tail_at w (suc (suc (suc k))) h = absurd (omega arith)

pub image-kept : ImageKept
image-kept w h = (stored w 0 refl refl, closed (flag_of (long (at w 1) / 4294967296)))
  where
    closed : (b : Bool) → cond b w (cond b (set w 1 (to_z w64 (shut_bits (long (at w 1)) (flag_of (long (at w 1) / 1099511627776))))) w) ≡ w
    closed true = refl
    closed false = refl

-- the words of an assembler from a word on
module _ (w : List ℤ) (fits : (i : ℕ) → SFits w64 (at w i)) where
  ids-kept : (i : ℕ) {v : List ℤ} → v ≡ w → ids_to v i (ids_from w i) ≡ w
  ids-kept i p =
      stored w (i + 7) (stored w (i + 6) (stored w (i + 5) (stored w (i + 4) (stored w (i + 3) (stored w (i + 2) (stored w (i + 1) (stored w i p (pair_same (at w i) (fits i))) (pair_same (at w (i + 1)) (fits (i + 1)))) (pair_same (at w (i + 2)) (fits (i + 2)))) (pair_same (at w (i + 3)) (fits (i + 3)))) (pair_same (at w (i + 4)) (fits (i + 4)))) (pair_same (at w (i + 5)) (fits (i + 5)))) (pair_same (at w (i + 6)) (fits (i + 6)))) (pair_same (at w (i + 7)) (fits (i + 7)))

  held_kept : (i : ℕ) {v : List ℤ} → v ≡ w → held_to v i (held_from w i) ≡ w
  held_kept i p =
      stored w (i + 15) (stored w (i + 14) (stored w (i + 13) (stored w (i + 12) (stored w (i + 11) (stored w (i + 10) (stored w (i + 9) (stored w (i + 8) (stored w (i + 7) (stored w (i + 6) (stored w (i + 5) (stored w (i + 4) (stored w (i + 3) (stored w (i + 2) (stored w (i + 1) (stored w i p (count_same (at w i) (fits i))) (count_same (at w (i + 1)) (fits (i + 1)))) (count_same (at w (i + 2)) (fits (i + 2)))) (count_same (at w (i + 3)) (fits (i + 3)))) (count_same (at w (i + 4)) (fits (i + 4)))) (count_same (at w (i + 5)) (fits (i + 5)))) (count_same (at w (i + 6)) (fits (i + 6)))) (count_same (at w (i + 7)) (fits (i + 7)))) (count_same (at w (i + 8)) (fits (i + 8)))) (count_same (at w (i + 9)) (fits (i + 9)))) (count_same (at w (i + 10)) (fits (i + 10)))) (count_same (at w (i + 11)) (fits (i + 11)))) (count_same (at w (i + 12)) (fits (i + 12)))) (count_same (at w (i + 13)) (fits (i + 13)))) (count_same (at w (i + 14)) (fits (i + 14)))) (count_same (at w (i + 15)) (fits (i + 15)))

  pub sessions-kept : (i : ℕ) {v : List ℤ} → v ≡ w → assembler_to v i (sessions_of (assembler_from w i)) ≡ w
  sessions-kept i p = held_kept (i + 9) (ids-kept (i + 1) (stored w i p (count_same (at w i) (fits i))))

pub assembler-kept : AssemblerKept
assembler-kept w h = sessions-kept w h.fits 0 refl

pub replay-kept : ReplayKept
replay-kept w buffer h = sessions-kept w h.fits 2 (stored w 0 refl refl)
