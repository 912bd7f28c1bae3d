-- A position by the bits to shift: a term has at most 30 of them, so that all that is worked out of it fits; and the stream of a sound record.
use Rattle.std.proofs.Common.{◌≡◌, ℕ, ◌+◌, ◌-◌, ◌*◌, ◌/◌, ◌%◌, ◌^◌, ◌<◌, ◌≤◌, min, true, eqb, List, drop, sym, ap, ◌∙◌, ap₂, mod-lt, div-le_self, arith, pow_pos, pow_mono}
use lib.Bits.{bit_and, and_mask}
use lib.Pow.{split}
use lib.Pow.{high as pow-high, low as pow_low}
use Rattle.model.specs.declared.LogRecord.{LogRecord}
use Rattle.model.specs.Bytes.{word}
use Rattle.model.specs.DataFrameHeader.{header_at}
use Rattle.model.specs.FrameDescriptor.{length_at, frame_at}
use Rattle.model.specs.LogBufferDescriptor.{reading, reading_of, bits_to_shift, sound}
use Rattle.model.proofs.Power.{power, shift-high}
use Rattle.model.proofs.Sound.{sound-true}
use Rattle.tally.specs.declared.step.Spot.{Spot}
use Rattle.tally.specs.Walk.{Stream, stream_of, stream_by, bytes_at, frame_in, seen, own_id}
use Rattle.tally.specs.Within.{spot_of}

-- the term that some bits give
module _ (shift bits : ℕ) (e : shift ≡ min bits 30) where
  few : shift ≤ 30
  few = omega (arith, e)

  high : 2 ^ shift ≤ 1073741824
  high = pow_mono few

  -- 1 shifted by them
  one_shifted : 1 * 2 ^ shift % 18446744073709551616 ≡ 2 ^ min bits 30
  one_shifted =
      let h = high in
      let z : 1 * 2 ^ shift % 18446744073709551616 ≡ 2 ^ shift = omega (arith, h) in z ∙ ap (λ (n : ℕ). 2 ^ n) e

  -- the bits below the term length are the offset
  masked : (p : ℕ) → bit_and p (1 * 2 ^ shift % 18446744073709551616 - 1) ≡ p % 2 ^ min bits 30
  masked p = ap (λ (n : ℕ). bit_and p (n - 1)) one_shifted ∙ and_mask p (min bits 30)

  -- and with both its count, its index and the room behind it
  pub spot_is : (p : ℕ) → let t = 1 * 2 ^ shift % 18446744073709551616 in let o = bit_and p (t - 1) in
      ◌≡◌ {A = Spot} (record { count = p / 2 ^ shift; offset = o; index = p / 2 ^ shift % 3 * t + o; room = t - o }) (spot_of (2 ^ min bits 30) p)
  spot_is p = ap₂ (λ (t o : ℕ). spotted t o) one_shifted (masked p) ∙ ap (λ (n : ℕ). counted n) e
    where
      spotted : ℕ → ℕ → Spot
      spotted t o = record { count = p / 2 ^ shift; offset = o; index = p / 2 ^ shift % 3 * t + o; room = t - o }

      counted : ℕ → Spot
      counted n = let t = 2 ^ min bits 30 in record { count = p / 2 ^ n; offset = p % t; index = p / 2 ^ n % 3 * t + p % t; room = t - p % t }

-- the stream of a record that is sound, by the bits of its term length
pub term_is : (r : LogRecord) (n bits : ℕ) → sound (reading r) n ≡ true → bits ≡ bits_to_shift (word r.term_length) → 2 ^ min bits 30 ≡ (reading r).term
unfolding reading_of
term_is r n bits h e =
    let t = word r.term_length in
    let k = sound-true (reading r) n h in
    let high : t ≤ 1073741824 = k.term-high in
    let q : 2 ^ bits_to_shift t ≡ t = power 32 t (omega (arith, high)) k.one_bit in
    let b : bits_to_shift t ≤ 30 = shift-high (bits_to_shift t) t q high in
    let m : min bits 30 ≡ bits_to_shift t = omega (arith, e, b) in
    ap (λ (x : ℕ). 2 ^ x) m ∙ q

pub stream-is : (r : LogRecord) (log : List ℕ) (bits i : ℕ) → 2 ^ min bits 30 ≡ (reading r).term → i ≡ word r.initial_term_id → stream_by bits i log ≡ stream_of r log
unfolding stream_by stream_of
stream-is r log bits i e f = ap₂ (λ (x y : ℕ). made x y log) e f
  where
    made : ℕ → ℕ → List ℕ → Stream
    made x y l = record { term = x; initial = y; log = l }

-- ---- the term that a spot lies in

pub record Lying (t p : ℕ) (x : Spot) : Type 0 where
  pub term : x.offset + x.room ≡ t
  pub count : x.count ≡ p / t
  pub low : p / t ≤ p
  pub short : t ≤ 1073741824

pub lying : (bits p : ℕ) (x : Spot) → x ≡ spot_of (2 ^ min bits 30) p → Lying (2 ^ min bits 30) p x
lying bits p x e =
    let t = 2 ^ min bits 30 in
    let o : x.offset ≡ p % t = ap (λ (y : Spot). y.offset) e in
    let r : x.room ≡ t - p % t = ap (λ (y : Spot). y.room) e in
    let b : p % t < t = mod-lt p (pow_pos (min bits 30)) in
    let m : min bits 30 ≤ 30 = omega arith in
    record { term = omega arith; count = ap (λ (y : Spot). y.count) e; low = div-le_self p t; short = pow_mono m }

-- ---- a spot further on in the same term

module _ (k p n : ℕ) (h : p % 2 ^ k + n < 2 ^ k) where
  sum_is : p + n ≡ p / 2 ^ k * 2 ^ k + (p % 2 ^ k + n)
  sum_is = omega (arith, split p k)

  same_count : (p + n) / 2 ^ k ≡ p / 2 ^ k
  same_count = ap (λ (x : ℕ). x / 2 ^ k) sum_is ∙ pow-high (p / 2 ^ k) k h

  more-offset : (p + n) % 2 ^ k ≡ p % 2 ^ k + n
  more-offset = ap (λ (x : ℕ). x % 2 ^ k) sum_is ∙ pow_low (p / 2 ^ k) k h

-- what the code works out of a spot, if less than the room behind it is passed
abbrev pub passed : Spot → ℕ → Spot
passed at n = record { count = at.count; offset = at.offset + n; index = at.index + n; room = at.room - n }

pub same-term : (k p n : ℕ) (at : Spot) → at ≡ spot_of (2 ^ k) p → n < at.room → passed at n ≡ spot_of (2 ^ k) (p + n)
same-term k p n at e h =
    let t = 2 ^ k in
    let r : at.room ≡ t - p % t = ap (λ (x : Spot). x.room) e in
    let l : p % t + n < t = omega arith in
    let c : (p + n) / t ≡ p / t = same_count k p n l in
    let o : (p + n) % t ≡ p % t + n = more-offset k p n l in
    ap (λ (x : Spot). passed x n) e
    ∙ spotted (p / t) (p % t + n) (p / t % 3 * t + p % t + n) (t - p % t - n) (sym c) (sym o) (rw (c, o) (omega arith)) (rw o (omega arith))
  where
    spotted : (a b c d : ℕ) {a' b' c' d' : ℕ} → a ≡ a' → b ≡ b' → c ≡ c' → d ≡ d'
        → ◌≡◌ {A = Spot} (record { count = a; offset = b; index = c; room = d }) (record { count = a'; offset = b'; index = c'; room = d' })
    spotted a b c d p q r s = cc

-- ---- what is read at a position's spot is what the walk sees there

module _ (bits i : ℕ) (log : List ℕ) (p : ℕ) (x : Spot) (e : x ≡ spot_of (2 ^ min bits 30) p) where
  pub frames : frame_at (drop x.index log) x.room ≡ frame_in (2 ^ min bits 30) log p
  unfolding frame_in
  frames = ap (λ (y : Spot). frame_at (drop y.index log) y.room) e

  pub sees : frame_at (drop x.index log) x.room ≡ seen (stream_by bits i log) p
  unfolding stream_by
  sees = frames

  pub owns : eqb (header_at (drop x.index log)).id ((i + x.count) % 4294967296) ≡ own_id (stream_by bits i log) p
  unfolding own_id stream_by
  owns = ap (λ (y : Spot). eqb (header_at (drop y.index log)).id ((i + y.count) % 4294967296)) e

  pub lengths : length_at (drop x.index log) ≡ length_at (bytes_at (stream_by bits i log) p)
  unfolding stream_by
  lengths = ap (λ (y : Spot). length_at (drop y.index log)) e
