-- What the tests that a call has passed say of its answer.
use Rattle.std.specs.Prelude.{Result, Ok, Err}
use mathlib.Core.Path.{◌≡◌, sym, ap, ap₂, ◌∙◌, subst}
use mathlib.Core.Bool.{Bool, true, false, cond, ◌&&◌}
use mathlib.Core.List.{List, [], ◌∷◌}
use Prim.Native.Nat.{ℕ, zero, suc, ◌+◌, ◌-◌, ◌^◌, ◌≤◌, ◌<◌}
use native.Mathlib.Omega.{arith}
use borrow.Author.Tests.{le-leb}
use lib.Dec.{eqb}
use lib.ListN.{length, take, drop, get_or, length-drop}
use lib.Seq.{take-length}
use Rattle.std.proofs.lemmas.Bool.Decides.{nat_tests}
use Rattle.card.specs.declared.Card.{Card}
use Rattle.card.specs.declared.CardError.{CardError}
use Rattle.card.specs.declared.CardRead.{CardRead}
use Rattle.card.specs.declared.CardError.TheVariants.{IllegalArgument}
use Rattle.card.specs.Bytes.{sum, splice, Bytes}
use Rattle.card.specs.Card.{widths, card_of, sound_card, encode, size_of, Decoded, card, broken, shown, decode, short, write_of, left_by, write_bytes, located, read_of, note_in, note_of, card_at}
use Rattle.card.specs.Sole.{Fit, none, one}
use Rattle.card.proofs.Fields.{fits, fit-numbers}

-- ---- widths

-- the most that each can be
abbrev pub most : List ℕ
most = 1 ∷ 4 ∷ 2 ∷ 2 ∷ 1 ∷ 4 ∷ 1 ∷ []

pub narrow : (x i : ℕ) → (get_or (widths x) i 0 ≤ get_or most i 0) × (get_or most i 0 ≤ 4)
unfolding widths
narrow x zero = (omega arith, omega arith)
narrow x (suc zero) = (omega arith, omega arith)
narrow x (suc (suc zero)) = (omega arith, omega arith)
narrow x (suc (suc (suc zero))) = (omega arith, omega arith)
narrow x (suc (suc (suc (suc zero)))) = (omega arith, omega arith)
narrow x (suc (suc (suc (suc (suc zero))))) = (omega arith, omega arith)
narrow x (suc (suc (suc (suc (suc (suc zero)))))) = (omega arith, omega arith)
narrow x (suc (suc (suc (suc (suc (suc (suc i))))))) = (omega arith, omega arith)

pub four : (x i : ℕ) → get_or (widths x) i 0 ≤ 4
four x i = omega (arith, (narrow x i).0, (narrow x i).1)

-- ---- writing

pub write_done : (c : Card) (note out : List ℕ) → length note ≤ 2147483647 → length out ≤ 2147483647 → sound_card c (length note) ≡ true
    → size_of c (length note) ≤ length out
    → (Ok (size_of c (length note)) ≡ write_of c note out) × (splice out 0 (encode c note) ≡ write_bytes c note out)
unfolding write_of write_bytes
write_done c note out n o s h =
    let e : Ok (size_of c (length note)) ≡ write_of c note out = grind (arith, nat_tests) in
    (e, ap (left_by out (encode c note)) e)

-- a length answered means that all tests were passed
pub record Passed (c : Card) (note out : List ℕ) (n : ℕ) : Type 0 where
  pub sound : sound_card c (length note) ≡ true
  pub size : size_of c (length note) ≡ n
  pub room : n ≤ length out
  pub small : length out ≤ 2147483647
  pub left : write_bytes c note out ≡ splice out 0 (encode c note)

pub passed : (c : Card) (note out : List ℕ) (n : ℕ) → write_of c note out ≡ Ok n → Passed c note out n
unfolding write_of write_bytes
passed c note out n e = record {
  sound = grind (arith, nat_tests);
  size = grind (arith, nat_tests);
  room = grind (arith, nat_tests);
  small = grind (arith, nat_tests);
  left = ap (left_by out (encode c note)) e;
}

-- ---- reading

fit_at : {ws ns : List ℕ} → Fit ws ns → (k : ℕ) → get_or ns k 0 < 256 ^ get_or ws k 0
fit_at none k = omega arith
fit_at (one h f) zero = h
fit_at (one h f) (suc k) = fit_at f k

module _ (b ns : List ℕ) (e : ns ≡ shown b) where
  -- a number that was read fits its field
  pub shown-below : Bytes b → (k : ℕ) → get_or ns k 0 < 256 ^ get_or most k 0
  unfolding shown
  shown-below bytes k =
      fits (get_or most k 0) (subst (λ (s : List ℕ). get_or s k 0 < 256 ^ get_or (widths (get_or b 0 0)) k 0) (sym e) (fit_at (fit-numbers (widths (get_or b 0 0)) b 0 bytes) k)) (narrow (get_or b 0 0) k).0

  pub decoded : (from : ℕ) → from ≡ sum (widths (get_or b 0 0))
      → decode b ≡ cond (sound_card (card_of ns) (get_or ns 6 0) && eqb (length b) (from + get_or ns 6 0)) (card (card_of ns) (drop from b)) broken
  unfolding decode
  decoded from f = rw (e, f)

-- ---- what is decoded

pub record Accepted (b : List ℕ) (c : Card) (note : List ℕ) : Type 0 where
  pub sound : sound_card (card_of (shown b)) (get_or (shown b) 6 0) ≡ true
  pub even : length b ≡ sum (widths (get_or b 0 0)) + get_or (shown b) 6 0
  pub same-card : card_of (shown b) ≡ c
  pub same-note : drop (sum (widths (get_or b 0 0))) b ≡ note

pub accepted : (b : List ℕ) (c : Card) (note : List ℕ) → decode b ≡ card c note → Accepted b c note
unfolding decode
accepted b c note e = record {
  sound = grind (arith, nat_tests);
  even = grind (arith, nat_tests);
  same-card = grind (arith, nat_tests);
  same-note = grind (arith, nat_tests);
}

-- ---- the note

pub behind : (b : List ℕ) (c : Card) (note : List ℕ) → decode b ≡ card c note → (length note ≤ length b) × (drop (length b - length note) b ≡ note)
behind b c note e =
    let a = accepted b c note e in
    let at = sum (widths (get_or b 0 0)) in
    let l : length note ≡ length b - at = ap length (sym a.same-note) ∙ length-drop at b in
    let k : at ≤ length b = omega (arith, a.even) in
    let m : length b - length note ≡ at = omega arith in
    (omega arith, ap (λ (n : ℕ). drop n b) m ∙ a.same-note)

same-found : {r s : CardRead} → ◌≡◌ {A = Result CardRead CardError} (Ok r) (Ok s) → r ≡ s
same-found e = cc

-- what a card that was read says of what was decoded from m bytes
found-by : (t : Bool) (m : ℕ) (d : Decoded) (r : CardRead) → cond t (located m d) (Err IllegalArgument) ≡ Ok r → let note = cond t (note_in d) [] in
    (d ≡ card r.card note) × ((r.note_start ≡ m - length note) × (r.note_length ≡ length note))
found-by true m (card c note) r e =
    let same = same-found e in (
      ap (λ (x : CardRead). card x.card note) same,
      (sym (ap (λ (x : CardRead). x.note_start) same), sym (ap (λ (x : CardRead). x.note_length) same)),
    )
found-by true m broken r e = absurd cc
found-by false m d r e = absurd cc

pub found-decoded : (b : List ℕ) (c : Card) (from n : ℕ) → read_of b ≡ card_at c from n → decode b ≡ card c (note_of b)
unfolding read_of note_of
found-decoded b c from n e = (found-by (short b) (length b) (decode b) _ e).0

-- what is read as a card has its note where the answer says
pub located-note : (b : List ℕ) (c : Card) (from n : ℕ) → read_of b ≡ card_at c from n → (from + n ≤ length b) × (take n (drop from b) ≡ note_of b)
unfolding read_of note_of
located-note b c from n e =
    let note = note_of b in
    let f = found-by (short b) (length b) (decode b) _ e in
    let l = behind b c note f.0 in
    (omega (arith, f.1.0, f.1.1, l.0), ap₂ (λ (k a : ℕ). take k (drop a b)) f.1.1 f.1.0 ∙ ap (take (length note)) l.1 ∙ take-length note)

pub decoded-found : (b : List ℕ) (c : Card) (note : List ℕ) → length b ≤ 2147483647 → decode b ≡ card c note
    → (read_of b ≡ card_at c (length b - length note) (length note)) × (note_of b ≡ note)
unfolding read_of note_of
decoded-found b c note l e = (simp (le-leb _ _ l, e), simp (le-leb _ _ l, e))
