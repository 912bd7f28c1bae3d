-- Bytes are read as a card exactly if they are that card's encoding: what numbers one behind the other show and say (Fields), with the
-- first byte's bits for the widths and the last number for the note's length.
use Rattle.std.specs.Prelude.{Ok}
use mathlib.Core.Path.{◌≡◌, refl, sym, ap, ap₂, ◌∙◌, subst}
use mathlib.Core.Bool.{Bool, true, cond, ◌&&◌}
use mathlib.Core.List.{List, [], ◌∷◌, ◌++◌}
use Prim.Native.Nat.{ℕ, zero, suc, ◌+◌, ◌-◌, ◌*◌, ◌/◌, ◌%◌, ◌^◌, ◌≤◌, ◌<◌}
use native.Mathlib.Nat.{mul-zero, mul-one}
use native.Mathlib.Omega.{arith}
use borrow.Author.Tests.{eq-eqb}
use lib.ListN.{length, take, drop, get_or, length-drop}
use lib.Seq.{take_at, take-length, length-take-le}
use Rattle.std.proofs.lemmas.Bool.Decides.{nat_tests}
use Rattle.card.specs.declared.Card.{Card}
use Rattle.card.specs.Bytes.{le, joined, numbers, sum, splice, Bytes}
use Rattle.card.specs.Card.{widths, numbers_of, card_of, sound_card, within, held, note_held, encode, size_of, Decoded, card, broken, shown, decode, write_bytes, read_of, note_of, card_at}
use Rattle.card.specs.Sole.{Fit, none, one, Typed, kept, Canonical, Sole, SoleRead, ReadBack, WrittenRead, ReadWritten, Sized, InBounds}
use Rattle.card.proofs.Calls.{write_done, passed, decoded, accepted, behind, found-decoded, decoded-found}
use Rattle.card.proofs.Fields.{number-one, fits, length-joined, numbers-joined, joined_numbers, fit-numbers, bytes_drop, bytes_take}

-- the last of seven numbers that fit: nothing where bit 5 is off
last : (x : ℕ) {a b c d e f n : ℕ} → Fit (widths x) (a ∷ b ∷ c ∷ d ∷ e ∷ f ∷ n ∷ []) → n < 256 ^ (x / 32 % 2)
unfolding widths
last x (one _ (one _ (one _ (one _ (one _ (one _ (one h none))))))) = h

-- ---- numbers whose bit may be off

bit : (P : ℕ → Type 0) (x : ℕ) → P 0 → P 1 → P (x % 2)
bit P x p q = by_bit (x % 2) (omega arith)
  where
    by_bit : (m : ℕ) → m < 2 → P m
    by_bit zero l = p
    by_bit (suc zero) l = q
    by_bit (suc (suc m)) l = absurd (omega arith)

held-le : (x n : ℕ) → held (x % 2) n ≤ n
unfolding held
held-le x n = bit (λ (m : ℕ). held m n ≤ n) x (omega arith) (omega arith)

-- such a number has the bytes of the number itself, and fits them
le-held : (w x n : ℕ) → le (w * (x % 2)) (held (x % 2) n) ≡ le (w * (x % 2)) n
unfolding le held
le-held w x n = bit (λ (m : ℕ). le (w * m) (held m n) ≡ le (w * m) n) x (rw mul-zero) refl

le-held-one : (x n : ℕ) → le (x % 2) (held (x % 2) n) ≡ le (x % 2) n
unfolding le held
le-held-one x n = bit (λ (m : ℕ). le m (held m n) ≡ le m n) x refl refl

fit-held : (w x : ℕ) {n : ℕ} → n < 256 ^ w → held (x % 2) n < 256 ^ (w * (x % 2))
unfolding held
fit-held w x {n} h = bit (λ (m : ℕ). held m n < 256 ^ (w * m)) x (rw mul-zero (omega arith)) (rw mul-one h)

fit-held-one : (x : ℕ) {n : ℕ} → n < 256 → held (x % 2) n < 256 ^ (x % 2)
unfolding held
fit-held-one x {n} h = bit (λ (m : ℕ). held m n < 256 ^ m) x (omega arith) h

within_held : (x top n : ℕ) → within (x % 2) top (held (x % 2) n) ≡ within (x % 2) top n
unfolding within held
within_held x top n = bit (λ (m : ℕ). within m top (held m n) ≡ within m top n) x refl refl

-- a number that fits its width is held whole; so is a note whose length fits
held_whole : (x n : ℕ) → n < 256 ^ (x % 2) → held (x % 2) n ≡ n
unfolding held
held_whole x n = bit (λ (m : ℕ). n < 256 ^ m → held m n ≡ n) x (λ h. omega arith) (λ h. refl)

whole : (x : ℕ) (note : List ℕ) → length note < 256 ^ (x / 32 % 2) → note_held x note ≡ note
whole x note h = ap (λ (k : ℕ). take k note) (held_whole (x / 32) (length note) h) ∙ take-length note

length-held : (x : ℕ) (note : List ℕ) → length (note_held x note) ≡ held (x / 32 % 2) (length note)
length-held x note = length-take-le (held (x / 32 % 2) (length note)) note (held-le (x / 32) (length note))

pub sized : Sized
unfolding encode size_of widths
sized c note =
    omega (arith, length-held c.bits note, length-joined (widths c.bits) (numbers_of c (length note)) (note_held c.bits note) refl)

-- ---- what is read is canonical, and encodes to the bytes

module _ (b : List ℕ) (bytes : Bytes b) where
  abbrev at : ℕ
  at = sum (widths (get_or b 0 0))

  abbrev n : ℕ
  n = get_or (shown b) 6 0

  abbrev c : Card
  c = card_of (shown b)

  bits_are : c.bits ≡ get_or b 0 0
  unfolding shown widths numbers
  bits_are = number-one b

  shown-are : numbers_of c n ≡ numbers (widths (get_or b 0 0)) b 0
  unfolding shown widths numbers
  shown-are = refl

  fit : Fit (widths c.bits) (numbers_of c n)
  fit =
      subst (λ (y : ℕ). Fit (widths y) (numbers_of c n)) (sym bits_are)
      (subst (Fit (widths (get_or b 0 0))) (sym shown-are) (fit-numbers (widths (get_or b 0 0)) b 0 bytes))

  joined-are : length b ≡ at + n → joined (widths c.bits) (numbers_of c n) (drop at b) ≡ b
  joined-are l =
      let z : at ≡ 0 + at = omega arith in
      ap₂ (λ (y : ℕ) (s : List ℕ). joined (widths y) s (drop at b)) bits_are shown-are
      ∙ ap (λ (k : ℕ). joined (widths (get_or b 0 0)) (numbers (widths (get_or b 0 0)) b 0) (drop k b)) z
      ∙ joined_numbers (widths (get_or b 0 0)) b 0 bytes (omega arith)

  note-length : length b ≡ at + n → length (drop at b) ≡ n
  note-length l = length-drop at b ∙ omega arith

  shown-canonical : length b ≡ at + n → sound_card c n ≡ true → Canonical c (drop at b)
  shown-canonical l s = record {
    sound = rw (note-length l) s;
    fit = rw (note-length l) fit;
    bytes = bytes_drop at b bytes;
  }

  shown-encoded : length b ≡ at + n → b ≡ encode c (drop at b)
  unfolding encode
  shown-encoded l =
      let k : length (drop at b) < 256 ^ (c.bits / 32 % 2) = rw (note-length l) (last c.bits fit) in
      sym (joined-are l) ∙ rw (whole c.bits (drop at b) k, note-length l)

pub is-encoding : (b : List ℕ) → Bytes b → (c : Card) (note : List ℕ) → decode b ≡ card c note → Canonical c note × (b ≡ encode c note)
is-encoding b bytes c note e =
    let a = accepted b c note e in
    subst (λ (s : List ℕ). Canonical c s × (b ≡ encode c s)) a.same-note
    (subst (λ (d : Card). let s = drop (sum (widths (get_or b 0 0))) b in
    Canonical d s × (b ≡ encode d s)) a.same-card (shown-canonical b bytes a.even a.sound, shown-encoded b bytes a.even))

-- ---- a canonical card's encoding is read as the card

pick : (t u : Bool) (z : Decoded) → t ≡ true → u ≡ true → cond (t && u) z broken ≡ z
pick t u z p q = simp (p, q)

module _ (b : List ℕ) (c : Card) (note : List ℕ) (k : Canonical c note) (e : b ≡ encode c note) where
  abbrev all : List ℕ
  all = numbers_of c (length note)

  bytes-are : b ≡ joined (widths c.bits) all note
  unfolding encode
  bytes-are = e ∙ ap (joined (widths c.bits) all) (whole c.bits note (last c.bits k.fit))

  numbers-are : (numbers (widths c.bits) b 0 ≡ all) × (drop (0 + sum (widths c.bits)) b ≡ note)
  numbers-are = numbers-joined k.fit b note 0 bytes-are

  first_byte : get_or b 0 0 ≡ c.bits
  unfolding numbers widths
  first_byte = sym (number-one b) ∙ ap (λ (s : List ℕ). get_or s 0 0) numbers-are.0

  all_shown : all ≡ shown b
  unfolding shown
  all_shown = sym (ap (λ (y : ℕ). numbers (widths y) b 0) first_byte ∙ numbers-are.0)

  to_the_end : length b ≡ sum (widths c.bits) + length note
  unfolding widths
  to_the_end = ap length bytes-are ∙ length-joined (widths c.bits) all note refl

  small : length b ≤ 2147483647
  unfolding widths sum
  small = omega (arith, to_the_end, fits 1 (last c.bits k.fit) (omega arith))

  wrote : decode b ≡ card c note
  wrote =
      let z : sum (widths c.bits) ≡ 0 + sum (widths c.bits) = omega arith in
      decoded b all all_shown (sum (widths c.bits)) (ap (λ (y : ℕ). sum (widths y)) (sym first_byte))
      ∙ pick (sound_card c (length note)) _ _ k.sound (eq-eqb _ _ to_the_end) ∙ ap (card c) (ap (λ (m : ℕ). drop m b) z ∙ numbers-are.1)

pub sole : Sole
sole b bytes c note = (is-encoding b bytes c note, λ h. wrote b c note h.0 h.1)

pub sole-read : SoleRead
sole-read b bytes c note = (
  λ h. is-encoding b bytes c note (found-decoded b c (length b - length note) (length note) h.0 ∙ ap (card c) h.1),
  λ h. decoded-found b c note (small b c note h.0 h.1) (wrote b c note h.0 h.1),
)

-- ---- what is written of any sound card

-- a field from 1 to 255 fits a byte, and has none where its bit is off
within-fits : (x n : ℕ) → within (x % 2) 255 n ≡ true → held (x % 2) n < 256 ^ (x % 2)
unfolding within held
within-fits x n =
    bit (λ (m : ℕ). within m 255 n ≡ true → held m n < 256 ^ m) x (λ h. omega arith) (λ h. grind (arith, nat_tests))

held-twice : (x n : ℕ) → held (x % 2) (held (x % 2) n) ≡ held (x % 2) n
unfolding held
held-twice x n = bit (λ (m : ℕ). held m (held m n) ≡ held m n) x refl refl

note-twice : (x : ℕ) (note : List ℕ) → note_held x (note_held x note) ≡ note_held x note
note-twice x note =
    let t = note_held x note in
    let l = length-held x note in
    ap (λ (k : ℕ). take k t) (ap (held (x / 32 % 2)) l ∙ held-twice (x / 32) (length note) ∙ sym l) ∙ take-length t

pub in_bounds : InBounds
unfolding sound_card size_of widths sum
in_bounds c n s =
    let b = c.bits in
    let w : within (b / 32 % 2) 255 n ≡ true = grind (arith, nat_tests) in
    let h : held (b / 32 % 2) n < 256 = fits 1 (within-fits (b / 32) n w) (omega arith) in
    let e : b % 2 ≡ 1 = grind (arith, nat_tests) in
    (omega arith, omega arith)

kept-canonical : (c : Card) (note : List ℕ) → Typed c → Bytes note → sound_card c (length note) ≡ true → Canonical (kept c) (note_held c.bits note)
unfolding sound_card widths
kept-canonical c note t bytes s =
    let b = c.bits in
    let w : within (b / 32 % 2) 255 (length note) ≡ true = grind (arith, nat_tests) in
    let l : length (note_held b note) < 256 ^ (b / 32 % 2) = rw (length-held b note) (within-fits (b / 32) (length note) w) in record {
      sound = rw (length-held b note, within_held (b / 8), within_held (b / 32)) s;
      fit =
          one t.bits (one (fit-held 4 b t.find) (one (fit-held 2 (b / 2) t.trench) (one (fit-held 2 (b / 4) t.context)
          (one (fit-held-one (b / 8) t.material) (one (fit-held 4 (b / 16) t.weight) (one l none))))));
      bytes = bytes_take (held (b / 32 % 2) (length note)) note bytes;
    }

kept-encoded : (c : Card) (note : List ℕ) → encode c note ≡ encode (kept c) (note_held c.bits note)
unfolding encode widths joined
kept-encoded c note =
    let b = c.bits in
    sym (ap (joined (widths b) (numbers_of (kept c) (length (note_held b note)))) (note-twice b note) ∙ simp (length-held, le-held, le-held-one))

pub read_back : ReadBack
read_back c note t bytes s = wrote (encode c note) (kept c) (note_held c.bits note) (kept-canonical c note t bytes s) (kept-encoded c note)

-- ---- the calls

written-alone : (out new : List ℕ) (n : ℕ) → length new ≡ n → take n (splice out 0 new) ≡ new
unfolding splice
written-alone out new n e = take_at new (drop (0 + length new) out) n e

pub written_read : WrittenRead
written_read c note out n t bytes e =
    let w = passed c note out n e in
    let h = note_held c.bits note in
    let l : length (encode c note) ≡ n = sized c note ∙ w.size in
    let b : encode c note ≡ take n (write_bytes c note out) = sym (ap (take n) w.left ∙ written-alone out (encode c note) n l) in
    let f = decoded-found (encode c note) (kept c) h (omega (arith, l, w.room, w.small)) (read_back c note t bytes w.sound) in
    let g : read_of (encode c note) ≡ card_at (kept c) (n - length h) (length h) = f.0 ∙ ap (λ (k : ℕ). card_at (kept c) (k - length h) (length h)) l in
    (ap read_of (sym b) ∙ g, ap note_of (sym b) ∙ f.1)

pub read-written : ReadWritten
unfolding splice
read-written b out bytes c from n e room small =
    let note = note_of b in
    let d = found-decoded b c from n e in
    let k = is-encoding b bytes c note d in
    let l : length b ≡ size_of c (length note) = ap length k.1 ∙ sized c note in
    let z : 0 + length b ≡ length b = omega arith in
    let w = write_done c note out (omega (arith, (behind b c note d).0)) small k.0.sound (omega arith) in
    (sym w.0 ∙ ap Ok (sym l), sym w.1 ∙ ap (λ (s : List ℕ). splice out 0 s) (sym k.1) ∙ ap (λ (m : ℕ). b ++ drop m out) z)
