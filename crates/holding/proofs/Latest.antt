-- A field's holder is the last card that has the field; and a card laid over what is held makes what is held with that card. Anchors is named here and in
-- Capped so that a wrong definition is refused first by a worked case.
use mathlib.Core.Path.{◌≡◌, refl, sym, ap, ◌∙◌}
use mathlib.Core.Logic.{◌⊎◌, inl, inr}
use mathlib.Core.Bool.{Bool, true, false, cond}
use mathlib.Core.List.{List, [], ◌∷◌, ◌++◌, append-nil}
use Prim.Native.Nat.{ℕ, ◌+◌, ◌*◌, ◌/◌, ◌%◌, ◌<◌}
use native.Mathlib.Omega.{arith}
use borrow.Author.Tests.{eqb-true, eqb-false}
use lib.Dec.{eqb}
use lib.ListN.{length, replicate}
use Rattle.model.proofs.Both.{test}
use Rattle.card.specs.Card.{Decoded, card, broken}
use Rattle.holding.specs.Holding.{Found, of_find, bit, none, latest, holder, some, held_of, padded, note_held}
use Rattle.holding.specs.Within.{newer, bits_with, held_with, Laid, laid_card}
use Rattle.holding.proofs.Same.{same-card, same-held, same-laid}
use Rattle.holding.proofs.Anchors as Anchors
use Rattle.holding.specs.Theorems.{Without, all, more, Holds, HeldByLast}

-- ---- the theorem

last_or : (k : ℕ) (other : Found) (fs : List Found) → Holds k fs (latest k other fs) ⊎ (Without k fs × (latest k other fs ≡ other))
unfolding latest
last_or k other [] = inr (all, refl)
last_or k other (f ∷ fs) =
    test (eqb (bit k f) 1)
    (λ e. rw e (with_it (eqb-true (bit k f) 1 e) (last_or k f fs)))
    (λ e. rw e (without-it (eqb-false (bit k f) 1 e) (last_or k other fs)))
  where
    longer : {g : Found} → Holds k fs g → Holds k (f ∷ fs) g
    longer h = record { before = f ∷ h.before; after = h.after; split = ap (λ (l : List Found). f ∷ l) h.split; has = h.has; later = h.later }

    with_it : bit k f ≡ 1 → Holds k fs (latest k f fs) ⊎ (Without k fs × (latest k f fs ≡ f)) → Holds k (f ∷ fs) (latest k f fs) ⊎ (Without k (f ∷ fs) × (latest k f fs ≡ other))
    with_it h (inl l) = inl (longer l)
    with_it h (inr w) = inl (rw w.1 (record { before = []; after = fs; split = refl; has = h; later = w.0 }))

    without-it : (bit k f ≡ 1 → ⊥) → Holds k fs (latest k other fs) ⊎ (Without k fs × (latest k other fs ≡ other)) → Holds k (f ∷ fs) (latest k other fs) ⊎ (Without k (f ∷ fs) × (latest k other fs ≡ other))
    without-it h (inl l) = inl (longer l)
    without-it h (inr w) = inr (more h w.0, w.1)

pub held-by-last : HeldByLast
held-by-last k fs = last_or k none fs

-- ---- one card more

pub latest-more : (k : ℕ) (other : Found) (fs : List Found) (f : Found) → latest k other (fs ++ (f ∷ [])) ≡ cond (eqb (bit k f) 1) f (latest k other fs)
unfolding latest
latest-more k other [] f = refl
latest-more k other (g ∷ fs) f = latest-more k (cond (eqb (bit k g) 1) g other) fs f

some_more : (fs : List Found) (f : Found) → some (fs ++ (f ∷ [])) ≡ true
some_more [] f = refl
some_more (g ∷ fs) f = refl

-- a field of one of two cards
of_two : (g : Found → ℕ) (t : Bool) (f h : Found) → cond t (g f) (g h) ≡ g (cond t f h)
of_two g true f h = refl
of_two g false f h = refl

bit-of-two : (k : ℕ) (f h : Found) → newer (bit k f) 1 (bit k h) ≡ bit k (cond (eqb (bit k f) 1) f h)
bit-of-two k f h =
    test (eqb (bit k f) 1)
    (λ e. rw e (sym (eqb-true (bit k f) 1 e)))
    (λ e. rw e)

bits-by : (a b c d e f new : ℕ) → a < 2 → b < 2 → c < 2 → d < 2 → e < 2 → f < 2 → bits_with (a + 2 * b + 4 * c + 8 * d + 16 * e + 32 * f) new
    ≡ newer (new % 2) 1 a + 2 * newer (new / 2 % 2) 1 b + 4 * newer (new / 4 % 2) 1 c + 8 * newer (new / 8 % 2) 1 d + 16 * newer (new / 16 % 2) 1 e + 32 * newer (new / 32 % 2) 1 f
unfolding bits_with
bits-by a b c d e f new ha hb hc hd he hf =
    let old = a + 2 * b + 4 * c + 8 * d + 16 * e + 32 * f in
    let y1 : old / 2 ≡ b + 2 * c + 4 * d + 8 * e + 16 * f = omega arith in
    let y2 : old / 4 ≡ c + 2 * d + 4 * e + 8 * f = omega arith in
    let y3 : old / 8 ≡ d + 2 * e + 4 * f = omega arith in
    let y4 : old / 16 ≡ e + 2 * f = omega arith in
    let y5 : old / 32 ≡ f = omega arith in
    let x0 : old % 2 ≡ a = omega arith in
    let x1 : old / 2 % 2 ≡ b = rw y1 (omega arith) in
    let x2 : old / 4 % 2 ≡ c = rw y2 (omega arith) in
    let x3 : old / 8 % 2 ≡ d = rw y3 (omega arith) in
    let x4 : old / 16 % 2 ≡ e = rw y4 (omega arith) in
    let x5 : old / 32 % 2 ≡ f = rw y5 (omega arith) in
    rw (x0, x1, x2, x3, x4, x5)

sum_same : {a b c d e f a' b' c' d' e' f' : ℕ} → a ≡ a' → b ≡ b' → c ≡ c' → d ≡ d' → e ≡ e' → f ≡ f'
    → a + 2 * b + 4 * c + 8 * d + 16 * e + 32 * f ≡ a' + 2 * b' + 4 * c' + 8 * d' + 16 * e' + 32 * f'
sum_same p q r s t u = cc

held_more : (fs : List Found) (f : Found) → held_with (held_of fs) f.card (length f.note) f.end ≡ held_of (fs ++ (f ∷ []))
unfolding held_of
held_more fs f =
    let c = f.card in
    let h = holder fs in
    let t : ℕ → Bool = λ k. eqb (bit k f) 1 in
    let z : c.bits % 2 ≡ bit 0 f = omega arith in
    let b =
    bits-by (bit 0 (h 0)) (bit 1 (h 1)) (bit 2 (h 2)) (bit 3 (h 3)) (bit 4 (h 4)) (bit 5 (h 5)) c.bits (omega arith) (omega arith) (omega arith) (omega arith) (omega arith) (omega arith)
    ∙ sum_same (ap (λ (x : ℕ). newer x 1 (bit 0 (h 0))) z ∙ bit-of-two 0 f (h 0)) (bit-of-two 1 f (h 1)) (bit-of-two 2 f (h 2)) (bit-of-two 3 f (h 3)) (bit-of-two 4 f (h 4)) (bit-of-two 5 f (h 5)) in
    rw (some_more fs f, latest-more 0 none fs f, latest-more 1 none fs f, latest-more 2 none fs f, latest-more 3 none fs f, latest-more 4 none fs f, latest-more 5 none fs f)
    (same-held
    (same-card
    b
    (ap (λ (x : ℕ). newer x c.find (h 0).card.find) z ∙ of_two (λ (g : Found). g.card.find) (t 0) f (h 0))
    (of_two (λ (g : Found). g.card.trench) (t 1) f (h 1))
    (of_two (λ (g : Found). g.card.context) (t 2) f (h 2))
    (of_two (λ (g : Found). g.card.material) (t 3) f (h 3))
    (of_two (λ (g : Found). g.card.weight) (t 4) f (h 4)))
    (ap (λ (x : ℕ). newer x f.end (h 0).end) z ∙ of_two (λ (g : Found). g.end) (t 0) f (h 0))
    (of_two (λ (g : Found). g.end) (t 1) f (h 1))
    (of_two (λ (g : Found). g.end) (t 2) f (h 2))
    (of_two (λ (g : Found). g.end) (t 3) f (h 3))
    (of_two (λ (g : Found). g.end) (t 4) f (h 4))
    (of_two (λ (g : Found). g.end) (t 5) f (h 5))
    (of_two (λ (g : Found). length g.note) (t 5) f (h 5)))

note-more : (fs : List Found) (f : Found) → cond (eqb (f.card.bits / 32 % 2) 1) (padded f.note) (note_held fs) ≡ note_held (fs ++ (f ∷ []))
note-more fs f = go (eqb (bit 5 f) 1) ∙ ap (λ (x : Found). padded x.note) (sym (latest-more 5 none fs f))
  where
    go : (t : Bool) → cond t (padded f.note) (note_held fs) ≡ padded (cond t f (holder fs 5)).note
    go true = refl
    go false = refl

-- ---- all that is held

-- before the first card there is no note
pub none-noted : replicate 255 0 ≡ note_held []
unfolding latest padded
none-noted = refl

abbrev pub all_held : List Found → Laid
all_held fs = record { held = held_of fs; note = note_held fs }

pub laid_more : (find end : ℕ) (d : Decoded) (fs : List Found) → laid_card find end d (all_held fs) ≡ all_held (fs ++ of_find find end d)
laid_more find end broken fs = ap all_held (sym (append-nil fs))
laid_more find end (card c note) fs =
    test (eqb c.find find)
    (λ e. rw e (same-laid (held_more fs f) (note-more fs f)))
    (λ e. rw e (ap all_held (sym (append-nil fs))))
  where
    f : Found
    f = record { card = c; note = note; end = end }
