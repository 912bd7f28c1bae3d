-- What the card reader answered, laid over what is held.
use Rattle.std.specs.Prelude.{Ok, Err}
use mathlib.Core.Path.{◌≡◌, refl, sym, ap, ◌∙◌}
use mathlib.Core.Bool.{true, false, cond}
use mathlib.Core.List.{List}
use Prim.Native.Nat.{ℕ, ◌/◌, ◌%◌, ◌≤◌}
use native.Mathlib.Omega.{arith}
use borrow.Author.Tests.{le-leb}
use lib.Dec.{eqb}
use lib.ListN.{length, take, drop, length-take, length-drop}
use Rattle.card.specs.declared.Card.{Card}
use Rattle.card.specs.declared.CardError.{CardError}
use Rattle.card.specs.declared.CardRead.{CardRead}
use Rattle.card.specs.Card.{Decoded, card, broken, decode, located, read_of, note_of}
use Rattle.card.proofs.Calls.{located-note, found-decoded}
use Rattle.holding.specs.declared.laying.Held.{Held}
use Rattle.holding.specs.Holding.{padded}
use Rattle.holding.specs.Within.{held_with, Laid, laid_card}
use Rattle.holding.proofs.Capped.{note-short}
use Rattle.holding.proofs.Same.{same-laid}

refused-by : (m : ℕ) (d : Decoded) (e : CardError) → located m d ≡ Err e → d ≡ broken
refused-by m (card c note) e h = absurd (let z : ◌≡◌ {A = ℕ} 0 1 = cc in omega arith)
refused-by m broken e h = refl

read-broken : (b : List ℕ) (e : CardError) → length b ≤ 2147483647 → read_of b ≡ Err e → decode b ≡ broken
unfolding read_of
read-broken b e l h = refused-by (length b) (decode b) e (rw (le-leb (length b) 2147483647 l) at h)

module _ (find end : ℕ) (b : List ℕ) (l : Laid) where
  pub laid-broken : (e : CardError) → length b ≤ 2147483647 → read_of b ≡ Err e → l ≡ laid_card find end (decode b) l
  laid-broken e k h = rw (read-broken b e k h)

  module _ (f : CardRead) (r : read_of b ≡ Ok f) where
    abbrev c : Card
    c = f.card

    abbrev n : ℕ
    n = f.note_length

    pub laid-other : eqb c.find find ≡ false → l ≡ laid_card find end (decode b) l
    laid-other h = rw (found-decoded b c f.note_start n r, h)

    note-length : length (note_of b) ≡ n
    note-length =
        let k = located-note b c f.note_start n r in
        omega (arith, ap length (sym k.1), length-take n (drop f.note_start b), length-drop f.note_start b, k.0)

    pub note_fits : n ≤ 255
    note_fits = omega (arith, note-length, note-short b c (note_of b) (found-decoded b c f.note_start n r))

    pub laid-found : eqb c.find find ≡ true → (h : Held) (note : List ℕ) → h ≡ held_with l.held c n end
        → note ≡ cond (eqb (c.bits / 32 % 2) 1) (padded (take n (drop f.note_start b))) l.note → record { held = h; note = note } ≡ laid_card find end (decode b) l
    laid-found e h note eh en =
        rw (found-decoded b c f.note_start n r, e)
        (same-laid
        (eh ∙ ap (λ (m : ℕ). held_with l.held c m end) (sym note-length))
        (en ∙ ap (λ (s : List ℕ). cond (eqb (c.bits / 32 % 2) 1) (padded s) l.note) (located-note b c f.note_start n r).1))
