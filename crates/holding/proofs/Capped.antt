-- A run of more than 270 bytes is no card, so that it may be dropped as soon as it has them.
use mathlib.Core.Path.{◌≡◌, refl, sym, ap, ◌∙◌}
use mathlib.Core.Bool.{Bool, true, false, ◌&&◌}
use mathlib.Core.List.{List, ◌++◌}
use Prim.Native.Nat.{ℕ, ◌+◌, ◌-◌, ◌/◌, ◌%◌, ◌≤◌, ◌<◌}
use native.Mathlib.Omega.{arith}
use borrow.Author.Tests.{leb-true, leb-false, lt-leb, eqb-true, eqb-false}
use lib.Dec.{eqb, leb, ltb}
use lib.ListN.{length, take, drop, get_or, length-append, length-drop}
use lib.Seq.{drop-drop}
use Rattle.model.specs.declared.Frame.{Frame}
use Rattle.model.specs.declared.Frame.TheVariants.{Absent, Unsound, Padding, Data}
use Rattle.model.specs.FrameDescriptor.{flags_at, begins}
use Rattle.model.proofs.Both.{and-true, test}
use Rattle.card.specs.declared.Card.{Card}
use Rattle.card.specs.Bytes.{number, numbers, sum}
use Rattle.card.specs.Card.{widths, card_of, within, sound_card, Decoded, card, broken, shown, decode}
use Rattle.card.proofs.Fields.{number-one}
use Rattle.card.proofs.Calls.{accepted}
use Rattle.holding.specs.Messages.{Run, idle, running, joined, grown}
use Rattle.holding.specs.Within.{capped, Laid, laid_run}
use Rattle.holding.proofs.Anchors as Anchors

-- ---- a card has at most 270 bytes

head_small : (x : ℕ) → sum (widths x) ≤ 15
unfolding widths sum
head_small x = omega arith

within-small : (b top n : ℕ) → b ≡ 1 → within b top n ≡ true → n ≤ top
unfolding within
within-small b top n e h = leb-true n top (and-true (leb 1 n) (leb n top) (rw e at h)).1

sound-note : (c : Card) (n : ℕ) → sound_card c n ≡ true → within (c.bits / 32 % 2) 255 n ≡ true
unfolding sound_card
sound-note c n h =
    let a = and-true (eqb (c.bits % 2) 1) (ltb c.bits 64 && (within (c.bits / 8 % 2) 9 c.material && within (c.bits / 32 % 2) 255 n)) h in
    let b = and-true (ltb c.bits 64) (within (c.bits / 8 % 2) 9 c.material && within (c.bits / 32 % 2) 255 n) a.1 in
    (and-true (within (c.bits / 8 % 2) 9 c.material) (within (c.bits / 32 % 2) 255 n) b.1).1

-- without its bit the length of the note has no bytes, and is 0
note-small : (b : List ℕ) → sound_card (card_of (shown b)) (get_or (shown b) 6 0) ≡ true → get_or (shown b) 6 0 ≤ 255
unfolding shown numbers widths number
note-small b h =
    let x = get_or b 0 0 in
    test (eqb (x / 32 % 2) 1)
    (λ e. within-small ((card_of (shown b)).bits / 32 % 2) 255 (get_or (shown b) 6 0) (ap (λ (y : ℕ). y / 32 % 2) (number-one b) ∙ eqb-true (x / 32 % 2) 1 e) (sound-note (card_of (shown b)) (get_or (shown b) 6 0) h))
    (λ e. let z : x / 32 % 2 ≡ 0 = omega (arith, eqb-false (x / 32 % 2) 1 e) in rw z (omega arith))

pub card-small : (b : List ℕ) (c : Card) (note : List ℕ) → decode b ≡ card c note → length b ≤ 270
card-small b c note e =
    let a = accepted b c note e in
    omega (arith, a.even, head_small (get_or b 0 0), note-small b a.sound)

-- and its note at most 255
pub note-short : (b : List ℕ) (c : Card) (note : List ℕ) → decode b ≡ card c note → length note ≤ 255
note-short b c note e =
    let a = accepted b c note e in
    omega (arith, a.even, note-small b a.sound, ap length (sym a.same-note), length-drop (sum (widths (get_or b 0 0))) b)

too_long : (b : List ℕ) → 270 < length b → decode b ≡ broken
too_long b h = go (decode b) refl
  where
    go : (d : Decoded) → decode b ≡ d → decode b ≡ broken
    go broken e = e
    go (card c note) e = absurd (omega (arith, card-small b c note e))

-- ---- a run that is cut short grows as the whole does, up to 270 bytes

joined-capped : (t : Bool) (body : List ℕ) (r : Run) → capped (joined t body (capped r)) ≡ capped (joined t body r)
joined-capped true body r = refl
joined-capped false body idle = refl
joined-capped false body (running b) =
    test (leb (length b) 270)
    (λ e. rw e)
    (λ e. rw (e, lt-leb (length (b ++ body)) 270 (omega (arith, leb-false (length b) 270 e, length-append b body))))

pub grown-capped : (bytes : List ℕ) (f : Frame) (r : Run) → capped (grown bytes f (capped r)) ≡ capped (grown bytes f r)
grown-capped bytes Absent r = refl
grown-capped bytes (Unsound n) r = refl
grown-capped bytes (Padding n) r = refl
grown-capped bytes (Data n) r = joined-capped (begins (flags_at bytes)) _ r

-- and is the same card, or as little one
pub laid-capped : (find end : ℕ) (r : Run) (l : Laid) → laid_run find end (capped r) l ≡ laid_run find end r l
laid-capped find end idle l = refl
laid-capped find end (running b) l =
    test (leb (length b) 270)
    (λ e. rw e)
    (λ e. rw (e, too_long b (leb-false (length b) 270 e)))

-- ---- the bytes of a frame, where the code takes them from

module _ (log : List ℕ) (index n : ℕ) (x : Frame) (r : Run) (e : x ≡ Data n) where
  abbrev body : List ℕ
  body = take (n - 32) (drop (index + 32) log)

  by_flag : (b : Bool) → begins (flags_at (drop index log)) ≡ b → joined b body r ≡ grown (drop index log) x r
  by_flag b h =
      ap (λ (y : List ℕ). joined b (take (n - 32) y) r) (sym (drop-drop 32 index log)) ∙ ap (λ (t : Bool). joined t (take (n - 32) (drop 32 (drop index log))) r) (sym h)
      ∙ ap (λ (y : Frame). grown (drop index log) y r) (sym e)

  pub begun : begins (flags_at (drop index log)) ≡ true → capped (running body) ≡ capped (grown (drop index log) x r)
  begun h = ap capped (by_flag true h)

  pub gone-on : begins (flags_at (drop index log)) ≡ false → (b : List ℕ) → r ≡ running b → capped (running (b ++ body)) ≡ capped (grown (drop index log) x r)
  gone-on h b f = ap (λ (y : Run). capped (joined false body y)) (sym f) ∙ ap capped (by_flag false h)
