-- What is read as a card has its note within the bytes.
use Rattle.std.proofs.Common.{◌≡◌, ℕ, ◌+◌, ◌-◌, take, drop, sym, ap, ◌∙◌, arith}
use Rattle.card.proofs.Calls.{located-note}
use Rattle.card.proofs.note.Goals as goal

pub slice_bounds-result-end : goal.slice_bounds-result-end
slice_bounds-result-end c = (located-note _ _ _ _ (sym c.read.ensures ∙ c.in-Ok.is)).0

pub returns-in-Ok-clause-result_value : goal.returns-in-Ok-clause-result_value
returns-in-Ok-clause-result_value c =
    let found = c.in-Ok.found in
    let e : found.note_start + found.note_length - found.note_start ≡ found.note_length = omega arith in
    ap (λ (k : ℕ). take k (drop found.note_start c.args.bytes.now)) e ∙ (located-note _ _ _ _ (sym c.read.ensures ∙ c.in-Ok.is)).1
