-- What the reader answered, and whether it is the find's card.
use Rattle.std.proofs.Common.{sym, ◌∙◌}
use borrow.Author.Tests.{eq-eqb, ne_eqb}
use Rattle.card.proofs.Calls.{located-note}
use Rattle.holding.proofs.Reading.{laid-broken, laid-other, note_fits, laid-found}
use Rattle.holding.proofs.laying.lay.Goals as goal

pub returns-in_default : goal.returns-in_default
returns-in_default c = let a = c.args in laid-broken a.find a.end a.bytes.now _ _ c.requires (sym c.read.ensures ∙ c.in_default.is)

pub returns-then-card-find : goal.returns-then-card-find
returns-then-card-find c =
    let a = c.args in
    laid-other a.find a.end a.bytes.now _ c.in-Ok.read (sym c.read.ensures ∙ c.in-Ok.is) (ne_eqb _ _ c.if-card-find.true)

pub note_with-requires : goal.note_with-requires
note_with-requires c =
    let a = c.args in
    let r = c.in-Ok.read in
    let e = sym c.read.ensures ∙ c.in-Ok.is in
    (note_fits a.find a.end a.bytes.now (record { held = a.held; note = a.note.now }) r e, (located-note a.bytes.now r.card r.note_start r.note_length e).0)

pub returns : goal.returns
returns c =
    let a = c.args in
    laid-found a.find a.end a.bytes.now _ c.in-Ok.read (sym c.read.ensures ∙ c.in-Ok.is) (eq-eqb _ _ c.if-card-find.false) _ _ c.held_with.ensures c.note_with.ensures
