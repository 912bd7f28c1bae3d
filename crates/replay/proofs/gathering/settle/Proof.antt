-- What is there already is as if it had been stored; past the last place nothing is.
use mathlib.Core.Path.{◌≡◌, sym, ap, ◌∙◌}
use native.Mathlib.Omega.{arith}
use borrow.Author.Rules.{rules}
use lib.ListN.{get_or, set}
use lib.Seq.{set_out, set-get_or}
use Rattle.replay.proofs.gathering.settle.Statement.{statement}
use Rattle.replay.proofs.gathering.settle.Tie as tie

returns-2 : tie.Need-returns-else-held-place
returns-2 c =
    let a = c.args in
    let e : get_or a.held.now a.place 0 ≡ a.bytes = c.if-held-place.false in
    sym (ap (set a.held.now a.place) (sym e) ∙ set-get_or a.held.now a.place 0)

returns-3 : tie.Need-returns-else-place-held
returns-3 c = let a = c.args in sym (set_out a.held.now a.place a.bytes (omega arith))

pub settle_spec : {M : Type 1} → statement M
settle_spec = tie.close (tie.spec (search rules) (search rules) (search rules) (search rules) (search rules) (search rules) returns-2 returns-3)
