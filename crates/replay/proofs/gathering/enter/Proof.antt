-- As `settle`.
use mathlib.Core.Path.{◌≡◌, sym, ap, ◌∙◌}
use native.Mathlib.Omega.{arith}
use borrow.Author.Rules.{rules}
use lib.IntN.{pos}
use lib.ListN.{get_or, set}
use lib.Seq.{set_out, set-get_or}
use mir.Syntax.{w32}
use mir.Val.{to_z}
use mir.Facts.{to_z-of_z}
use Rattle.replay.proofs.gathering.enter.Statement.{statement}
use Rattle.replay.proofs.gathering.enter.Tie as tie

returns : tie.Need-returns-then-ids-place
returns c = search rules

returns-2 : tie.Need-returns-else-ids-place
returns-2 c =
    let s = c in
    let a = s.args in
    let e : get_or a.ids.now a.place (pos 0) ≡ a.session = sym (to_z-of_z {w = w32} {z = get_or a.ids.now a.place (pos 0)} (search rules)) ∙ ap (to_z w32) c.if-ids-place.false ∙ to_z-of_z s.ranges.session in
    sym (ap (set a.ids.now a.place) (sym e) ∙ set-get_or a.ids.now a.place (pos 0))

returns-3 : tie.Need-returns-else-place-ids
returns-3 c = let a = c.args in sym (set_out a.ids.now a.place a.session (omega arith))

pub enter_spec : {M : Type 1} → statement M
enter_spec = tie.close (tie.spec (search rules) (search rules) (search rules) (search rules) (search rules) returns returns-2 returns-3)
