-- Each test that fails answers 0; behind them the term length stands.
use mathlib.Core.Path.{sym, ◌∙◌}
use native.Mathlib.Omega.{arith}
use borrow.Author.Tests.{not-true, not-false}
use borrow.Author.Rules.{rules}
use Rattle.image.specs.Images.{state_of as image_state}
use Rattle.replay.proofs.InPlace.{shut-lent, shut-closed, shut-unsound, opened}
use Rattle.replay.proofs.frames.open_term.Statement.{statement}
use Rattle.replay.proofs.frames.open_term.Tie as tie

returns : tie.Need-returns-then-lent-gt2147483647
returns c = let a = c.args in shut-lent (image_state a.image) a.v a.n a.lent (omega arith)

returns-2 : tie.Need-returns-then-image
returns-2 c = let a = c.args in shut-closed (image_state a.image) a.v a.n a.lent c.if-image.true

returns-3 : tie.Need-returns-then-not-is_sound
returns-3 c = let a = c.args in shut-unsound (image_state a.image) a.v a.n a.lent (sym c.is_sound.ensures ∙ not-true _ c.if-not-is_sound.true-raw)

returns-4 : tie.Need-returns
returns-4 c =
    let a = c.args in
    opened (image_state a.image) a.v a.n a.lent (omega arith) c.if-image.false (sym c.is_sound.ensures ∙ not-false _ c.if-not-is_sound.false-raw)

pub open_term_spec : {M : Type 1} → statement M
open_term_spec = tie.close (tie.spec returns returns-2 (search rules) returns-3 returns-4)
