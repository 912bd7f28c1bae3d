-- A header before the body.
use mathlib.Core.Path.{ap, ◌∙◌}
use Prim.Native.Nat.{ℕ, ◌-◌}
use native.Mathlib.Omega.{arith}
use mir.Facts.{to_z-of_z}
use Rattle.model.specs.TermReader.{natural}
use borrow.Author.Rules.{rules}
use Rattle.replay.proofs.frame_offset.Statement.{statement}
use Rattle.replay.proofs.frame_offset.Tie as tie

returns : tie.Need-returns-then-body-lt-HEADER_LENGTH
returns c =
    let e = c.natural-body.ensures.0 ∙ ap natural (to_z-of_z c.ranges.entry) in (omega (arith, e), omega arith)

returns-2 : tie.Need-returns-else-body-lt-HEADER_LENGTH
returns-2 c =
    let e = c.natural-body.ensures.0 ∙ ap natural (to_z-of_z c.ranges.entry) in (ap (λ (x : ℕ). x - 32) e, omega (arith, c.natural-body.ensures.1))

pub frame_offset_spec : {M : Type 1} → statement M
frame_offset_spec = tie.close (tie.spec (search rules) returns returns-2)
