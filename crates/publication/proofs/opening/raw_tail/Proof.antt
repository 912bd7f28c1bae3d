-- The bits in the upper half, and nothing in the lower.
use mathlib.Core.Path.{◌≡◌, ap, ◌∙◌}
use Prim.Native.Nat.{◌+◌, ◌*◌, ◌%◌}
use native.Mathlib.Omega.{arith}
use borrow.Author.Rules.{rules}
use mir.Syntax.{w64}
use mir.Val.{to_z}
use mir.Facts.{to_z-of_z}
use Rattle.model.specs.LogBufferDescriptor.{raw_of}
use Rattle.publication.proofs.opening.raw_tail.Statement.{statement}
use Rattle.publication.proofs.opening.raw_tail.Tie as tie

returns : tie.Need-returns
unfolding raw_of
returns c =
    let a = c.args in
    let e : a.id * 4294967296 ≡ a.id % 4294967296 * 4294967296 + 0 = omega (arith, c.ranges.id.fits) in
    to_z-of_z {w = w64} {z = c.to_i64.result} (search rules) ∙ c.to_i64.ensures ∙ ap (to_z w64) e

pub raw_tail_spec : {M : Type 1} → statement M
raw_tail_spec = tie.close (tie.spec (search rules) (search rules) returns)
