-- A term length that fits 32 bits is shifted by; any other has no partition but 0.
use mathlib.Core.Path.{◌≡◌, sym, ap, ◌∙◌}
use native.Mathlib.Omega.{arith}
use borrow.Author.Rules.{rules}
use Rattle.model.specs.LogBufferDescriptor.{index_by_position}
use Rattle.model.proofs.Choice.{le_yes, le-no}
use Rattle.image.specs.Images.{shifted_in}
use Rattle.image.proofs.limits.shifted_in.Statement.{statement}
use Rattle.image.proofs.limits.shifted_in.Tie as tie

returns : tie.Need-returns-then-term-gt4294967295
returns c = let a = c.args in (sym (le-no a.term 4294967295 _ 0 c.if-term-gt4294967295.true), omega arith)

returns-2 : tie.Need-returns
returns-2 c =
    let a = c.args in
    let e : c.index_by_position.result ≡ shifted_in a.term a.p =
    c.index_by_position.ensures ∙ ap (index_by_position a.p) c.position_bits_to_shift-bits.ensures ∙ sym (le_yes a.term 4294967295 _ 0 c.if-term-gt4294967295.false) in
    (e, omega (arith, c.index_by_position.ensures))

pub shifted_in_spec : {M : Type 1} → statement M
shifted_in_spec = tie.close (tie.spec returns (search rules) (search rules) (search rules) returns-2)
