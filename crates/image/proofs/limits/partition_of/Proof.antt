-- The shift by the trailing zeros of the term length is the quotient.
use mathlib.Core.Path.{◌≡◌, ap, ◌∙◌}
use native.Mathlib.Omega.{arith}
use borrow.Author.Rules.{rules}
use Rattle.model.specs.LogBufferDescriptor.{partition_of, index_by_position}
use Rattle.logbuffer.proofs.Shifts.{partition-by}
use Rattle.image.proofs.limits.partition_of.Statement.{statement}
use Rattle.image.proofs.limits.partition_of.Tie as tie

cast-position-bits-to-shift : tie.Need-overflow_cast-term
cast-position-bits-to-shift c = omega (arith, c.requires.high)

returns : tie.Need-returns
returns c =
    let s = c in
    let e : c.index_by_position.result ≡ partition_of s.args.p s.args.term =
    c.index_by_position.ensures ∙ ap (index_by_position s.args.p) c.position_bits_to_shift-bits.ensures ∙ partition-by s.args.term s.requires.high s.requires.one_bit s.args.p in
    (e, omega (arith, e))

pub partition_of_spec : {M : Type 1} → statement M
partition_of_spec =
    tie.close (tie.spec cast-position-bits-to-shift (search rules) (search rules) returns)
