-- A term length has one bit, so that the bits below it are the remainder.
use native.Mathlib.Omega.{arith}
use Rattle.logbuffer.proofs.Shifts.{offset-by}
use Rattle.image.proofs.limits.offset_of.Statement.{statement}
use Rattle.image.proofs.limits.offset_of.Tie as tie

sub-result : tie.Need-overflow_sub-result
sub-result c = omega (arith, c.requires.some)

returns : tie.Need-returns
returns c = offset-by c.args.term c.requires.high c.requires.one_bit c.args.p

pub offset_of_spec : {M : Type 1} → statement M
offset_of_spec = tie.close (tie.spec sub-result returns)
