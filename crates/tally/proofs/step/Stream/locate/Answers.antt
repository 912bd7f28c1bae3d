-- A term of at most 30 bits: nothing wraps.
use Rattle.tally.proofs.Spots.{spot_is}
use Rattle.tally.proofs.step.Stream.locate.Goals as goal

pub returns : goal.returns
returns c = spot_is _ _ c.min-shift.ensures c.args.p
