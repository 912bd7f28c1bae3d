-- What holds the definitions fast: the worked cases. The laws that nearly every proof rests on (Both, Choice) bring this file in, so that the
-- checker meets a wrong definition first in a fact about it, and not in a proof that no longer fits.
use Rattle.model.proofs.Cases as Cases
use Rattle.model.proofs.Edges as Edges
