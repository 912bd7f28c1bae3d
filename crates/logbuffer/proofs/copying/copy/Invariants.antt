-- After each turn the first i bytes are laid over the slice.
use Rattle.std.proofs.Common.{◌≡◌, ◌-◌, ◌≤◌, length, take, drop}
use Rattle.model.specs.Bytes.{splice}
use Rattle.logbuffer.proofs.copying.copy.Given as goal

abbrev pub invariant-loop-i : goal.invariant-loop-i
invariant-loop-i l = (l.i ≤ l.n) × ((l.dst ≡ splice l.initial.dst l.b (take l.i (drop l.a l.src))) × (length l.dst ≡ length l.initial.dst))

abbrev pub decreases-loop-i : goal.decreases-loop-i
decreases-loop-i l = l.n - l.i
