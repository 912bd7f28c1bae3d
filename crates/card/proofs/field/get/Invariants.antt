-- Before each turn n is the number in the last bytes of the width; it has no more than their width.
use Rattle.std.proofs.Common.{◌≡◌, ◌+◌, ◌-◌, ◌^◌, ◌<◌, take, drop}
use Rattle.card.specs.Bytes.{number}
use Rattle.card.proofs.field.get.Given as goal

abbrev pub invariant-loop-i : goal.invariant-loop-i
invariant-loop-i l = record {
  same : l.n ≡ number (take (l.width - l.i) (drop (l.at + l.i) l.bytes));
  in_width : l.n < 256 ^ (l.width - l.i);
}
