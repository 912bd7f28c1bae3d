-- The numbers that are stored and those that are still to be read make the whole.
use Rattle.std.proofs.Common.{◌≡◌, ◌*◌, ◌≤◌, length, drop}
use Rattle.card.specs.Bytes.{numbers, splice}
use Rattle.card.proofs.field.split.Given as goal

abbrev pub invariant-loop-k : goal.invariant-loop-k
invariant-loop-k l = record {
  near : l.at ≤ 4 * l.k;
  stored : splice l.found l.k (numbers (drop l.k l.widths) l.bytes l.at) ≡ numbers l.widths l.bytes 0;
  seven : length l.found ≡ 7;
}
