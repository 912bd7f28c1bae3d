-- What is laid and what is still to be laid make the whole: `ws` and `ns` are the widths and the numbers that are left.
use Rattle.std.proofs.Common.{◌≡◌, ℕ, ◌+◌, ◌≤◌, length, get_or}
use Rattle.std.specs.Iterator.Adapters.{zip_first, zip_second}
use Rattle.std.specs.Slice.Iter.{iter_rest}
use Rattle.card.specs.Bytes.{joined, sum, splice}
use Rattle.card.proofs.field.join.Given as goal

abbrev pub invariant-loop-width : goal.invariant-loop-width
invariant-loop-width l =
    let ws = iter_rest (zip_first l.width-iterator) in
    let ns = iter_rest (zip_second l.width-iterator) in record {
      left : l.at + sum ws ≡ sum l.widths;
      laid : splice l.out l.at (joined ws ns l.note) ≡ splice l.fn.out 0 (joined l.widths l.found l.note);
      narrow : (i : ℕ) → get_or ws i 0 ≤ 4;
      even : length ws ≡ length ns;
    }
