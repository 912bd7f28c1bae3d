-- The numbers that were read are those shown, each fits its field, and the note ends with the last byte.
use Rattle.std.proofs.Common.{◌≡◌, ℕ, ◌-◌, ◌^◌, ◌<◌, length, drop, get_or, length-drop, arith}
use Rattle.std.proofs.lemmas.Grind.{common_steps}
use Rattle.card.specs.Card.{shown, decode, read_of}
use Rattle.card.proofs.Calls.{most, shown-below}
use Rattle.card.proofs.read.Goals as goal

below : (c : goal.After-split) (k : ℕ) → get_or c.split.result k 0 < 256 ^ get_or most k 0
unfolding shown
below c = shown-below c.args.bytes.now _ (cc) (λ i. omega (arith, c.type_inv.bytes i))

pub overflow_cast-card : goal.overflow_cast-card
overflow_cast-card c = omega (arith, below c 0)

pub overflow_cast-card-2 : goal.overflow_cast-card-2
overflow_cast-card-2 c = omega (arith, below c 2)

pub overflow_cast-card-3 : goal.overflow_cast-card-3
overflow_cast-card-3 c = omega (arith, below c 3)

pub overflow_cast-card-4 : goal.overflow_cast-card-4
overflow_cast-card-4 c = omega (arith, below c 4)

pub returns : goal.returns
unfolding read_of decode shown
returns c =
    let b = c.args.bytes.now in
    let l = length-drop c.end-from.result b in
    let n : get_or c.split.result 6 0 ≡ length (drop c.end-from.result b) = omega (arith, l) in
    let from : c.end-from.result ≡ length b - length (drop c.end-from.result b) = omega (arith, l) in
    grind (arith, common_steps)
