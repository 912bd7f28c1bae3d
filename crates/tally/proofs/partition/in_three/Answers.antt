-- The spot tells the term's length and count, and the end of the third term fits.
use Rattle.std.proofs.Common.{ℕ, ◌+◌, ◌*◌, ◌/◌, ◌^◌, min, ap₂, le_refl, arith}
use Rattle.tally.proofs.Spots.{lying}
use Rattle.tally.proofs.Parting.{terms-low}
use Rattle.tally.proofs.partition.in_three.Goals as goal

pub overflow_mul-result : goal.overflow_mul-result
overflow_mul-result c =
    let a = c.args in
    let t = 2 ^ min a.stream.bits 30 in
    let l = lying a.stream.bits a.from c.locate-at.result c.locate-at.ensures in
    let k = a.from / t + 3 in
    record { fits = omega (arith, ap₂ (λ (n m : ℕ). (n + 3) * m) l.count l.term, terms-low t a.from k (le_refl k), l.short) }
