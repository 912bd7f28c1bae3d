-- A position is below 2^64, so that a shift past its width leaves nothing.
use Rattle.std.proofs.Common.{ℕ, ◌%◌, ◌^◌, ◌<◌, ◌≤◌, sym, ap, arith, pow_mono, rules}
use native.Mathlib.Nat.{div-eq_of_lt}
use Rattle.logbuffer.proofs.log_buffer_descriptor.index_by_position.Statement.{statement}
use Rattle.logbuffer.proofs.log_buffer_descriptor.index_by_position.Tie as tie

returns : tie.Need-returns-then-bits-gt63
returns c = let s = c in
    let wide : 64 ≤ s.args.bits = omega arith in
    let big : 2 ^ 64 ≤ 2 ^ s.args.bits = pow_mono wide in
    let small : s.args.position < 2 ^ s.args.bits = omega arith in
    sym (ap (λ (x : ℕ). x % 3) (div-eq_of_lt small))

pub index_by_position_spec : {M : Type 1} → statement M
index_by_position_spec = tie.close (tie.spec returns (search rules) (search rules))
