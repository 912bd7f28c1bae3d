-- The bits to shift are those of the term, and no bit is lost.
use mathlib.Core.Path.{ap, ◌∙◌}
use Prim.Native.Nat.{ℕ, ◌*◌, ◌%◌, ◌^◌}
use native.Mathlib.Omega.{arith}
use borrow.Author.Rules.{rules}
use Rattle.model.proofs.Sound.{begin-most}
use Rattle.logbuffer.proofs.Shifts.{bits-high, begin-by}
use Rattle.publication.proofs.judge.begin_position.Statement.{statement}
use Rattle.publication.proofs.judge.begin_position.Tie as tie

cast-position-bits-to-shift : tie.Need-overflow_cast-v
cast-position-bits-to-shift c = omega (arith, c.requires.0.term-most)

shl-result : tie.Need-overflow_shl-result
shl-result c = let s = c in omega (arith, c.position_bits_to_shift-bits.ensures, bits-high s.args.v.term s.requires.0.term-most s.requires.1)

returns : tie.Need-returns
returns c =
    let s = c in
    ap (λ (b : ℕ). s.args.v.count * 2 ^ b % 18446744073709551616) c.position_bits_to_shift-bits.ensures
    ∙ begin-by s.args.v.term s.requires.0.term-most s.requires.1 s.args.v.count (omega (arith, begin-most s.args.v s.requires.0))

pub begin_position_spec : {M : Type 1} → statement M
begin_position_spec = tie.close (tie.spec cast-position-bits-to-shift (search rules) (search rules) shl-result returns)
