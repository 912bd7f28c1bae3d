-- The remainder is below the term, and not above the position.
use native.Mathlib.Omega.{arith}
use native.Mathlib.Nat.{mod-le, mod-lt}
use borrow.Author.Rules.{rules}
use Rattle.image.proofs.limits.end_offset.Statement.{statement}
use Rattle.image.proofs.limits.end_offset.Tie as tie

offset-of-requires : tie.Need-offset_of-at-requires
offset-of-requires c κs = c.requires

returns : tie.Need-returns-then-limit-p
returns c = let s = c in omega (arith, c.offset_of-at.ensures, mod-lt s.args.p s.requires.some)

add-reach : tie.Need-overflow_add-reach
add-reach c = let s = c in omega (arith, c.offset_of-at.ensures, mod-le s.args.p s.args.term)

returns-2 : tie.Need-returns-then-reach-term
returns-2 c = omega (arith, c.offset_of-at.ensures)

returns-3 : tie.Need-returns-else-reach-term
returns-3 c = omega (arith, c.offset_of-at.ensures)

pub end_offset_spec : {M : Type 1} → statement M
end_offset_spec =
    tie.close
    (tie.spec
    offset-of-requires
    returns
    (search rules)
    add-reach
    returns-2
    returns-3)
