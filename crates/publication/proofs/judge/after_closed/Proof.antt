-- The tests pick the case.
use Rattle.std.specs.Prelude.{Err}
use mathlib.Core.Path.{◌≡◌, sym, ap, ◌∙◌}
use native.Mathlib.Omega.{arith}
use Rattle.model.specs.LogBufferDescriptor.{id_minus}
use Rattle.model.proofs.Sound.{begin-most}
use Rattle.model.proofs.OfferLaws.{closed-6, closed-7, closed-last}
use borrow.Author.Rules.{rules}
use Rattle.publication.proofs.judge.after_closed.Statement.{statement}
use Rattle.publication.proofs.judge.after_closed.Tie as tie

cast-id-minus : tie.Need-overflow_cast-id
cast-id-minus c = record { fits = c.requires.1.0.0 }

cast-id-minus-2 : tie.Need-overflow_cast-initial
cast-id-minus-2 c = record { fits = c.requires.1.0.1 }

returns : tie.Need-returns-then-id_minus-count
returns c = closed-6 _ _ (λ h. c.if-id_minus-count.true (c.id_minus.ensures ∙ h))

begin-position-requires : tie.Need-begin_position-begin-requires
begin-position-requires c κs = let s = c in (s.requires.0, s.requires.1.1.1)

add-if2 : tie.Need-overflow_add-begin
add-if2 c = omega (arith, c.begin_position-begin.ensures, begin-most _ c.requires.0)

back-pressure-requires : tie.Need-back_pressure-requires
back-pressure-requires c κs = let s = c in (s.requires.0, (c.begin_position-begin.ensures, s.requires.1.1.0))

-- in step
own : (c : tie.Else-id_minus-count) → (let v = c.args.v in id_minus v.id v.initial ≡ v.count)
own c = sym c.id_minus.ensures ∙ c.if-id_minus-count.false

-- The answers at the test of the limit stand in the list, by no name that has the test in it.
pub after_closed_spec : {M : Type 1} → statement M
after_closed_spec =
    tie.close
    (tie.spec
    cast-id-minus
    cast-id-minus-2
    (search rules)
    (search rules)
    returns
    begin-position-requires
    add-if2
    back-pressure-requires
    (λ c. ap Err c.back_pressure.ensures ∙ closed-7 c.args.v c.args.m (own c.before.before.before) (omega (arith, c.begin_position-begin.ensures)))
    (λ c. closed-last c.args.v c.args.m (own c.before.before) (omega (arith, c.begin_position-begin.ensures))))
