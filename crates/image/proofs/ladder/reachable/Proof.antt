-- The first test that fails decides.
use Rattle.std.specs.Prelude.{Ok}
use native.Mathlib.Omega.{arith}
use native.Mathlib.Nat.{mod-le}
use Rattle.model.specs.declared.ReadVerdict.TheVariants.{Read}
use Rattle.image.proofs.Rungs.{before-current, past-term, no-boundary, reaches}
use Rattle.image.proofs.ladder.reachable.Statement.{statement}
use Rattle.image.proofs.ladder.reachable.Tie as tie

returns : tie.Need-returns-then-new-current
returns c = before-current c.args.v c.args.current c.args.new (Ok Read) c.if-new-current.true

offset-of-requires : tie.Need-offset_of-requires
offset-of-requires c κs = c.requires.0

sub-if2 : tie.Need-overflow_sub-current
sub-if2 c = let a = c.args in omega (arith, c.offset_of.ensures, mod-le a.current a.v.term)

add-if2 : tie.Need-overflow_add-current
add-if2 c = let s = c in omega (arith, s.requires.1, s.requires.0.high)

returns-2 : tie.Need-returns-then-new-current-2
returns-2 c = let a = c.args in past-term a.v a.current a.new (Ok Read) c.if-new-current.false (omega (arith, c.offset_of.ensures, c.if-new-current-2.true))

returns-3 : tie.Need-returns-then-new-ne0
returns-3 c = let a = c.args in no-boundary a.v a.current a.new (Ok Read) c.if-new-current.false (omega (arith, c.offset_of.ensures, c.if-new-current-2.false)) c.if-new-ne0.true

returns-4 : tie.Need-returns
returns-4 c = let a = c.args in reaches a.v a.current a.new (Ok Read) c.if-new-current.false (omega (arith, c.offset_of.ensures, c.if-new-current-2.false)) c.if-new-ne0.false

pub reachable_spec : {M : Type 1} → statement M
reachable_spec =
    tie.close
    (tie.spec
    returns
    offset-of-requires
    sub-if2
    add-if2
    returns-2
    returns-3
    returns-4)
