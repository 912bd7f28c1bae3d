-- A test that fails settles the conjunction; a sound record's numbers make no sum too large.
use mathlib.Core.Path.{◌≡◌, sym, ◌∙◌}
use mathlib.Core.Bool.{true}
use Prim.Native.Nat.{◌+◌, ◌*◌}
use native.Mathlib.Omega.{arith}
use borrow.Author.Tests.{not-true, not-false, lt-ltb, le-ltb}
use borrow.Author.Rules.{rules}
use lib.Dec.{ltb}
use Rattle.model.specs.LogBufferDescriptor.{sound, Sound}
use Rattle.model.proofs.Sound.{sound-true, bounds, begin-most}
use Rattle.publication.specs.Fits.{in_step, unpressed}
use Rattle.publication.proofs.fit.is_unpressed.Statement.{statement}
use Rattle.publication.proofs.fit.is_unpressed.Tie as tie

is-so : (c : tie.Else-not-is_sound) → sound c.args.v c.args.n ≡ true
is-so c = sym c.is_sound.ensures ∙ not-false _ c.if-not-is_sound.false-raw

so : (c : tie.Else-not-is_sound) → Sound c.args.v c.args.n
so c = sound-true _ _ (is-so c)

stepped : (c : tie.Else-not-in_step) → in_step c.args.v ≡ true
stepped c = sym c.in_step.ensures ∙ not-false _ c.if-not-in_step.false-raw

returns : tie.Need-returns-then-not-is_sound
unfolding unpressed
returns c = simp (sym c.is_sound.ensures ∙ not-true _ c.if-not-is_sound.true-raw)

returns-2 : tie.Need-returns-then-not-in_step
unfolding unpressed
returns-2 c = simp (is-so c.before.before, sym c.in_step.ensures ∙ not-true _ c.if-not-in_step.true-raw)

begin-position-requires : tie.Need-begin_position-requires
begin-position-requires c κs = let s = so c.before.before in (bounds _ _ s, s.one_bit)

add-if3 : tie.Need-overflow_add-begin_position
add-if3 c = let s = so c.before.before.before.before in omega (arith, c.begin_position.ensures, begin-most _ (bounds _ _ s), s.offset-high)

-- the position is below the limit
below : (c : tie.Else-v-begin_position) → (let v = c.args.v in ltb (v.count * v.term + v.offset) v.limit ≡ true)
below c =
    let v = c.args.v in
    let e = c.begin_position.ensures in
    let h = c.if-v-begin_position.false in
    lt-ltb (v.count * v.term + v.offset) v.limit (omega arith)

returns-3 : tie.Need-returns-then-v-begin_position
unfolding unpressed
returns-3 c =
    let v = c.args.v in
    let e = c.begin_position.ensures in
    let h = c.if-v-begin_position.true in
    simp (is-so c.before.before.before.before.before.before, stepped c.before.before.before.before, le-ltb (v.count * v.term + v.offset) v.limit (omega arith))

returns-4 : tie.Need-returns
unfolding unpressed
returns-4 c = simp (is-so c.before.before.before.before.before.before, stepped c.before.before.before.before, below c)

pub is_unpressed_spec : {M : Type 1} → statement M
is_unpressed_spec =
    tie.close
    (tie.spec
    (search rules)
    returns
    (search rules)
    returns-2
    begin-position-requires
    add-if3
    returns-3
    returns-4)
