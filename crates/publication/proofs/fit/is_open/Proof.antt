-- A test that fails contradicts what an open publication says; where none fails, whether it is closed is the answer.
use mathlib.Core.Path.{◌≡◌, sym, ◌∙◌}
use Prim.Native.Nat.{◌%◌}
use native.Mathlib.Omega.{arith}
use borrow.Author.Tests.{not-true, not-false}
use borrow.Author.Rules.{rules}
use lib.Bits.{bit_or}
use Rattle.model.proofs.Sound.{begin-most}
use Rattle.logbuffer.proofs.Eithers.{left-multiple, right-multiple, both-multiples}
use Rattle.publication.proofs.Fits.{Terms, terms-true, not-in-terms, not_opened, opened-by}
use Rattle.publication.proofs.fit.is_open.Statement.{statement}
use Rattle.publication.proofs.fit.is_open.Tie as tie

terms : (c : tie.Else-not-in_terms) → Terms c.args.v
terms c = terms-true _ (sym c.in_terms.ensures ∙ not-false _ c.if-not-in_terms.false-raw)

begin-position-requires : tie.Need-begin_position-requires
begin-position-requires c κs = ((terms c).bounded, (terms c).one_bit)

add-position : tie.Need-overflow_add-position
add-position c = let t = terms c.before.before in omega (arith, c.begin_position.ensures, begin-most _ t.bounded, t.bounded.offset-most)

returns-10 : tie.Need-returns
returns-10 c =
    let a = c.args in
    let v = a.v in
    let e = c.begin_position.ensures in
    let multiple : bit_or v.offset (bit_or v.mtu v.slowest) % 32 ≡ 0 = omega (arith, c.if-v-ne0.false) in
    let other = right-multiple v.offset (bit_or v.mtu v.slowest) multiple in
    let below = c.if-v-position.false in
    opened-by v a.n a.m (terms c.before.before.before.before.before.before.before.before.before.before.before.before.before.before.before.before.before.before.before.before.before) c.if-v.false (omega (arith, c.if-n-v.false)) (left-multiple v.offset (bit_or v.mtu v.slowest) multiple) (left-multiple v.mtu v.slowest other) (right-multiple v.mtu v.slowest other)
    c.if-v-lt64.false c.if-v-gt65504.false (omega (arith, e, below)) c.if-m-v.false c.if-v-gt4611686018427387904.false

pub is_open_spec : {M : Type 1} → statement M
is_open_spec =
    tie.close
    (tie.spec
    (search rules)
    (λ c. not-in-terms _ _ _ (sym c.in_terms.ensures ∙ not-true _ c.if-not-in_terms.true-raw))
    begin-position-requires
    add-position
    (λ c. omega (arith, (terms c.before.before.before).bounded.term-most))
    (λ c. not_opened _ _ _ (λ u s. omega (arith, u.so.slowest-high, c.if-v.true)))
    (λ c. omega (arith, (terms c.before.before.before.before.before.before).bounded.term-most))
    (λ c. not_opened _ _ _ (λ u s. omega (arith, u.so.three, c.if-n-v.true)))
    (λ c. not_opened _ _ _ (λ u s. omega (arith, both-multiples _ _ u.so.offset-32 (both-multiples _ _ u.so.mtu-32 u.so.slowest-32), c.if-v-ne0.true)))
    (λ c. not_opened _ _ _ (λ u s. omega (arith, u.so.mtu-low, c.if-v-lt64.true)))
    (λ c. not_opened _ _ _ (λ u s. omega (arith, u.so.mtu-high, c.if-v-gt65504.true)))
    (λ c. not_opened _ _ _ (λ u s. omega (arith, u.below, c.begin_position.ensures, c.if-v-position.true)))
    (search rules)
    (λ c. not_opened _ _ _ (λ u s. omega (arith, s, c.if-m-v.true)))
    (λ c. not_opened _ _ _ (λ u s. omega (arith, u.so.limit-high, c.if-v-gt4611686018427387904.true)))
    returns-10)
