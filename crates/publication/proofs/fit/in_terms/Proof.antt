-- A test that fails contradicts what the definition says; where none fails, the one bit is the answer.
use mathlib.Core.Path.{sym, ◌∙◌}
use native.Mathlib.Omega.{arith}
use borrow.Author.Tests.{not-true, not-false}
use borrow.Author.Rules.{rules}
use Rattle.logbuffer.proofs.Eithers.{left-most, right-most, both_below}
use Rattle.publication.proofs.Fits.{not-terms, not-stepped, terms-by}
use Rattle.publication.proofs.fit.in_terms.Statement.{statement}
use Rattle.publication.proofs.fit.in_terms.Tie as tie

returns-5 : tie.Need-returns
returns-5 c =
    let v = c.args.v in
    let most = c.if-v-gt2147483647.false in
    terms-by v (omega (arith, left-most v.count v.offset, most)) (omega (arith, right-most v.count v.offset, most)) (sym c.in_step.ensures ∙ not-false _ c.if-not-in_step.false-raw) c.if-v-lt-TERM_MIN_LENGTH.false c.if-v-gt-TERM_MAX_LENGTH.false

pub in_terms_spec : {M : Type 1} → statement M
in_terms_spec =
    tie.close
    (tie.spec
    (λ c. not-terms _ (λ t. omega (arith, both_below _ _ t.bounded.count_most t.bounded.offset-most, c.if-v-gt2147483647.true)))
    (search rules)
    (λ c. not-stepped _ (sym c.in_step.ensures ∙ not-true _ c.if-not-in_step.true-raw))
    (λ c. not-terms _ (λ t. omega (arith, t.term-low, c.if-v-lt-TERM_MIN_LENGTH.true)))
    (λ c. not-terms _ (λ t. omega (arith, t.bounded.term-most, c.if-v-gt-TERM_MAX_LENGTH.true)))
    returns-5)
