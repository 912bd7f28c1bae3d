-- The tests pick the rung.
use mathlib.Core.Path.{◌≡◌, refl, sym, ◌∙◌}
use mathlib.Core.Bool.{Bool, true, false}
use borrow.Author.Tests.{le-leb, lt-leb, not-true, not-false}
use borrow.Author.Rules.{rules}
use Rattle.model.specs.LogBufferDescriptor.{sound}
use Rattle.model.proofs.Sound.{sound-true, bounds}
use Rattle.publication.proofs.ClearLaws.{clear-tests}
use Rattle.publication.proofs.clearing.before_clear.Statement.{statement}
use Rattle.publication.proofs.clearing.before_clear.Tie as tie

judged : (c : tie.After-is_sound) (b : Bool) → c.is_sound.result ≡ b → sound c.args.v c.args.log_length ≡ b
judged c b h = sym c.is_sound.ensures ∙ h

returns : tie.Need-returns-then-k-gt2
returns c = clear-tests _ _ _ false _ _ (lt-leb _ _ c.if-k-gt2.true) refl refl

returns-2 : tie.Need-returns-then-not-is_sound
returns-2 c = clear-tests _ _ _ true false _ (le-leb _ _ c.if-k-gt2.false) (judged c.before false (not-true _ c.if-not-is_sound.true-raw)) refl

not-due-requires : tie.Need-not_due-requires
not-due-requires c κs = bounds _ _ (sound-true _ _ (judged c.before true (not-false _ c.if-not-is_sound.false-raw)))

returns-3 : tie.Need-returns-then-not_due
returns-3 c =
    clear-tests _ _ _ true true true (le-leb _ _ c.if-k-gt2.false) (judged c.before.before.before true (not-false _ c.if-not-is_sound.false-raw))
    (sym c.not_due.ensures ∙ c.if-not_due.true)

returns-4 : tie.Need-returns
returns-4 c =
    clear-tests _ _ _ true true false (le-leb _ _ c.if-k-gt2.false) (judged c.before.before.before true (not-false _ c.if-not-is_sound.false-raw))
    (sym c.not_due.ensures ∙ c.if-not_due.false)

pub before_clear_spec : {M : Type 1} → statement M
before_clear_spec = tie.close (tie.spec returns (search rules) returns-2 not-due-requires returns-3 returns-4)
