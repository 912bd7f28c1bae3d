-- The tests pick the rung.
use mathlib.Core.Path.{◌≡◌, refl, sym, ◌∙◌}
use mathlib.Core.Bool.{Bool, true, false}
use borrow.Author.Tests.{lt-ltb, le-ltb, not-true, not-false}
use borrow.Author.Rules.{rules}
use Rattle.model.specs.LogBufferDescriptor.{good_position, sound_record}
use Rattle.model.proofs.SoundRecord.{sound-record-true}
use Rattle.publication.proofs.ClearLaws.{raise-tests}
use Rattle.publication.proofs.clearing.before_raise.Statement.{statement}
use Rattle.publication.proofs.clearing.before_raise.Tie as tie

-- what the two calls have shown
is-sound : (c : tie.After-is_sound_record) (b : Bool) → c.is_sound_record.result ≡ b → sound_record c.args.v ≡ b
is-sound c b h = sym c.is_sound_record.ensures ∙ h

in-range : (c : tie.After-is_good) (b : Bool) → c.is_good.result ≡ b → good_position c.args.v c.args.position ≡ b
in-range c b h = sym c.is_good.ensures ∙ h

returns : tie.Need-returns-then-not-is_sound_record
returns c = raise-tests _ _ false _ _ (is-sound c.before false (not-true _ c.if-not-is_sound_record.true-raw)) refl refl

is-good-requires : tie.Need-is_good-requires
is-good-requires c κs = (sound-record-true _ (is-sound c.before true (not-false _ c.if-not-is_sound_record.false-raw))).term-high

returns-2 : tie.Need-returns-then-not-is_good
returns-2 c =
    raise-tests _ _ true false _ (is-sound c.before.before.before true (not-false _ c.if-not-is_sound_record.false-raw)) (in-range c.before false (not-true _ c.if-not-is_good.true-raw)) refl

returns-3 : tie.Need-returns-then-position-v
returns-3 c =
    raise-tests _ _ true true true (is-sound c.before.before.before.before.before true (not-false _ c.if-not-is_sound_record.false-raw))
    (in-range c.before.before.before true (not-false _ c.if-not-is_good.false-raw)) (lt-ltb _ _ c.if-position-v.true)

returns-4 : tie.Need-returns
returns-4 c =
    raise-tests _ _ true true false (is-sound c.before.before.before.before.before true (not-false _ c.if-not-is_sound_record.false-raw))
    (in-range c.before.before.before true (not-false _ c.if-not-is_good.false-raw)) (le-ltb _ _ c.if-position-v.false)

pub before_raise_spec : {M : Type 1} → statement M
before_raise_spec = tie.close (tie.spec (search rules) returns is-good-requires returns-2 returns-3 returns-4)
