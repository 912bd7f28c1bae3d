-- The tests that were passed pick the answer; a good claim's frame lies in a sound log.
use Rattle.std.proofs.Common.{◌≡◌, ℕ, ◌+◌, ◌≤◌, true, length, sym, ◌∙◌, subst, arith, w32, SFits, rules}
use borrow.Author.Tests.{not-true, not-false}
use Rattle.model.specs.Bytes.{word}
use Rattle.model.specs.LogBufferDescriptor.{sound, Sound}
use Rattle.model.specs.BufferClaim.{good_claim}
use Rattle.model.specs.FrameDescriptor.{align}
use Rattle.model.proofs.Sound.{sound-true}
use Rattle.model.proofs.BufferClaim.{good-claim-true, claim-inside, locate-bad, locate-unsound, locate-mismatch, locate-span}
use Rattle.logbuffer.proofs.Signed.{word-by}
use Rattle.logbuffer.proofs.buffer_claim.locate.Statement.{statement}
use Rattle.logbuffer.proofs.buffer_claim.locate.Tie as tie

length-fits : (c : tie.Start) → SFits w32 c.args.claim.length
length-fits c = search rules

good : (c : tie.Else-not-good_claim) → good_claim c.read_active-v.result c.args.claim ≡ true
good c = sym c.good_claim.ensures ∙ not-false _ c.if-not-good_claim.false-raw

is-so : (c : tie.Else-not-is_sound) → sound c.read_active-v.result (length c.args.log.now) ≡ true
is-so c = sym c.is_sound.ensures ∙ not-false _ c.if-not-is_sound.false-raw

low : (c : tie.Else-not-is_sound) → Sound c.read_active-v.result (length c.args.log.now)
low c = sound-true _ _ (is-so c)

inside : (c : tie.After-start-at) → (let s = c.args in
    (32 ≤ word s.claim.length) × (c.start-at.result + align (word s.claim.length) ≤ length s.log.now))
inside c = let g = good-claim-true _ _ (good c.before.before.before) in
    (g.low, subst (λ (n : ℕ). n + align (word c.args.claim.length) ≤ length c.args.log.now) (sym c.start-at.ensures) (claim-inside _ _ _ g (low c.before)))

returns : tie.Need-returns-then-not-good_claim
returns c = let s = c.args in locate-bad s.rec s.log.now s.claim _ c.read_active-v.ensures (sym c.good_claim.ensures ∙ not-true _ c.if-not-good_claim.true-raw)

returns-2 : tie.Need-returns-then-not-is_sound
returns-2 c = let s = c.args in locate-unsound s.rec s.log.now s.claim _ c.read_active-v.ensures (good c.before.before) (sym c.is_sound.ensures ∙ not-true _ c.if-not-is_sound.true-raw)

start-requires : tie.Need-start-at-requires
start-requires c κs = omega (arith, low c)

shows-requires : tie.Need-shows-requires
shows-requires c κs = let i = inside c in omega (arith, (good-claim-true _ _ (good c.before.before.before)).inside, low c.before)

returns-3 : tie.Need-returns-then-not-shows
returns-3 c = let s = c.args in locate-mismatch s.rec s.log.now s.claim _ c.read_active-v.ensures _ c.start-at.ensures (good c.before.before.before.before.before) (is-so c.before.before.before) (sym c.shows.ensures ∙ not-true _ c.if-not-shows.true-raw)

add-t9 : tie.Need-overflow_add-result
add-t9 c = let i = inside c.before.before in omega arith

add-t13 : tie.Need-overflow_add-result-2
add-t13 c = let i = inside c.before.before.before.before in let e = word-by _ c.word.ensures.0 (length-fits c.before.before.before.before.before.before.before.before.before.before.before) in omega arith

returns-4 : tie.Need-returns
returns-4 c = let s = c in locate-span s.args.rec s.args.log.now s.args.claim _ c.read_active-v.ensures _ _ c.start-at.ensures (word-by _ c.word.ensures.0 (length-fits c.before.before.before.before.before.before.before.before.before.before.before)) (good c.before.before.before.before.before.before.before) (is-so c.before.before.before.before.before) (sym c.shows.ensures ∙ not-false _ c.if-not-shows.false-raw)

pub locate_spec : {M : Type 1} → statement M
locate_spec =
    tie.close
    (tie.spec
    (search rules)
    (search rules)
    returns
    (search rules)
    returns-2
    start-requires
    shows-requires
    returns-3
    add-t9
    (search rules)
    add-t13
    returns-4)
