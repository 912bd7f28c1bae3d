-- What `locate` asks, asked in the same order; its laws pick the answer, and the length is stored where the claim's frame starts.
use Rattle.std.proofs.Common.{◌≡◌, ℕ, ◌+◌, ◌-◌, ◌≤◌, true, length, sym, ap, ◌∙◌, subst, arith, w32, SFits, rules}
use borrow.Author.Tests.{not-true, not-false}
use Rattle.model.specs.Bytes.{word, splice, le4}
use Rattle.model.specs.LogBufferDescriptor.{sound, Sound}
use Rattle.model.specs.BufferClaim.{good_claim}
use Rattle.model.specs.FrameDescriptor.{align}
use Rattle.model.proofs.Sound.{sound-true}
use Rattle.model.proofs.BufferClaim.{good-claim-true, claim-inside, locate-bad, locate-unsound, locate-mismatch, locate-span, refuses, commits}
use Rattle.logbuffer.proofs.Signed.{word-by}
use Rattle.logbuffer.proofs.buffer_claim.commit.Statement.{statement}
use Rattle.logbuffer.proofs.buffer_claim.commit.Tie as tie

length-fits : (c : tie.Start) → SFits w32 c.args.claim.length
length-fits c = search rules

good : (c : tie.Else-not-good_claim) → good_claim c.read_active-v.result c.args.claim ≡ true
good c = sym c.good_claim.ensures ∙ not-false _ c.if-not-good_claim.false-raw

is-so : (c : tie.Else-not-is_sound) → sound c.read_active-v.result (length c.args.log.now) ≡ true
is-so c = sym c.is_sound.ensures ∙ not-false _ c.if-not-is_sound.false-raw

low : (c : tie.Else-not-is_sound) → Sound c.read_active-v.result (length c.args.log.now)
low c = sound-true _ _ (is-so c)

inside : (c : tie.After-start-at) → (let s = c.args in
    (32 ≤ word s.claim.length) × (c.start-at.result + align (word s.claim.length) ≤ length s.log.now))
inside c = let g = good-claim-true _ _ (good c.before.before.before) in
    (g.low, subst (λ (n : ℕ). n + align (word c.args.claim.length) ≤ length c.args.log.now) (sym c.start-at.ensures) (claim-inside _ _ _ g (low c.before)))

returns : tie.Need-returns-then-not-good_claim
returns c =
    let s = c.args in
    let f = refuses s.rec s.log.now s.claim _ (sym (locate-bad s.rec s.log.now s.claim _ c.read_active-v.ensures (sym c.good_claim.ensures ∙ not-true _ c.if-not-good_claim.true-raw))) in
    (f.0, f.1.0)

returns-2 : tie.Need-returns-then-not-is_sound
returns-2 c =
    let s = c.args in
    let f = refuses s.rec s.log.now s.claim _ (sym (locate-unsound s.rec s.log.now s.claim _ c.read_active-v.ensures (good c.before.before) (sym c.is_sound.ensures ∙ not-true _ c.if-not-is_sound.true-raw))) in
    (f.0, f.1.0)

start-requires : tie.Need-start-at-requires
start-requires c κs = omega (arith, low c)

shows-requires : tie.Need-shows-requires
shows-requires c κs = let i = inside c in omega (arith, (good-claim-true _ _ (good c.before.before.before)).inside, low c.before)

returns-3 : tie.Need-returns-then-not-shows
returns-3 c =
    let s = c.args in
    let f = refuses s.rec s.log.now s.claim _ (sym (locate-mismatch s.rec s.log.now s.claim _ c.read_active-v.ensures _ c.start-at.ensures (good c.before.before.before.before.before) (is-so c.before.before.before) (sym c.shows.ensures ∙ not-true _ c.if-not-shows.true-raw))) in
    (f.0, f.1.0)

put4-requires : tie.Need-put4-requires
put4-requires c κs = let i = inside c.before.before.before.before.before in omega arith

returns-4 : tie.Need-returns
returns-4 c =
    let s = c in
    let a = s.args in
    let at = c.start-at.result in
    let l = word-by _ c.word.ensures.0 (length-fits c.before.before.before.before.before.before.before.before.before.before.before.before.before.before.before) in
    let e = locate-span a.rec a.log.now a.claim _ c.read_active-v.ensures at _ c.start-at.ensures l (good c.before.before.before.before.before.before.before.before.before.before.before) (is-so c.before.before.before.before.before.before.before.before.before) (sym c.shows.ensures ∙ not-false _ c.if-not-shows.false-raw) in
    let f = commits a.rec a.log.now a.claim _ _ (sym e) in
    let back : at ≡ at + 32 - 32 = omega arith in
    (f.0, c.put4.ensures ∙ ap (λ (n : ℕ). splice a.log.now at (le4 n)) l ∙ ap (λ (i : ℕ). splice a.log.now i (le4 (word a.claim.length))) back ∙ f.1)

pub commit_spec : {M : Type 1} → statement M
commit_spec =
    tie.close
    (tie.spec
    (search rules)
    (search rules)
    returns
    (search rules)
    returns-2
    start-requires
    shows-requires
    (search rules)
    returns-3
    (search rules)
    put4-requires
    (search rules)
    returns-4)
