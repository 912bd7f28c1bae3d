-- The two words of the header decide.
use Rattle.std.proofs.Common.{◌≡◌, drop, pos, ◌-ℤ◌, w32, SFits, to_z, of_z, rules}
use Rattle.model.specs.Bytes.{word, u32}
use Rattle.model.specs.FrameDescriptor.{negated}
use Rattle.logbuffer.proofs.Signed.{word-by}
use Rattle.logbuffer.proofs.Signs.{bits32, minus-fits, minus-bits}
use Rattle.logbuffer.proofs.Claims.{differs, agrees}
use Rattle.logbuffer.proofs.buffer_claim.shows.Statement.{statement}
use Rattle.logbuffer.proofs.buffer_claim.shows.Tie as tie

id-fits : (c : tie.Start) → SFits w32 c.args.claim.term_id
id-fits c = search rules

sub-if1 : tie.Need-overflow_sub-claim
sub-if1 c = let s = c in minus-fits (word s.args.claim.length) s.requires.1.0 s.requires.1.1

-- the length word that was read, and the claim's length negated, both as bits
shown : (c : tie.After-to_i32-shown) → of_z w32 c.to_i32-shown.result ≡ u32 (drop c.args.at c.args.log.now)
shown c = bits32 _ _ _ c.to_i32-shown.ensures c.word4.ensures.0 c.word4.ensures.1

minus : (c : tie.Start) → of_z w32 (pos 0 -ℤ to_z w32 (word c.args.claim.length)) ≡ negated (word c.args.claim.length)
minus c = minus-bits (word c.args.claim.length) c.requires.1.0 c.requires.1.1

returns : tie.Need-returns-then-shown-claim
returns c = let s = c in
    differs s.args.log.now s.args.at s.args.claim _ _ (shown c.before.before.before) (minus c.before.before.before.before.before.before) c.if-shown-claim.true

returns-2 : tie.Need-returns
returns-2 c = let s = c in
    agrees s.args.log.now s.args.at s.args.claim _ _ (shown c.before.before.before.before.before.before) (minus c.before.before.before.before.before.before.before.before.before) c.if-shown-claim.false c.word4-2.result c.word.result c.word4-2.ensures.0 (word-by _ c.word.ensures.0 (id-fits c.before.before.before.before.before.before.before.before.before))

pub shows_spec : {M : Type 1} → statement M
shows_spec =
    tie.close
    (tie.spec
    (search rules)
    (search rules)
    sub-if1
    returns
    (search rules)
    (search rules)
    (search rules)
    returns-2)
