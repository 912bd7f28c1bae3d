-- A test that fails settles the conjunction.
use Rattle.std.proofs.Common.{◌≡◌, w32, SFits, rules, eq-eqb, ne_eqb, le-leb}
use borrow.Author.Tests.{lt-leb}
use Rattle.model.specs.BufferClaim.{good_claim}
use Rattle.logbuffer.proofs.Signed.{word-by}
use Rattle.logbuffer.proofs.Claims.{good_numbers, good-by}
use Rattle.logbuffer.proofs.buffer_claim.good_claim.Statement.{statement}
use Rattle.logbuffer.proofs.buffer_claim.good_claim.Tie as tie

partition-fits : (c : tie.Start) → SFits w32 c.args.claim.partition
partition-fits c = search rules

offset-fits : (c : tie.Start) → SFits w32 c.args.claim.offset
offset-fits c = search rules

length-fits : (c : tie.Start) → SFits w32 c.args.claim.length
length-fits c = search rules

-- the test on the numbers that were read
law : (c : tie.After-word) → good_numbers c.args.v c.word.result c.word-offset.result c.word-length.result ≡ good_claim c.args.v c.args.claim
law c =
    good-by c.args.v c.args.claim c.word.result c.word-offset.result c.word-length.result
    (word-by _ c.word.ensures.0 (partition-fits c.before.before.before.before.before.before)) (word-by _ c.word-offset.ensures.0 (offset-fits c.before.before.before.before.before.before)) (word-by _ c.word-length.ensures.0 (length-fits c.before.before.before.before.before.before))

returns : tie.Need-returns-then-word-gt2
returns c = simp (lt-leb _ _ c.if-word-gt2.true) at (law c.before)

returns-2 : tie.Need-returns-then-offset-ne0
returns-2 c = simp (le-leb _ _ c.if-word-gt2.false, ne_eqb _ _ c.if-offset-ne0.true) at (law c.before.before)

returns-3 : tie.Need-returns-then-length-lt-HEADER_LENGTH
returns-3 c = simp (le-leb _ _ c.if-word-gt2.false, eq-eqb _ _ c.if-offset-ne0.false, lt-leb _ _ c.if-length-lt-HEADER_LENGTH.true) at (law c.before.before.before)

returns-4 : tie.Need-returns-then-offset-length
returns-4 c = simp (le-leb _ _ c.if-word-gt2.false, eq-eqb _ _ c.if-offset-ne0.false, le-leb _ _ c.if-length-lt-HEADER_LENGTH.false, lt-leb _ _ c.if-offset-length.true) at (law c.before.before.before.before.before)

returns-5 : tie.Need-returns
returns-5 c = simp (le-leb _ _ c.if-word-gt2.false, eq-eqb _ _ c.if-offset-ne0.false, le-leb _ _ c.if-length-lt-HEADER_LENGTH.false, le-leb _ _ c.if-offset-length.false) at (law c.before.before.before.before.before.before)

pub good_claim_spec : {M : Type 1} → statement M
good_claim_spec =
    tie.close
    (tie.spec
    (search rules)
    (search rules)
    (search rules)
    returns
    returns-2
    returns-3
    (search rules)
    (search rules)
    (search rules)
    returns-4
    returns-5)
