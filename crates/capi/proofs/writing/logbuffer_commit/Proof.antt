-- Where the shorter path says that it did the commit, number and log are the definition's. All else is the promise of `commit_by_all`, over a log that is as it was
-- and a claim that is read again from its words.
use mathlib.Core.Path.{◌≡◌, ap₂, ◌∙◌}
use mathlib.Core.List.{List}
use Prim.Native.Nat.{ℕ}
use borrow.Author.Rules.{rules}
use borrow.Author.Tests.{not-true, not-false}
use mir.Syntax.{w32, w64}
use mir.Val.{SFits, of_z, to_z}
use Rattle.model.specs.declared.Claim.{Claim}
use Rattle.model.specs.declared.LogRecord.{LogRecord}
use Rattle.model.specs.BufferClaim.{commit_of, commit_bytes}
use Rattle.capi.specs.Words.{record_in, claim_in}
use Rattle.capi.specs.Replies.{outcome_number}
use Rattle.capi.proofs.Promised.{promised, of-1, of-2}
use Rattle.capi.proofs.Halves.{pair-by}
use Rattle.capi.proofs.Steps.{claim-back}
use Rattle.capi.proofs.Fitted.{commit-none, commit-some}
use Rattle.capi.proofs.writing.logbuffer_commit.Statement.{statement}
use Rattle.capi.proofs.writing.logbuffer_commit.Tie as tie

partition-fits : (s : tie.Start) → SFits w32 s.args.claim.partition
partition-fits s = search rules

offset-fits : (s : tie.Start) → SFits w32 s.args.claim.offset
offset-fits s = search rules

length-fits : (s : tie.Start) → SFits w32 s.args.claim.length
length-fits s = search rules

id-fits : (s : tie.Start) → SFits w32 s.args.claim.term_id
id-fits s = search rules

-- the claim by its two words
back : (c : tie.After-pair-second) → claim_in (to_z w64 (of_z w64 c.pair-first.result)) (to_z w64 (of_z w64 c.pair-second.result)) ≡ c.args.claim
back c =
    let s = c in
    let k = s.args.claim in
    ap₂ claim_in (pair-by k.partition k.offset c.pair-first.ensures (partition-fits c.before.before.before.before.before.before.before) (offset-fits c.before.before.before.before.before.before.before) (search rules)) (pair-by k.length k.term_id c.pair-second.ensures (length-fits c.before.before.before.before.before.before.before) (id-fits c.before.before.before.before.before.before.before) (search rules))
    ∙ claim-back k (partition-fits c.before.before.before.before.before.before.before) (offset-fits c.before.before.before.before.before.before.before) (length-fits c.before.before.before.before.before.before.before) (id-fits c.before.before.before.before.before.before.before)

returns : tie.Need-returns-then-claim-lt32
returns c =
    let a = c.args in
    let r = record_in a.rec.now in
    let f = c.commit_by_all.ensures in
    let same = back c.before.before.before.before.before.before.before in
    (promised (of-1 (λ (x : Claim). outcome_number (commit_of r a.log.now x)) f.0 same) (search rules), of-1 (commit_bytes r a.log.now) f.1 same)

returns-2 : tie.Need-returns-then-not-commit_fit
returns-2 c =
    let a = c.args in
    let r = record_in a.rec.now in
    let d = c.commit_fit in
    let log = commit-none c.record_in.result a.log.now a.claim _ _ d.ensures.0 d.ensures.1 (not-true _ c.if-not-commit_fit.true-raw) in
    let f = c.commit_by_all-then-not-commit_fit.ensures in
    let same = back c.before.before.before.before.before.before.before.before.before.before.before.before.before in
    (promised (of-2 (λ (l : List ℕ) (x : Claim). outcome_number (commit_of r l x)) f.0 log same) (search rules), of-2 (commit_bytes r) f.1 log same)

returns-3 : tie.Need-returns
returns-3 c =
    let a = c.args in
    let d = c.commit_fit in
    let rec = c.record_in in
    let some = commit-some rec.result a.log.now a.claim _ _ d.ensures.0 d.ensures.1 (not-false _ c.if-not-commit_fit.false-raw) in
    (of-1 (λ (r : LogRecord). outcome_number (commit_of r a.log.now a.claim)) some.0 rec.ensures, of-1 (λ (r : LogRecord). commit_bytes r a.log.now a.claim) some.1 rec.ensures)

pub logbuffer_commit_spec : {M : Type 1} → statement M
logbuffer_commit_spec =
    tie.close
    (tie.spec
    (search rules)
    (search rules)
    (search rules)
    (search rules)
    returns
    (search rules)
    (search rules)
    (search rules)
    (search rules)
    returns-2
    (search rules)
    returns-3)
