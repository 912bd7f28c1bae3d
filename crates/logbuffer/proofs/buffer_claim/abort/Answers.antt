-- By what was located: type and length are stored before the body.
use Rattle.std.proofs.Common.{ℕ, ◌-◌, List, sym, ◌∙◌, ap₂, arith, w32, SFits, rules}
use Rattle.std.proofs.lemmas.Result.{err_from_is_err_and}
use Rattle.model.specs.Bytes.{splice, le4}
use Rattle.model.proofs.BufferClaim.{span-in, refuses, commits, aborts}
use Rattle.logbuffer.proofs.Signed.{word-by}
use Rattle.logbuffer.proofs.buffer_claim.abort.Goals as goal

pub returns-in_err-span : goal.returns-in_err-span
returns-in_err-span c =
    let p = err_from_is_err_and c.from_residual.result c.from_residual.ensures.1 in
    let f = refuses c.args.rec c.args.log.now c.args.claim _ (sym c.locate.ensures ∙ c.in_err-span.was) in
    record { value = rw (p.1, p.2) f.0; log_after = f.1.1 }

pub overflow_sub-span : goal.overflow_sub-span
overflow_sub-span c = let i = span-in c.args.rec c.args.log.now c.args.claim _ _ (sym c.locate.ensures ∙ c.in_ok-span.was) in omega arith

pub put2-requires : goal.put2-requires
put2-requires c = let i = span-in c.args.rec c.args.log.now c.args.claim _ _ (sym c.locate.ensures ∙ c.in_ok-span.was) in omega arith

pub overflow_sub-span-2 : goal.overflow_sub-span-2
overflow_sub-span-2 c = let i = span-in c.args.rec c.args.log.now c.args.claim _ _ (sym c.locate.ensures ∙ c.in_ok-span.was) in omega arith

pub put4-requires : goal.put4-requires
put4-requires c = let i = span-in c.args.rec c.args.log.now c.args.claim _ _ (sym c.locate.ensures ∙ c.in_ok-span.was) in omega arith

pub returns : goal.returns
returns c =
    let span = sym c.locate.ensures ∙ c.in_ok-span.was in
    let at = c.in_ok-span.span.start in
    let fits : SFits w32 c.args.claim.length = search rules in
    record {
      value = (commits c.args.rec c.args.log.now c.args.claim _ _ span).0;
      log_after = c.put4.ensures ∙ ap₂ (λ (l : List ℕ) (n : ℕ). splice l (at - 32) (le4 n)) c.put2.ensures (word-by _ c.word.ensures.0 fits) ∙ aborts c.args.rec c.args.log.now c.args.claim _ _ span;
    }
