-- Too many bytes are refused first; then by what was located: the bytes are laid over the body.
use Rattle.std.proofs.Common.{◌≡◌, ℕ, ◌-◌, min, List, length, take, drop, sym, ap, ◌∙◌, arith, take_all}
use Rattle.std.proofs.lemmas.Result.{err_from_is_err_and}
use lib.Seq.{take-length}
use Rattle.model.specs.Bytes.{splice}
use Rattle.model.specs.BufferClaim.{write_outcome, write_over}
use Rattle.model.proofs.Choice.{split}
use Rattle.model.proofs.BufferClaim.{span-in, write-long, write-short}
use Rattle.logbuffer.proofs.buffer_claim.write.Goals as goal

-- as many bytes as the body has room for
few : (n : ℕ) (b : List ℕ) → take (min n (length b)) (drop 0 b) ≡ take n b
few n b =
    split n (length b) (λ l. let e : min n (length b) ≡ n = omega arith in ap (λ (k : ℕ). take k b) e)
    (λ l. let e : min n (length b) ≡ length b = omega arith in ap (λ (k : ℕ). take k b) e ∙ take-length b ∙ sym (take_all n b (omega arith)))

pub returns-then-n-gt2147483647 : goal.returns-then-n-gt2147483647
returns-then-n-gt2147483647 c = let a = c.args in
    let e = sym (write-long a.rec a.log.now a.claim (length a.bytes.now) c.if-n-gt2147483647.true) in
    record { value = ap write_outcome e; log_after = ap (write_over a.log.now a.bytes.now) e }

pub returns-in_err-span : goal.returns-in_err-span
returns-in_err-span c = let a = c.args in
    let p = err_from_is_err_and c.from_residual.result c.from_residual.ensures.1 in
    let e = sym (write-short a.rec a.log.now a.claim (length a.bytes.now) (omega arith) ∙ sym c.locate.ensures ∙ c.in_err-span.was) in
    record { value = rw (p.1, p.2) (ap write_outcome e); log_after = ap (write_over a.log.now a.bytes.now) e }

pub overflow_sub-room : goal.overflow_sub-room
overflow_sub-room c = let a = c.args in (span-in a.rec a.log.now a.claim _ _ (sym c.locate.ensures ∙ c.in_ok-span.was)).1.0

pub copy-requires : goal.copy-requires
copy-requires c =
    let a = c.args in
    let i = span-in a.rec a.log.now a.claim _ _ (sym c.locate.ensures ∙ c.in_ok-span.was) in
    (omega (arith, c.at_most.ensures), omega (arith, c.at_most.ensures))

pub returns : goal.returns
returns c =
    let a = c.args in
    let span = c.in_ok-span.span in
    let e = sym (write-short a.rec a.log.now a.claim (length a.bytes.now) (omega arith) ∙ sym c.locate.ensures ∙ c.in_ok-span.was) in
    record {
      value = ap write_outcome e;
      log_after =
          c.copy.ensures
          ∙ ap (λ (k : ℕ). splice a.log.now span.start (take k (drop 0 a.bytes.now))) c.at_most.ensures
          ∙ ap (splice a.log.now span.start) (few (span.end - span.start) a.bytes.now)
          ∙ ap (write_over a.log.now a.bytes.now) e;
    }
