-- One message more, or the end of the batch. A whole message is the reply of `next` there.
use Rattle.std.specs.Prelude.{Result, Ok, Err}
use Rattle.std.proofs.Common.{rules, ◌≡◌, ◌+◌, ◌-◌, ◌/◌, length, List, ℕ, sym, ap, ap₂, subst, ◌∙◌, arith}
use Rattle.model.specs.declared.Error.{Error}
use Rattle.model.specs.declared.Error.TheVariants.{IllegalArgument}
use Rattle.model.specs.Bytes.{long}
use Rattle.image.specs.Images.{state_of as image_state}
use Rattle.logbuffer.proofs.Signed.{long-by}
use Rattle.replay.specs.InPlace.{TermsOf}
use Rattle.replay.specs.Batches.{Batch, laid_at, last_by, last_numbers, batch_from}
use Rattle.replay.specs.Replays.{replay_of, state_of}
use Rattle.replay.specs.Gather.{lent_reply_of}
use Rattle.replay.proofs.InPlace.{open-terms}
use Rattle.replay.proofs.Batching.{batch-buffer, batch-numbers, batch-starts, batch-none, batch-ends}
use Rattle.replay.proofs.Walks.{Here, here, term_on, batch_made, batch_whole, batch_on}
use Rattle.replay.proofs.Replay.next_batch.Goals.{in_default-answer-via-in-Ok+in_default, in_default-answer-via-in_default}
use Rattle.replay.proofs.Replay.next_batch.Goals as goal

pub returns-then-buffer-gt2147483647 : goal.returns-then-buffer-gt2147483647
returns-then-buffer-gt2147483647 c =
    let a = c.args in
    let e = c.batch_reply.ensures in
    batch_made c.batch_reply.result a.self (Err IllegalArgument) a.buffer.now a.numbers.now e.0 e.1
    ∙ batch-buffer a.rec a.log.now (state_of a.self a.buffer.now) a.numbers.now (omega arith)

pub returns-then-numbers-gt2147483647 : goal.returns-then-numbers-gt2147483647
returns-then-numbers-gt2147483647 c =
    let a = c.args in
    let e = c.batch_reply-then-numbers-gt2147483647.ensures in
    batch_made c.batch_reply-then-numbers-gt2147483647.result a.self (Err IllegalArgument) a.buffer.now a.numbers.now e.0 e.1
    ∙ batch-numbers a.rec a.log.now (state_of a.self a.buffer.now) a.numbers.now (omega arith)

pub loop-laid-init : goal.loop-laid-init
loop-laid-init c =
    let a = c.args in
    let most = length a.numbers.now / 4 in
    let z : most - 0 ≡ most = omega arith in
    record {
      lays =
          ap (λ (n : ℕ). batch_from n a.rec a.log.now (state_of a.self a.buffer.now) a.numbers.now 0) z
          ∙ batch-starts a.rec a.log.now (state_of a.self a.buffer.now) a.numbers.now (omega arith) (omega arith);
      term_is = c.reach_of-reach.ensures.0;
      base_is = omega arith;
    }

pub whole_from-found-requires : goal.whole_from-found-requires
whole_from-found-requires c = let h = c.loop-laid.invariant in (subst (TermsOf _) (sym h.term_is) (open-terms _ _ _ _), h.base_is)

-- ---- a whole message

found : (c : goal.In-Some) → Here c.args.rec c.args.log.now (image_state c.loop-laid.image) (length c.loop-laid.buffer) c.reach_of-reach.result.term c.long-p.result c.in-Some.whole
found c =
    let i = c.loop-laid.image in
    here c.args.rec c.args.log.now (image_state i) (length c.loop-laid.buffer) c.reach_of-reach.result.term c.reach_of-reach.result.stop c.long-p.result c.in-Some.whole
    c.loop-laid.invariant.term_is c.reach_of-reach.ensures.1 (long-by i.position c.long-p.ensures.0 (search rules)) (sym c.in-Some.is ∙ c.whole_from-found.ensures.0)

pub overflow_add-end : goal.overflow_add-end
overflow_add-end c = let h = found c in omega arith

pub overflow_mul-end : goal.overflow_mul-end
overflow_mul-end c = let h = found c in omega arith

pub overflow_add-end-in-Some : goal.overflow_add-end-in-Some
overflow_add-end-in-Some c = let h = found c in omega arith

pub overflow_add-from : goal.overflow_add-from
overflow_add-from c =
    let i = c.loop-laid.image in
    let h = here c.args.rec c.args.log.now (image_state i) (length c.loop-laid.buffer) c.reach_of-reach.result.term c.reach_of-reach.result.stop c.long-p.result c.in-Some.whole
    c.loop-laid.invariant.term_is c.reach_of-reach.ensures.1 (long-by i.position c.long-p.ensures.0 (search rules)) (sym c.in-Some.is ∙ c.whole_from-found.ensures.0) in
    omega arith

pub overflow_sub-n : goal.overflow_sub-n
overflow_sub-n c =
    let i = c.loop-laid.image in
    let h = here c.args.rec c.args.log.now (image_state i) (length c.loop-laid.buffer) c.reach_of-reach.result.term c.reach_of-reach.result.stop c.long-p.result c.in-Some.whole
    c.loop-laid.invariant.term_is c.reach_of-reach.ensures.1 (long-by i.position c.long-p.ensures.0 (search rules)) (sym c.in-Some.is ∙ c.whole_from-found.ensures.0) in
    h.header

pub overflow_cast-image : goal.overflow_cast-image
overflow_cast-image c =
    let i = c.loop-laid.image in
    let h = here c.args.rec c.args.log.now (image_state i) (length c.loop-laid.buffer) c.reach_of-reach.result.term c.reach_of-reach.result.stop c.long-p.result c.in-Some.whole
    c.loop-laid.invariant.term_is c.reach_of-reach.ensures.1 (long-by i.position c.long-p.ensures.0 (search rules)) (sym c.in-Some.is ∙ c.whole_from-found.ensures.0) in
    record { sfits = omega arith }

pub loop-laid-preserved-in-Some : goal.loop-laid-preserved-in-Some
loop-laid-preserved-in-Some c =
    let a = c.args in
    let l = c.loop-laid in
    let term = c.reach_of-reach.result.term in
    let h = here a.rec a.log.now (image_state l.image) (length l.buffer) term c.reach_of-reach.result.stop c.long-p.result c.in-Some.whole
    l.invariant.term_is c.reach_of-reach.ensures.1 (long-by l.image.position c.long-p.ensures.0 (search rules)) (sym c.in-Some.is ∙ c.whole_from-found.ensures.0) in
    let most = length a.numbers.now / 4 in
    record {
      lays =
          batch_whole a.rec a.log.now (state_of (replay_of l.image l.count l.ids l.held) l.buffer) l.numbers c.lay.new.numbers l.laid (most - l.laid) (most - (l.laid + 1)) (omega arith) (omega arith)
          term c.long-p.result c.in-Some.whole h c.lay.ensures
          ∙ l.invariant.lays;
      term_is = h.term_kept;
      base_is = c.whole_from-found.ensures.1;
    }

-- ---- with the sessions lent

pub next_lent-reply-requires : goal.next_lent-reply-requires
next_lent-reply-requires c = (omega arith, (c.loop-laid.invariant.term_is, c.reach_of-reach.ensures.1))

pub returns-in_default-answer : goal.returns-in_default-answer
returns-in_default-answer c =
    let a = c.args in
    let l = c.loop-laid in
    let b = c.next_lent-reply.new.buffer in
    let x = c.next_lent-reply.result in
    let y = lent_reply_of x c.next_lent-reply.new.ids c.next_lent-reply.new.held b in
    let stands : c.long.result ≡ long x.image.position = long-by x.image.position c.long.ensures.0 (let k = c.next_lent-reply.type_inv in search (rules, k)) in
    let e = c.batch_reply-in_default-answer.ensures in
    batch_made c.batch_reply-in_default-answer.result _ _ b c.last-answer.new.numbers (e.0 ∙ c.replay_of.ensures) (e.1 ∙ c.last-answer.ensures.value)
    ∙ ap {B = Batch} (λ (o : List ℕ). record { answer = last_by l.laid x.answer; next = y.next; numbers = o }) (c.last-answer.ensures.numbers_after ∙ ap (λ (i : ℕ). last_numbers l.numbers l.laid i x.answer) stands)
    ∙ batch-ends a.rec a.log.now (state_of (replay_of l.image l.count l.ids l.held) l.buffer) l.numbers l.laid (length a.numbers.now / 4 - l.laid) (omega arith) y c.next_lent-reply.ensures
    (λ from n e. elim c.in_default-answer.branch [ in_default-answer-via-in-Ok+in_default w ↦ search rules | in_default-answer-via-in_default w ↦ search rules ])
    ∙ l.invariant.lays

pub loop-laid-preserved : goal.loop-laid-preserved
loop-laid-preserved c =
    let a = c.args in
    let l = c.loop-laid in
    let s = state_of (replay_of l.image l.count l.ids l.held) l.buffer in
    let x = c.next_lent-reply.result in
    let y = lent_reply_of x c.next_lent-reply.new.ids c.next_lent-reply.new.held c.next_lent-reply.new.buffer in
    let m = c.in-Ok-InLog in
    let p = c.long-in-loop-laid in
    let stands : p.result ≡ long x.image.position = long-by x.image.position p.ensures.0 (let k = c.next_lent-reply.type_inv in search (rules, k)) in
    let most = length a.numbers.now / 4 in
    record {
      lays =
          batch_on a.rec a.log.now s l.numbers c.lay-in-loop-laid.new.numbers l.laid (most - l.laid) (most - (l.laid + 1)) (omega arith) (omega arith)
          y c.next_lent-reply.ensures m.from m.length p.result (search rules) stands
          (c.lay-in-loop-laid.ensures ∙ ap₂ (λ (i n : ℕ). laid_at l.numbers l.laid 1 i n p.result) m.from-is m.length-is)
          ∙ l.invariant.lays;
      term_is = term_on a.rec a.log.now s y c.reach_of-reach.result.term (length c.next_lent-reply.new.buffer) l.invariant.term_is (omega arith) c.next_lent-reply.ensures;
      base_is = c.whole_from-found.ensures.1;
    }

-- ---- all that there is room for

pub returns : goal.returns
returns c =
    let a = c.args in
    let l = c.loop-laid in
    let e = c.batch_reply-2.ensures in
    let most = length a.numbers.now / 4 in
    batch_made c.batch_reply-2.result _ _ l.buffer l.numbers (e.0 ∙ c.replay_of-2.ensures) (e.1 ∙ ap {B = Result ℕ Error} Ok (let k : most ≡ l.laid = omega arith in k))
    ∙ batch-none a.rec a.log.now (state_of (replay_of l.image l.count l.ids l.held) l.buffer) l.numbers l.laid (most - l.laid) (omega arith)
    ∙ l.invariant.lays
