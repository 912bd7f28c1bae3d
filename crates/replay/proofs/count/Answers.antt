-- One message more, or the end of the count. A whole message is the reply of `next` there.
use Rattle.std.specs.Prelude.{Result, Ok, Err}
use Rattle.std.proofs.Common.{rules, ◌≡◌, ◌+◌, ◌-◌, ◌*◌, length, ℕ, pos, w64, w32, to_z, of_z, refl, sym, ap, subst, ◌∙◌, arith}
use lib.ListN.{replicate}
use Rattle.model.specs.declared.Error.{Error}
use Rattle.model.specs.declared.Error.TheVariants.{IllegalArgument}
use Rattle.model.specs.LogBufferDescriptor.{reading}
use Rattle.model.specs.Replay.{giving, from_start}
use Rattle.image.specs.Images.{state_of as image_state}
use Rattle.logbuffer.proofs.Signed.{word-by, long-by}
use Rattle.replay.specs.InPlace.{TermsOf}
use Rattle.replay.specs.declared.Counted.{Counted}
use Rattle.replay.specs.Replays.{Tally, added_to, replay_of, state_of, count_of}
use Rattle.replay.specs.Gather.{lent_reply_of}
use Rattle.replay.proofs.InPlace.{open-terms}
use Rattle.replay.proofs.Turns.{next-refused, count_none, count-stops, count-starts}
use Rattle.replay.proofs.Walks.{Here, here, term_on, count_whole, count_reply, count_signed}
use Rattle.replay.proofs.count.Goals as goal

-- row 1
refused : (c : goal.Then-buffer-gt2147483647) → ◌≡◌ {A = Tally} (record { answer = Err IllegalArgument; buffer = c.args.buffer.now }) (count_of c.args.rec c.args.log.now c.args.position c.args.session_id c.args.buffer.now)
refused c =
    let a = c.args in
    let s = from_start a.position a.session_id a.buffer.now in
    count-stops a.rec a.log.now s 0 0 (3 * (reading a.rec).term + 1) (omega arith) (giving s (Err IllegalArgument)) (next-refused a.rec a.log.now s (omega arith)) refl

pub returns-then-buffer-gt2147483647-clause-value :
    goal.returns-then-buffer-gt2147483647-clause-value
returns-then-buffer-gt2147483647-clause-value c = ap (λ (x : Tally). x.answer) (refused c)

pub returns-then-buffer-gt2147483647-clause-buffer_after :
    goal.returns-then-buffer-gt2147483647-clause-buffer_after
returns-then-buffer-gt2147483647-clause-buffer_after c = ap (λ (x : Tally). x.buffer) (refused c)

pub loop-messages-init : goal.loop-messages-init
loop-messages-init c =
    let a = c.args in
    let w = c.word in
    record {
      counts =
          count-starts a.rec a.log.now (replay_of c.new-image.result 0 (replicate 16 (pos 0)) (replicate 16 0)) (to_z w64 (of_z w64 a.position)) (to_z w32 (of_z w32 a.session_id)) a.buffer.now w.result
          (ap image_state c.new-image.ensures) refl (word-by a.rec.term_length w.ensures.0 (search rules));
      term_is = c.reach_of-reach.ensures.0;
      base_is = omega arith;
    }

pub whole_from-found-requires : goal.whole_from-found-requires
whole_from-found-requires c = let h = c.loop-messages.invariant in (subst (TermsOf _) (sym h.term_is) (open-terms _ _ _ _), h.base_is)

-- ---- a whole message

found : (c : goal.In-Some) → Here c.args.rec c.args.log.now (image_state c.loop-messages.image) (length c.loop-messages.buffer) c.reach_of-reach.result.term c.long-p.result c.in-Some.whole
found c =
    let i = c.loop-messages.image in
    here c.args.rec c.args.log.now (image_state i) (length c.loop-messages.buffer) c.reach_of-reach.result.term c.reach_of-reach.result.stop c.long-p.result c.in-Some.whole
    c.loop-messages.invariant.term_is c.reach_of-reach.ensures.1 (long-by i.position c.long-p.ensures.0 (search rules)) (sym c.in-Some.is ∙ c.whole_from-found.ensures.0)

pub overflow_add-image : goal.overflow_add-image
overflow_add-image c = let h = found c in omega arith

pub overflow_mul-image : goal.overflow_mul-image
overflow_mul-image c = let h = found c in omega arith

pub overflow_add-image-in-Some : goal.overflow_add-image-in-Some
overflow_add-image-in-Some c = let h = found c in omega arith

pub overflow_cast-image : goal.overflow_cast-image
overflow_cast-image c = let h = found c in record { sfits = omega arith }

pub overflow_sub-n : goal.overflow_sub-n
overflow_sub-n c = (found c).header

pub loop-messages-preserved-in-Some : goal.loop-messages-preserved-in-Some
loop-messages-preserved-in-Some c =
    let a = c.args in
    let l = c.loop-messages in
    let h = here a.rec a.log.now (image_state l.image) (length l.buffer) c.reach_of-reach.result.term c.reach_of-reach.result.stop c.long-p.result c.in-Some.whole
    l.invariant.term_is c.reach_of-reach.ensures.1 (long-by l.image.position c.long-p.ensures.0 (search rules)) (sym c.in-Some.is ∙ c.whole_from-found.ensures.0) in
    let most = 3 * c.word.result + 1 in
    record {
      counts =
          count_whole a.rec a.log.now (state_of (replay_of l.image l.count l.ids l.held) l.buffer) l.messages l.bytes (most - l.messages) (most - (l.messages + 1)) c.added-bytes.result (omega arith) (omega arith)
          c.reach_of-reach.result.term c.long-p.result c.in-Some.whole h c.added-bytes.ensures
          ∙ l.invariant.counts;
      term_is = h.term_kept;
      base_is = c.whole_from-found.ensures.1;
    }

-- ---- with the sessions lent

pub next_lent-reply-requires : goal.next_lent-reply-requires
next_lent-reply-requires c = (omega arith, (c.loop-messages.invariant.term_is, c.reach_of-reach.ensures.1))

stopped : (c : goal.After-count_of) → ◌≡◌ {A = Tally} (record { answer = c.count_of.result; buffer = c.next_lent-reply.new.buffer }) (count_of c.args.rec c.args.log.now c.args.position c.args.session_id c.args.buffer.now)
stopped c =
    let a = c.args in
    let l = c.loop-messages in
    let y = lent_reply_of c.next_lent-reply.result c.next_lent-reply.new.ids c.next_lent-reply.new.held c.next_lent-reply.new.buffer in
    ap (λ (x : Result Counted Error). record { answer = x; buffer = c.next_lent-reply.new.buffer }) c.count_of.ensures
    ∙ count-stops a.rec a.log.now (state_of (replay_of l.image l.count l.ids l.held) l.buffer) l.messages l.bytes (3 * c.word.result + 1 - l.messages) (omega arith) y c.next_lent-reply.ensures
    (sym c.gives.ensures ∙ c.if-not-gives.true)
    ∙ l.invariant.counts ∙ count_signed a.rec a.log.now a.position a.session_id a.buffer.now c.ranges.position c.ranges.session_id

pub returns-then-not-gives-clause-value : goal.returns-then-not-gives-clause-value
returns-then-not-gives-clause-value c = ap (λ (x : Tally). x.answer) (stopped c)

pub returns-then-not-gives-clause-buffer_after : goal.returns-then-not-gives-clause-buffer_after
returns-then-not-gives-clause-buffer_after c = ap (λ (x : Tally). x.buffer) (stopped c)

pub loop-messages-preserved : goal.loop-messages-preserved
loop-messages-preserved c =
    let a = c.args in
    let l = c.loop-messages in
    let s = state_of (replay_of l.image l.count l.ids l.held) l.buffer in
    let y = lent_reply_of c.next_lent-reply.result c.next_lent-reply.new.ids c.next_lent-reply.new.held c.next_lent-reply.new.buffer in
    let most = 3 * c.word.result + 1 in
    record {
      counts =
          count_reply a.rec a.log.now s l.messages l.bytes (most - l.messages) (most - (l.messages + 1)) c.added-bytes-in-loop-messages.result (omega arith) (omega arith)
          y c.next_lent-reply.ensures (sym c.gives.ensures ∙ c.if-not-gives.false) (c.added-bytes-in-loop-messages.ensures ∙ ap (added_to l.bytes) c.length_of.ensures)
          ∙ l.invariant.counts;
      term_is = term_on a.rec a.log.now s y c.reach_of-reach.result.term (length c.next_lent-reply.new.buffer) l.invariant.term_is (omega arith) c.next_lent-reply.ensures;
      base_is = c.whole_from-found.ensures.1;
    }

-- ---- all that were asked for

all : (c : goal.After-loop-messages) → ◌≡◌ {A = Tally} (record { answer = Ok (record { messages = 3 * c.word.result + 1; bytes = c.loop-messages.bytes }); buffer = c.loop-messages.buffer }) (count_of c.args.rec c.args.log.now c.args.position c.args.session_id c.args.buffer.now)
all c =
    let a = c.args in
    let l = c.loop-messages in
    let most = 3 * c.word.result + 1 in
    ap (λ (n : ℕ). record { answer = Ok (record { messages = n; bytes = l.bytes }); buffer = l.buffer }) (let e : most ≡ l.messages = omega arith in e)
    ∙ count_none a.rec a.log.now (state_of (replay_of l.image l.count l.ids l.held) l.buffer) l.messages l.bytes (most - l.messages) (omega arith)
    ∙ l.invariant.counts ∙ count_signed a.rec a.log.now a.position a.session_id a.buffer.now c.ranges.position c.ranges.session_id

pub returns-clause-value : goal.returns-clause-value
returns-clause-value c = ap (λ (x : Tally). x.answer) (all c)

pub returns-clause-buffer_after : goal.returns-clause-buffer_after
returns-clause-buffer_after c = ap (λ (x : Tally). x.buffer) (all c)
