-- The call's promise, carried into the reply, the words and the numbers.
use mathlib.Core.Path.{ap, ◌∙◌}
use Rattle.model.specs.declared.LogRecord.{LogRecord}
use Rattle.replay.specs.declared.Replay.{Replay}
use Rattle.replay.specs.Replays.{state_of}
use Rattle.replay.specs.Batches.{Batch, batch_of}
use Rattle.capi.specs.Words.{replay_out}
use Rattle.capi.specs.Replies.{batch_reply}
use Rattle.capi.proofs.Promised.{of-2}
use borrow.Author.Rules.{rules}
use Rattle.capi.proofs.replays.logbuffer_replay_next_batch.Statement.{statement}
use Rattle.capi.proofs.replays.logbuffer_replay_next_batch.Tie as tie

returns : tie.Need-returns
returns c =
    let s = c in
    let a = s.args in
    let q = of-2 (λ (r : LogRecord) (p : Replay). batch_of r a.log.now (state_of p a.buffer.now) a.numbers.now) c.next_batch-o.ensures c.record_in.ensures c.replay_in-one.ensures in
    (c.batched.ensures ∙ ap (λ (b : Batch). batch_reply b.answer) q, (c.replay_out.ensures ∙ ap (λ (b : Batch). replay_out a.replay.now b.next) q, (ap (λ (b : Batch). b.next.buffer) q, ap (λ (b : Batch). b.numbers) q)))

pub logbuffer_replay_next_batch_spec : {M : Type 1} → statement M
logbuffer_replay_next_batch_spec =
    tie.close (tie.spec (search rules) (search rules) (search rules) (search rules) (search rules) (search rules) (search rules) returns)
