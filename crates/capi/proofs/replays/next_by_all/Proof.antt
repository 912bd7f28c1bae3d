-- The call's promise, carried into the reply and the words; signed arguments that were handed on are those given.
use mathlib.Core.Path.{ap, ◌∙◌}
use Rattle.model.specs.declared.LogRecord.{LogRecord}
use Rattle.model.specs.Replay.{NextReply, next_of}
use Rattle.replay.specs.declared.Replay.{Replay}
use Rattle.replay.specs.Replays.{state_of}
use Rattle.capi.specs.Words.{replay_out}
use Rattle.capi.specs.Replies.{next_reply}
use Rattle.capi.proofs.Promised.{of-2}
use borrow.Author.Rules.{rules}
use Rattle.capi.proofs.replays.next_by_all.Statement.{statement}
use Rattle.capi.proofs.replays.next_by_all.Tie as tie

returns : tie.Need-returns
returns c =
    let s = c in
    let a = s.args in
    let f = c.next_by_turns-o.ensures in
    let q0 = of-2 (λ (r : LogRecord) (p : Replay). next_of r a.log.now (state_of p a.buffer.now)) (f) c.record_in.ensures c.replay_in-one.ensures in
    (c.replayed.ensures ∙ ap (λ (n : NextReply). next_reply n.answer) q0, (c.replay_out.ensures ∙ ap (λ (n : NextReply). replay_out a.replay.now n.next) q0, ap (λ (n : NextReply). n.next.buffer) q0))

pub next_by_all_spec : {M : Type 1} → statement M
next_by_all_spec =
    tie.close (tie.spec (search rules) (search rules) (search rules) (search rules) (search rules) (search rules) returns)
