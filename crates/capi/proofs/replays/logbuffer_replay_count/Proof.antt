-- The call's promise, carried into the reply; signed arguments that were handed on are those given.
use borrow.Author.Rules.{rules}
use Rattle.capi.proofs.replays.logbuffer_replay_count.Statement.{statement}
use Rattle.capi.proofs.replays.logbuffer_replay_count.Tie as tie

returns : tie.Need-returns
returns c =
    let f = c.count.ensures in rw (c.counted.ensures, f.0, f.1, c.record_in.ensures) (search rules)

pub logbuffer_replay_count_spec : {M : Type 1} → statement M
logbuffer_replay_count_spec =
    tie.close (tie.spec (search rules) (search rules) (search rules) (search rules) returns)
