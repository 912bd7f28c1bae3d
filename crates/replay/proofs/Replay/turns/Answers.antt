-- One turn more, or the last of them.
use Rattle.std.proofs.Common.{◌≡◌, ◌+◌, ◌-◌, ap, ◌∙◌, ℕ, arith}
use Rattle.model.specs.Replay.{next_from}
use Rattle.replay.specs.Replays.{state_of, turned}
use Rattle.replay.proofs.Turns.{next-none, next-stops, next-goes}
use Rattle.replay.proofs.Replay.turns.Goals as goal

pub returns-in-Some : goal.returns-in-Some
returns-in-Some c =
    let a = c.args in
    next-stops a.rec a.log.now (state_of c.loop.replay c.loop.buffer) (turned c.turn-t.result c.turn-t.new.buffer) c.turn-t.ensures (a.most - c.loop.counter) (omega arith) c.in-Some.answer c.in-Some.is
    ∙ c.loop.invariant

pub loop-preserved : goal.loop-preserved
loop-preserved c =
    let a = c.args in
    let one : a.most - (c.loop.counter + 1) ≡ a.most - c.loop.counter - 1 = omega arith in
    ap (λ (n : ℕ). next_from n a.rec a.log.now (state_of c.turn-t.result.next c.turn-t.new.buffer)) one
    ∙ next-goes a.rec a.log.now (state_of c.loop.replay c.loop.buffer) (turned c.turn-t.result c.turn-t.new.buffer) c.turn-t.ensures (a.most - c.loop.counter) (omega arith) c.in_default.is
    ∙ c.loop.invariant

pub returns : goal.returns
returns c =
    let a = c.args in
    next-none a.rec a.log.now (state_of c.loop.replay c.loop.buffer) (a.most - c.loop.counter) (omega arith) ∙ c.loop.invariant
