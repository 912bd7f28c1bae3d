-- Row 1; polls alone where no frame may be taken as it lies; or with the sessions lent.
use mathlib.Core.Path.{ap, ◌∙◌}
use native.Mathlib.Omega.{arith}
use borrow.Author.Rules.{rules}
use mir.Syntax.{w32}
use mir.Val.{SFits}
use Rattle.model.specs.Replay.{NextReply}
use Rattle.logbuffer.proofs.Signed.{word-by}
use Rattle.replay.specs.declared.Replay.{Replay}
use Rattle.replay.specs.Replays.{state_of}
use Rattle.replay.proofs.Turns.{next-refused, next-starts}
use Rattle.replay.proofs.Replay.next_by_turns.Statement.{statement}
use Rattle.replay.proofs.Replay.next_by_turns.Tie as tie

returns : tie.Need-returns-then-buffer-gt2147483647
returns c = let a = c.args in next-refused a.rec a.log.now (state_of a.self a.buffer.now) (omega arith)

term_fits : (s : tie.Start) → SFits w32 s.args.rec.term_length
term_fits s = search rules

returns-2 : tie.Need-returns-then-reach-eq0
returns-2 c =
    let s = c in
    let w = c.word in
    c.turns.ensures
    ∙ next-starts s.args.rec s.args.log.now (state_of s.args.self s.args.buffer.now) w.result (word-by s.args.rec.term_length w.ensures.0 (term_fits c.before.before.before.before.before.before.before.before.before.before.before.before.before.before.before.before))
    (omega (arith, c.if-buffer-gt2147483647.false))

next-lent-requires : tie.Need-next_lent-reply-requires
next-lent-requires c κs = (omega (arith, c.if-buffer-gt2147483647.false), c.reach_of-reach.ensures)

returns-3 : tie.Need-returns
returns-3 c =
    let u = c in
    ap {B = NextReply} (λ (x : Replay). record { answer = u.next_lent-reply.result.answer; next = state_of x u.next_lent-reply.new.buffer }) c.replay_of.ensures ∙ u.next_lent-reply.ensures

pub next_by_turns_spec : {M : Type 1} → statement M
next_by_turns_spec =
    tie.close
    (tie.spec
    returns
    (search rules)
    (search rules)
    (λ c. record { fits = omega (arith, c.word.ensures.1) })
    (λ c. record { fits = omega (arith, c.word.ensures.1) })
    (search rules)
    (search rules)
    returns-2
    next-lent-requires
    (search rules)
    (search rules)
    returns-3)
