-- Row 1 is judged, of the numbers and of the handler's answers, and the walk answers the rest.
use Rattle.std.proofs.Common.{◌≡◌, Bool, true, ◌&&◌, length, sym, ap, ◌∙◌, ap₂, arith, rules}
use borrow.Author.Tests.{not-true, not-false}
use Rattle.model.specs.TermReader.{good_walk, good_handler}
use Rattle.model.proofs.ReaderLaws.{good-walk-true, frames-refused, frames-by}
use Rattle.logbuffer.proofs.term_reader.read_frames.Statement.{statement}
use Rattle.logbuffer.proofs.term_reader.read_frames.Tie as tie

walks : (c : tie.After-good_handler) → let a = c.args in good_walk (length a.log.now) a.base a.term a.end a.at a.fragment_limit (length a.entries.now) ≡ true
walks c = sym c.good_walk.ensures ∙ not-false _ c.if-not-good_walk.false-raw

returns : tie.Need-returns-then-not-good_walk
returns c =
    let a = c.args in
    frames-refused a.log.now a.base a.term a.end a.at a.fragment_limit a.actions.now a.entries.now
    (ap (λ (b : Bool). b && good_handler a.actions.now a.fragment_limit) (sym c.good_walk.ensures ∙ not-true _ c.if-not-good_walk.true-raw))

returns-2 : tie.Need-returns-then-not-good_handler
returns-2 c =
    let a = c.args in
    frames-refused a.log.now a.base a.term a.end a.at a.fragment_limit a.actions.now a.entries.now
    (ap₂ ◌&&◌ (walks c.before) (sym c.good_handler.ensures ∙ not-true _ c.if-not-good_handler.true-raw))

walk-frames-requires : tie.Need-walk_frames-requires
walk-frames-requires c κs =
    let a = c.args in
    let g = good-walk-true (length a.log.now) a.base a.term a.end a.at a.fragment_limit (length a.entries.now) (walks c.before.before) in
    (g.inside, (g.term-high, (g.end-in, omega (arith, g.room))))

returns-3 : tie.Need-returns
returns-3 c =
    let a = c.args in
    let k = frames-by a.log.now a.base a.term a.end a.at a.fragment_limit a.actions.now a.entries.now (walks c.before.before.before.before)
    (sym c.good_handler.ensures ∙ not-false _ c.if-not-good_handler.false-raw) in
    (c.walk_frames.ensures.0 ∙ k.0, c.walk_frames.ensures.1 ∙ k.1)

pub read_frames_spec : {M : Type 1} → statement M
read_frames_spec =
    tie.close (tie.spec (search rules) returns (search rules) returns-2 walk-frames-requires (search rules) returns-3)
