-- Rows 1 and 2 go by `first_rows`; 22 and 23 look at the frame.
use Rattle.std.specs.Prelude.{Err}
use Rattle.std.proofs.Common.{◌≡◌, ℕ, ◌-◌, length, sym, ap, ◌∙◌, rules}
use Rattle.model.specs.FrameDescriptor.{unsound_length, unsound_frame}
use Rattle.model.proofs.Choice.{cond-true, cond-false}
use Rattle.logbuffer.proofs.Assembly.{verdict-refused, verdict-goes}
use Rattle.logbuffer.proofs.Passing.{rows-of}
use Rattle.logbuffer.proofs.fragment_assembler.assemble_verdict.Goals as goal

pub returns-in_err-first_rows : goal.returns-in_err-first_rows
returns-in_err-first_rows c =
    let a = c.args in
    let e : c.from_residual.result ≡ Err c.in_err-first_rows.field-0.0 = search rules in
    e
    ∙ verdict-refused a.p.read a.log.now a.lent a.p.partition a.p.offset
    (rows-of a.p.read (length a.log.now) _ _ _ _ c.good_assembly-good.ensures c.first_rows.ensures c.in_err-first_rows.was)

pub returns-then-unsound_length : goal.returns-then-unsound_length
returns-then-unsound_length c =
    let a = c.args in
    ap Err (c.unsound_frame.ensures ∙ ap (λ (w : ℕ). unsound_frame w a.p.offset) c.finished_length-length.ensures.0)
    ∙ sym
    (cond-true _ _ _ (ap (λ (w : ℕ). unsound_length w (a.p.read.term - a.p.offset)) (sym c.finished_length-length.ensures.0) ∙ sym c.unsound_length.ensures ∙ c.if-unsound_length.true))
    ∙ verdict-goes a.p.read a.log.now a.lent a.p.partition a.p.offset
    (rows-of a.p.read (length a.log.now) _ _ _ _ c.good_assembly-good.ensures c.first_rows.ensures c.in_ok-first_rows.was)

pub returns : goal.returns
returns c =
    let a = c.args in
    sym
    (cond-false _ _ _ (ap (λ (w : ℕ). unsound_length w (a.p.read.term - a.p.offset)) (sym c.finished_length-length.ensures.0) ∙ sym c.unsound_length.ensures ∙ c.if-unsound_length.false))
    ∙ verdict-goes a.p.read a.log.now a.lent a.p.partition a.p.offset
    (rows-of a.p.read (length a.log.now) _ _ _ _ c.good_assembly-good.ensures c.first_rows.ensures c.in_ok-first_rows.was)
