-- The rows are judged at the place that is read; a frame that passes them is joined.
use Rattle.std.specs.Prelude.{Ok, Err, ℕ, List, Result, ⊤}
use Rattle.std.proofs.Common.{◌≡◌, ◌+◌, ◌*◌, ◌≤◌, length, ℤ, sym, ap, ◌∙◌, arith, to_z-of_z, w32, to_z, of_z, rules}
use Rattle.model.specs.declared.Error.{Error}
use Rattle.model.specs.declared.Place.{Place}
use Rattle.model.specs.declared.LogRecord.{LogRecord}
use Rattle.model.specs.FragmentAssembler.{Sessions, assemble_of, assemble_verdict}
use Rattle.model.specs.LogBufferDescriptor.{place_of as place_read}
use Rattle.logbuffer.specs.Assembler.{sessions_of, held_at, join_of}
use Rattle.logbuffer.proofs.Sessions.{held_by, held_none}
use Rattle.logbuffer.proofs.Assembly.{three, verdict-passed, join-yes, assembles}
use Rattle.logbuffer.proofs.fragment_assembler.FragmentAssembler.on_fragment.Goals as goal

-- what a frame that passes the rows leaves
told : (r : LogRecord) (log : List ℕ) (s : Sessions) (buffer : List ℕ) (partition offset : ℤ) (p : Place) (v : Result ⊤ Error)
    → p ≡ place_read r partition offset → v ≡ assemble_verdict p.read log (length buffer) p.partition p.offset → v ≡ Ok tt
    → p.offset ≤ 4294967295 → length s.ids ≡ 16
    → join_of s buffer log (p.partition * p.read.term + p.offset) p.offset ≡ assemble_of r log s buffer partition offset
told r log s buffer partition offset p v ep ev h at ids =
    sym (join-yes s buffer log (p.partition * p.read.term + p.offset) p.offset (verdict-passed p.read log (length buffer) p.partition p.offset (sym ev ∙ h)) at ids)
    ∙ assembles r log s buffer partition offset p (Ok tt) ep (sym h ∙ ev)

pub overflow_mul-index : goal.overflow_mul-index
overflow_mul-index c =
    let p = c.place-p.result in
    let f = verdict-passed p.read c.args.log.now (length c.args.buffer.now) p.partition p.offset (sym c.assemble_verdict.ensures ∙ c.in-Ok.is) in
    record { fits = omega (arith, f.whole, c.well_formed) }

pub overflow_add-index : goal.overflow_add-index
overflow_add-index c =
    let p = c.place-p.result in
    let f = verdict-passed p.read c.args.log.now (length c.args.buffer.now) p.partition p.offset (sym c.assemble_verdict.ensures ∙ c.in-Ok.is) in
    record { fits = omega (arith, f.whole, c.well_formed) }

pub returns-in-Err-clause-answer_value : goal.returns-in-Err-clause-answer_value
returns-in-Err-clause-answer_value c =
    let a = c.args in
    let p = c.place-p.result in
    (three _ _ (assembles a.rec a.log.now (sessions_of a.self) a.buffer.now a.partition a.offset p (Err c.in-Err.e) (c.place-p.ensures.0 ∙ search rules) (sym c.in-Err.is ∙ c.assemble_verdict.ensures))).0

pub returns-in-Err-clause-buffer_after : goal.returns-in-Err-clause-buffer_after
returns-in-Err-clause-buffer_after c =
    let a = c.args in
    let p = c.place-p.result in
    (three _ _ (assembles a.rec a.log.now (sessions_of a.self) a.buffer.now a.partition a.offset p (Err c.in-Err.e) (c.place-p.ensures.0 ∙ search rules) (sym c.in-Err.is ∙ c.assemble_verdict.ensures))).1

pub returns-then-k-lt16-clause-answer_value : goal.returns-then-k-lt16-clause-answer_value
returns-then-k-lt16-clause-answer_value c =
    let a = c.args in
    let p = c.place-p.result in
    let s = sessions_of a.self in
    let j = c.join-joined.result in
    let t = told a.rec a.log.now s a.buffer.now a.partition a.offset p c.assemble_verdict.result (c.place-p.ensures.0 ∙ search rules) c.assemble_verdict.ensures c.in-Ok.is
    (omega (arith, c.place-p.ensures.1.1)) c.well_formed.0.1.1.1.0.1.0.1 in
    let u = three _ _ t in
    let i : to_z w32 (of_z w32 j.session) ≡ j.session = to_z-of_z {w = w32} {z = j.session} (search rules) in
    let e = held_by s j.place (to_z w32 (of_z w32 j.session)) j.held c.entered_with.result (omega arith) c.entered_with.ensures in
    (c.join-joined.ensures.enters.answers ∙ u.0.0, e ∙ ap (λ (z : ℤ). held_at s j.place z j.held) i ∙ c.join-joined.ensures.enters.leaves ∙ u.0.1)

pub returns-then-k-lt16-clause-buffer_after : goal.returns-then-k-lt16-clause-buffer_after
returns-then-k-lt16-clause-buffer_after c =
    let a = c.args in
    let p = c.place-p.result in
    let s = sessions_of a.self in
    let t = told a.rec a.log.now s a.buffer.now a.partition a.offset p c.assemble_verdict.result (c.place-p.ensures.0 ∙ search rules) c.assemble_verdict.ensures c.in-Ok.is
    (omega (arith, c.place-p.ensures.1.1)) c.well_formed.0.1.1.1.0.1.0.1 in
    let u = three _ _ t in
    c.join-joined.ensures.buffer_after ∙ u.1

pub returns-else-k-lt16-clause-answer_value : goal.returns-else-k-lt16-clause-answer_value
returns-else-k-lt16-clause-answer_value c =
    let a = c.args in
    let p = c.place-p.result in
    let s = sessions_of a.self in
    let j = c.join-joined.result in
    let t = told a.rec a.log.now s a.buffer.now a.partition a.offset p c.assemble_verdict.result (c.place-p.ensures.0 ∙ search rules) c.assemble_verdict.ensures c.in-Ok.is
    (omega (arith, c.place-p.ensures.1.1)) c.well_formed.0.1.1.1.0.1.0.1 in
    let u = three _ _ t in
    (c.join-joined.ensures.enters.answers ∙ u.0.0, held_none s j.place j.session j.held (omega arith) ∙ c.join-joined.ensures.enters.leaves ∙ u.0.1)

pub returns-else-k-lt16-clause-buffer_after : goal.returns-else-k-lt16-clause-buffer_after
returns-else-k-lt16-clause-buffer_after c =
    let a = c.args in
    let p = c.place-p.result in
    let s = sessions_of a.self in
    let t = told a.rec a.log.now s a.buffer.now a.partition a.offset p c.assemble_verdict.result (c.place-p.ensures.0 ∙ search rules) c.assemble_verdict.ensures c.in-Ok.is
    (omega (arith, c.place-p.ensures.1.1)) c.well_formed.0.1.1.1.0.1.0.1 in
    let u = three _ _ t in
    c.join-joined.ensures.buffer_after ∙ u.1
