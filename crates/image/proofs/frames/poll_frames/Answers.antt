-- The ladder answers, or lets the walk go; the walk's answer is told as the reply.
use Rattle.std.specs.Prelude.{Ok, Err}
use Rattle.std.proofs.Common.{◌≡◌, ℕ, ◌+◌, ◌%◌, ◌≤◌, refl, sym, ap, ◌∙◌, ℤ, arith, rules}
use mir.Syntax.{w64}
use mir.Val.{SFits}
use mir.Facts.{to_z_pos}
use Rattle.model.specs.declared.Error.{Error}
use Rattle.model.specs.declared.Reading.{Reading}
use Rattle.model.specs.Bytes.{long}
use Rattle.model.specs.Image.{end_offset}
use Rattle.logbuffer.proofs.Signed.{long-by}
use Rattle.image.specs.declared.frames.PolledTo.{PolledTo}
use Rattle.image.specs.Images.{state_of}
use Rattle.image.proofs.Places.{term-length}
use Rattle.image.proofs.Replies.{placed}
use Rattle.image.proofs.Rungs.{answered, readable-read}
use Rattle.image.proofs.Polls.{says-refused, says-closed, says-first, says-walked, walked-to}
use Rattle.image.proofs.frames.poll_frames.Goals as goal

-- the end, by the position as the definitions have it
end-is : (v : Reading) (p q bound end : ℕ) → end ≡ end_offset v p bound → p ≡ q → end ≡ end_offset v q bound
end-is v p q bound end e h = e ∙ ap (λ (x : ℕ). end_offset v x bound) h

pub end_offset-end-requires : goal.end_offset-end-requires
end_offset-end-requires c =
    term-length _ _ (readable-read _ _ _ (state_of c.args.image) (answered c.in-Ok-Read.is c.in-Ok-Read.field-0-is c.readable.ensures)).sound

pub frames_at-frames-requires : goal.frames_at-frames-requires
frames_at-frames-requires c =
    let f : SFits w64 c.args.image.position = search rules in
    let e = long-by c.args.image.position c.long-p.ensures.0 f in
    let k = readable-read _ _ _ (state_of c.args.image) (answered c.in-Ok-Read.is c.in-Ok-Read.field-0-is c.readable.ensures) in
    (k.sound, (ap (λ (x : ℕ). x % 32) e ∙ k.p-32, (omega (arith, c.end_offset-end.ensures), c.requires k.good)))

pub returns-in_default : goal.returns-in_default
returns-in_default c =
    let a = c.args in
    let f : SFits w64 a.image.position = search rules in
    let e = long-by a.image.position c.long-p.ensures.0 f in
    let t = says-first a.v a.log.now (state_of a.image) a.entries.now a.good a.limit a.actions.now (answered c.in-Ok-Read.is c.in-Ok-Read.field-0-is c.readable.ensures)
    c.end_offset-end.result _ c.long-p.result (end-is a.v c.long-p.result _ a.bound c.end_offset-end.result c.end_offset-end.ensures e) e
    c.frames_at-frames.result _ c.frames_at-frames.ensures.value c.frames_at-frames.ensures.entries_after c.in_default.field-0 c.in_default.is in
    let made : Error → PolledTo = λ (x : Error). record { position = a.image.position; answer = Err x } in
    record { value = placed (Err c.refusal.result) f ∙ ap made c.refusal.ensures ∙ t.0; entries_after = t.1 }

moved-to : (c : goal.After-struct_known-1) → c.long-p.result + c.in-Walked.walked.moved ≤ 4611686018427387904
moved-to c =
    let a = c.args in
    let f : SFits w64 a.image.position = search rules in
    walked-to a.v a.log.now (state_of a.image) a.entries.now a.good a.limit a.actions.now (answered c.in-Ok-Read.is c.in-Ok-Read.field-0-is c.readable.ensures)
    c.end_offset-end.result _ c.long-p.result refl (long-by a.image.position c.long-p.ensures.0 f)
    c.frames_at-frames.result _ c.frames_at-frames.ensures.value c.frames_at-frames.ensures.entries_after c.in-Walked.walked c.in-Walked.is

pub overflow_add-result : goal.overflow_add-result
overflow_add-result c = record { fits = omega (arith, moved-to c) }

pub overflow_cast-result : goal.overflow_cast-result
overflow_cast-result c = record { sfits = omega (arith, moved-to c) }

pub returns-in-Err : goal.returns-in-Err
returns-in-Err c =
    let a = c.args in
    let t = says-refused a.v a.log.now (state_of a.image) a.entries.now a.good a.limit a.actions.now (end_offset a.v (long a.image.position) a.bound) c.in-Err.e (sym c.in-Err.is ∙ c.readable.ensures) in
    record { value = placed (Err c.in-Err.e) (search rules) ∙ t.0; entries_after = t.1 }

pub returns-in-Ok-Closed : goal.returns-in-Ok-Closed
returns-in-Ok-Closed c =
    let a = c.args in
    let t = says-closed a.v a.log.now (state_of a.image) a.entries.now a.good a.limit a.actions.now (end_offset a.v (long a.image.position) a.bound)
    (answered c.in-Ok-Closed.is c.in-Ok-Closed.field-0-is c.readable.ensures) in
    record { value = placed (Ok (record { fragments = 0; entries = 0 })) (search rules) ∙ t.0; entries_after = t.1 }

pub returns-in-Walked : goal.returns-in-Walked
returns-in-Walked c =
    let a = c.args in
    let w = c.in-Walked.walked in
    let f : SFits w64 a.image.position = search rules in
    let e = long-by a.image.position c.long-p.ensures.0 f in
    let t = says-walked a.v a.log.now (state_of a.image) a.entries.now a.good a.limit a.actions.now (answered c.in-Ok-Read.is c.in-Ok-Read.field-0-is c.readable.ensures)
    c.end_offset-end.result _ c.long-p.result (end-is a.v c.long-p.result _ a.bound c.end_offset-end.result c.end_offset-end.ensures e) e
    c.frames_at-frames.result _ c.frames_at-frames.ensures.value c.frames_at-frames.ensures.entries_after w c.in-Walked.is in
    let made : ℤ → PolledTo = λ (z : ℤ). record { position = z; answer = Ok (record { fragments = w.fragments; entries = w.entries }) } in
    record { value = ap made (to_z_pos w64 (omega (arith, moved-to c))) ∙ t.0; entries_after = t.1 }
