-- The ladder answers, or lets the walk go to the term's end; the read's answer is told as the reply.
use Rattle.std.specs.Prelude.{Ok, Err}
use Rattle.std.proofs.Common.{◌≡◌, ℕ, ◌+◌, ◌-◌, ◌%◌, ◌≤◌, [], refl, sym, ap, ◌∙◌, ℤ, arith, rules}
use mir.Syntax.{w64}
use mir.Val.{SFits}
use mir.Facts.{to_z_pos}
use Rattle.model.specs.declared.Error.{Error}
use Rattle.model.specs.LogBufferDescriptor.{partition_of}
use Rattle.logbuffer.specs.Reads.{read_refusal}
use Rattle.logbuffer.proofs.Signed.{long-by}
use Rattle.image.specs.declared.frames.PolledTo.{PolledTo}
use Rattle.image.specs.Images.{state_of}
use Rattle.image.proofs.Places.{term-length, shift_in}
use Rattle.image.proofs.Replies.{placed}
use Rattle.image.proofs.Rungs.{answered, readable-read}
use Rattle.image.proofs.Polls.{says-refused, says-closed, says-on-refused, says-on-read, read-to}
use Rattle.image.proofs.frames.poll_term.Goals as goal

pub frames_on-came-requires : goal.frames_on-came-requires
frames_on-came-requires c =
    let a = c.args in
    let f : SFits w64 a.image.position = search rules in
    let e = long-by a.image.position c.long-p.ensures.0 f in
    let k = readable-read _ _ _ (state_of a.image) (answered c.in-Ok-Read.is c.in-Ok-Read.field-0-is c.readable.ensures) in
    let s : a.k ≡ partition_of c.long-p.result a.v.term = c.requires.1 ∙ shift_in a.v _ _ k.sound ∙ ap (λ (x : ℕ). partition_of x a.v.term) (sym e) in
    (k.sound, (ap (λ (x : ℕ). x % 32) e ∙ k.p-32, (c.requires.0 k.good, s)))

pub offset_of-requires : goal.offset_of-requires
offset_of-requires c =
    term-length _ _ (readable-read _ _ _ (state_of c.args.image) (answered c.in-Ok-Read.is c.in-Ok-Read.field-0-is c.readable.ensures)).sound

-- the read came to an end in the term
came : (c : goal.After-struct_known-1) → (c.offset_of.result ≤ c.long-p.result) × (c.long-p.result - c.offset_of.result + c.in-Ok.read.offset ≤ 4611686018427387904)
came c =
    let a = c.args in
    let f : SFits w64 a.image.position = search rules in
    read-to a.v a.log.now (state_of a.image) a.entries.now a.good a.limit (answered c.in-Ok-Read.is c.in-Ok-Read.field-0-is c.readable.ensures)
    c.long-p.result _ (long-by a.image.position c.long-p.ensures.0 f) c.offset_of.ensures c.frames_on-came.result _ c.frames_on-came.ensures.value c.frames_on-came.ensures.entries_after c.in-Ok.read c.in-Ok.is

pub overflow_add-result : goal.overflow_add-result
overflow_add-result c = record { fits = omega (arith, (came c).1) }

pub overflow_cast-result : goal.overflow_cast-result
overflow_cast-result c = record { sfits = omega (arith, (came c).1) }

pub returns-in-Err : goal.returns-in-Err
returns-in-Err c =
    let a = c.args in
    let t = says-refused a.v a.log.now (state_of a.image) a.entries.now a.good a.limit [] a.v.term c.in-Err.e (sym c.in-Err.is ∙ c.readable.ensures) in
    record { value = placed (Err c.in-Err.e) (search rules) ∙ t.0; entries_after = t.1 }

pub returns-in-Ok-Closed : goal.returns-in-Ok-Closed
returns-in-Ok-Closed c =
    let a = c.args in
    let t = says-closed a.v a.log.now (state_of a.image) a.entries.now a.good a.limit [] a.v.term (answered c.in-Ok-Closed.is c.in-Ok-Closed.field-0-is c.readable.ensures) in
    record { value = placed (Ok (record { fragments = 0; entries = 0 })) (search rules) ∙ t.0; entries_after = t.1 }

pub returns-in-Ok : goal.returns-in-Ok
returns-in-Ok c =
    let a = c.args in
    let r = c.in-Ok.read in
    let f : SFits w64 a.image.position = search rules in
    let t = says-on-read a.v a.log.now (state_of a.image) a.entries.now a.good a.limit (answered c.in-Ok-Read.is c.in-Ok-Read.field-0-is c.readable.ensures)
    c.long-p.result _ (long-by a.image.position c.long-p.ensures.0 f) c.offset_of.ensures c.frames_on-came.result _ c.frames_on-came.ensures.value c.frames_on-came.ensures.entries_after r c.in-Ok.is in
    let made : ℤ → PolledTo = λ (z : ℤ). record { position = z; answer = Ok (record { fragments = r.fragments; entries = r.fragments }) } in
    record { value = ap made (to_z_pos w64 (omega (arith, (came c).1))) ∙ t.0; entries_after = t.1 }

pub returns-in_default : goal.returns-in_default
returns-in_default c =
    let a = c.args in
    let f : SFits w64 a.image.position = search rules in
    let t = says-on-refused a.v a.log.now (state_of a.image) a.entries.now a.good a.limit (answered c.in-Ok-Read.is c.in-Ok-Read.field-0-is c.readable.ensures)
    c.long-p.result _ (long-by a.image.position c.long-p.ensures.0 f) refl c.frames_on-came.result _ c.frames_on-came.ensures.value c.frames_on-came.ensures.entries_after c.in_default.field-0 c.in_default.is in
    let made : Error → PolledTo = λ (x : Error). record { position = a.image.position; answer = Err x } in
    record { value = placed (Err c.read_refusal.result) f ∙ ap made (c.read_refusal.ensures ∙ ap read_refusal c.in_default.is) ∙ t.0; entries_after = t.1 }
