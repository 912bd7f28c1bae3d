-- Rows 1, 25 and 2, and then the record.
use Rattle.std.proofs.Common.{ℕ, List, leb, length, refl, sym, ap, ◌∙◌, rules, le-leb}
use borrow.Author.Tests.{ne_eqb, lt-leb}
use Rattle.model.specs.LogBufferDescriptor.{reading, sound_record}
use Rattle.metadata.specs.Metadata.{accepted, record_from}
use Rattle.metadata.specs.Calls.{read_of}
use Rattle.metadata.proofs.Answers.{row-1, row-25, row-2, no_row, read-by}
use Rattle.metadata.proofs.read_metadata.Goals as goal

pub returns-then-bytes-gt2147483647 : goal.returns-then-bytes-gt2147483647
returns-then-bytes-gt2147483647 c =
    let a = c.args in
    let s = a.bytes.now in
    let n = length s in
    let x = record_from s a.beside in
    c.refused.ensures
    ∙ read-by s a.beside x (reading x) refl refl (row-1 (leb n 2147483647) (accepted s) (sound_record (reading x)) (lt-leb n 2147483647 c.if-bytes-gt2147483647.true))

pub returns-in_default : goal.returns-in_default
unfolding accepted
returns-in_default c =
    let a = c.args in
    let s = a.bytes.now in
    let n = length s in
    let x = record_from s a.beside in
    c.refused-in_default.ensures
    ∙ read-by s a.beside x (reading x) refl refl
    (row-25 (leb n 2147483647) (accepted s) (sound_record (reading x)) (le-leb n 2147483647 c.if-bytes-gt2147483647.false) (rw (ne_eqb n 320 (search rules))))

pub returns-then-not-accepts : goal.returns-then-not-accepts
returns-then-not-accepts c =
    let a = c.args in
    let s = c.in-Some.section.now in
    let n = length s in
    let x = record_from s a.beside in
    c.refused-then-not-accepts.ensures
    ∙ read-by s a.beside x (reading x) refl refl
    (row-25 (leb n 2147483647) (accepted s) (sound_record (reading x)) (le-leb n 2147483647 (search rules)) (sym c.accepts.ensures ∙ c.if-not-accepts.true))
    ∙ ap (λ (x : List ℕ). read_of x a.beside) (search rules)

pub returns-then-not-is_sound_record : goal.returns-then-not-is_sound_record
returns-then-not-is_sound_record c =
    let a = c.args in
    let s = c.in-Some.section.now in
    let n = length s in
    let v = c.read_active-v.result in
    c.refused-then-not-is_sound_record.ensures
    ∙ read-by s a.beside c.record_from-rec.result v c.record_from-rec.ensures c.read_active-v.ensures
    (row-2 (leb n 2147483647) (accepted s) (sound_record v) (le-leb n 2147483647 (search rules)) (sym c.accepts.ensures ∙ c.if-not-accepts.false) (sym c.is_sound_record.ensures ∙ c.if-not-is_sound_record.true))
    ∙ ap (λ (x : List ℕ). read_of x a.beside) (search rules)

pub returns : goal.returns
returns c =
    let a = c.args in
    let s = c.in-Some.section.now in
    let n = length s in
    let v = c.read_active-v.result in
    read-by s a.beside c.record_from-rec.result v c.record_from-rec.ensures c.read_active-v.ensures
    (no_row (leb n 2147483647) (accepted s) (sound_record v) (le-leb n 2147483647 (search rules)) (sym c.accepts.ensures ∙ c.if-not-accepts.false) (sym c.is_sound_record.ensures ∙ c.if-not-is_sound_record.false))
    ∙ ap (λ (x : List ℕ). read_of x a.beside) (search rules)
