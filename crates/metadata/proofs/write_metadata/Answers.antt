-- Rows 1, 25 and 2, and then the section is put.
use Rattle.std.proofs.Common.{◌≡◌, eqb, leb, length, refl, sym, ◌∙◌, eq-eqb, le-leb, rules}
use borrow.Author.Tests.{ne_eqb, lt-leb}
use Rattle.model.specs.LogBufferDescriptor.{reading, sound_record}
use Rattle.metadata.proofs.Answers.{row-1, row-25, row-2, no_row, write-by}
use Rattle.metadata.proofs.write_metadata.Goals as goal

pub returns-then-output-gt2147483647 : goal.returns-then-output-gt2147483647
returns-then-output-gt2147483647 c =
    let a = c.args in
    let n = length a.output.now in
    let u = write-by a.rec a.output.now (reading a.rec) refl
    (row-1 (leb n 2147483647) (eqb n 320) (sound_record (reading a.rec)) (lt-leb n 2147483647 c.if-output-gt2147483647.true)) in
    record { value = u.0; output_after = u.1 }

pub returns-in_default : goal.returns-in_default
returns-in_default c =
    let a = c.args in
    let n = length a.output.now in
    let u = write-by a.rec a.output.now (reading a.rec) refl
    (row-25 (leb n 2147483647) (eqb n 320) (sound_record (reading a.rec)) (le-leb n 2147483647 c.if-output-gt2147483647.false) (ne_eqb n 320 (search rules))) in
    record { value = u.0; output_after = u.1 }

pub returns-then-not-is_sound_record : goal.returns-then-not-is_sound_record
returns-then-not-is_sound_record c =
    let a = c.args in
    let n = length a.output.now in
    let e : c.in-Some.section.now ≡ a.output.now = search rules in
    let u = write-by a.rec a.output.now c.read_active-v.result c.read_active-v.ensures
    (row-2 (leb n 2147483647) (eqb n 320) (sound_record c.read_active-v.result) (le-leb n 2147483647 c.if-output-gt2147483647.false) (eq-eqb n 320 (search rules)) (sym c.is_sound_record.ensures ∙ c.if-not-is_sound_record.true)) in
    record { value = u.0; output_after = e ∙ u.1 }

pub returns : goal.returns
returns c =
    let a = c.args in
    let n = length a.output.now in
    let u = write-by a.rec a.output.now c.read_active-v.result c.read_active-v.ensures
    (no_row (leb n 2147483647) (eqb n 320) (sound_record c.read_active-v.result) (le-leb n 2147483647 c.if-output-gt2147483647.false) (eq-eqb n 320 (search rules)) (sym c.is_sound_record.ensures ∙ c.if-not-is_sound_record.false)) in
    record { value = u.0; output_after = c.put.ensures ∙ u.1 }
