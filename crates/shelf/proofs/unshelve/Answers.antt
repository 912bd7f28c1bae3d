-- Rows 1 and 2, and then the shelf is judged and taken down.
use Rattle.std.proofs.Common.{Bool, cond, length, sym, ap, ◌∙◌}
use Rattle.model.specs.LogBufferDescriptor.{sound_record}
use Rattle.shelf.specs.Shelf.{accepted, term_of}
use Rattle.shelf.specs.Calls.{good_unshelve}
use Rattle.shelf.proofs.Calls.{term-size, row-1, row-2, row-26, no_row, unshelve-by}
use Rattle.shelf.proofs.unshelve.Goals as goal

pub returns-then-not-good_unshelve : goal.returns-then-not-good_unshelve
returns-then-not-good_unshelve c =
    let s = c.args in
    let v = c.read_active-v.result in
    let u = unshelve-by s.rec s.shelf.now s.out.now v c.read_active-v.ensures
    (row-1 (good_unshelve v (length s.shelf.now) (length s.out.now)) (sound_record v) (accepted (length s.out.now) s.shelf.now) (sym c.good_unshelve.ensures ∙ c.if-not-good_unshelve.true)) in
    record { value = u.0; out_after = u.1 }

pub returns-then-not-is_sound_record : goal.returns-then-not-is_sound_record
returns-then-not-is_sound_record c =
    let s = c.args in
    let v = c.read_active-v.result in
    let g = sym c.good_unshelve.ensures ∙ c.if-not-good_unshelve.false in
    let u = unshelve-by s.rec s.shelf.now s.out.now v c.read_active-v.ensures
    (row-2 (good_unshelve v (length s.shelf.now) (length s.out.now)) (sound_record v) (accepted (length s.out.now) s.shelf.now) g (sym c.is_sound_record.ensures ∙ c.if-not-is_sound_record.true)) in
    record { value = u.0; out_after = u.1 }

pub unshelve_term-requires : goal.unshelve_term-requires
unshelve_term-requires c =
    let s = c.args in
    let v = c.read_active-v.result in
    let g = sym c.good_unshelve.ensures ∙ c.if-not-good_unshelve.false in
    let w = sym c.is_sound_record.ensures ∙ c.if-not-is_sound_record.false in
    term-size v (length s.shelf.now) (length s.out.now) g w

pub returns-then-not-unshelve_term : goal.returns-then-not-unshelve_term
returns-then-not-unshelve_term c =
    let s = c.args in
    let v = c.read_active-v.result in
    let g = sym c.good_unshelve.ensures ∙ c.if-not-good_unshelve.false in
    let w = sym c.is_sound_record.ensures ∙ c.if-not-is_sound_record.false in
    let f = sym c.unshelve_term.ensures.value ∙ c.if-not-unshelve_term.true in
    let u = unshelve-by s.rec s.shelf.now s.out.now v c.read_active-v.ensures
    (row-26 (good_unshelve v (length s.shelf.now) (length s.out.now)) (sound_record v) (accepted (length s.out.now) s.shelf.now) g w f) in
    record { value = u.0; out_after = c.unshelve_term.ensures.out_after ∙ ap (λ (b : Bool). cond b (term_of (length s.out.now) s.shelf.now) s.out.now) f ∙ u.1 }

pub returns : goal.returns
returns c =
    let s = c.args in
    let v = c.read_active-v.result in
    let g = sym c.good_unshelve.ensures ∙ c.if-not-good_unshelve.false in
    let w = sym c.is_sound_record.ensures ∙ c.if-not-is_sound_record.false in
    let f = sym c.unshelve_term.ensures.value ∙ c.if-not-unshelve_term.false in
    let u = unshelve-by s.rec s.shelf.now s.out.now v c.read_active-v.ensures
    (no_row (good_unshelve v (length s.shelf.now) (length s.out.now)) (sound_record v) (accepted (length s.out.now) s.shelf.now) g w f) in
    record { value = u.0; out_after = c.unshelve_term.ensures.out_after ∙ ap (λ (b : Bool). cond b (term_of (length s.out.now) s.shelf.now) s.out.now) f ∙ u.1 }
