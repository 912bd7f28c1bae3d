-- Rows 1 and 2, and then the lent part of the log is laid on the shelf.
use Rattle.std.proofs.Common.{ℕ, ◌+◌, Bool, cond, List, length, sym, ap, ◌∙◌, arith}
use Rattle.model.specs.LogBufferDescriptor.{sound}
use Rattle.logbuffer.proofs.Signed.{word-by}
use Rattle.shelf.specs.Shelf.{filled, shelf_of}
use Rattle.shelf.specs.Calls.{good_shelve, term_in}
use Rattle.shelf.proofs.Calls.{lent_by, row-1, row-2, row-26, no_row, shelve-by, part-is, part_length}
use Rattle.shelf.proofs.shelve.Goals as goal

pub returns-then-not-good_shelve : goal.returns-then-not-good_shelve
returns-then-not-good_shelve c =
    let s = c.args in
    let v = c.read_active-v.result in
    let p = c.word-p.result in
    let u = shelve-by s.rec s.log.now s.partition s.out.now v p c.read_active-v.ensures (word-by s.partition c.word-p.ensures.0 c.ranges.partition)
    (row-1 (good_shelve v p (length s.out.now)) (sound v (length s.log.now)) (filled (term_in s.log.now p v.term)) (sym c.good_shelve.ensures ∙ c.if-not-good_shelve.true)) in
    record { value = u.0; out_after = u.1 }

pub returns-then-not-is_sound : goal.returns-then-not-is_sound
returns-then-not-is_sound c =
    let s = c.args in
    let v = c.read_active-v.result in
    let p = c.word-p.result in
    let g = sym c.good_shelve.ensures ∙ c.if-not-good_shelve.false in
    let u = shelve-by s.rec s.log.now s.partition s.out.now v p c.read_active-v.ensures (word-by s.partition c.word-p.ensures.0 c.ranges.partition)
    (row-2 (good_shelve v p (length s.out.now)) (sound v (length s.log.now)) (filled (term_in s.log.now p v.term)) g (sym c.is_sound.ensures ∙ c.if-not-is_sound.true)) in
    record { value = u.0; out_after = u.1 }

pub slice_bounds-shelve_term-end : goal.slice_bounds-shelve_term-end
slice_bounds-shelve_term-end c =
    let s = c.args in
    let v = c.read_active-v.result in
    let p = c.word-p.result in
    let g = sym c.good_shelve.ensures ∙ c.if-not-good_shelve.false in
    let w = sym c.is_sound.ensures ∙ c.if-not-is_sound.false in
    (lent_by v p (length s.log.now) (length s.out.now) g w).inside

pub shelve_term-requires : goal.shelve_term-requires
shelve_term-requires c =
    let s = c.args in
    let v = c.read_active-v.result in
    let p = c.word-p.result in
    let g = sym c.good_shelve.ensures ∙ c.if-not-good_shelve.false in
    let w = sym c.is_sound.ensures ∙ c.if-not-is_sound.false in
    let l = lent_by v p (length s.log.now) (length s.out.now) g w in
    let n = part_length s.log.now p v.term l.inside in
    (omega (arith, n, l.high), l.size ∙ ap (λ (x : ℕ). x + 4) (sym n))

pub returns-then-not-shelve_term : goal.returns-then-not-shelve_term
returns-then-not-shelve_term c =
    let s = c.args in
    let v = c.read_active-v.result in
    let p = c.word-p.result in
    let g = sym c.good_shelve.ensures ∙ c.if-not-good_shelve.false in
    let w = sym c.is_sound.ensures ∙ c.if-not-is_sound.false in
    let i = part-is s.log.now p v.term in
    let f = sym (c.shelve_term.ensures.value ∙ ap filled i) ∙ c.if-not-shelve_term.true in
    let u = shelve-by s.rec s.log.now s.partition s.out.now v p c.read_active-v.ensures (word-by s.partition c.word-p.ensures.0 c.ranges.partition)
    (row-26 (good_shelve v p (length s.out.now)) (sound v (length s.log.now)) (filled (term_in s.log.now p v.term)) g w f) in
    let o = c.shelve_term.ensures.out_after ∙ ap (λ (x : List ℕ). cond (filled x) (shelf_of x) s.out.now) i in
    record { value = u.0; out_after = o ∙ ap (λ (b : Bool). cond b (shelf_of (term_in s.log.now p v.term)) s.out.now) f ∙ u.1 }

pub returns : goal.returns
returns c =
    let s = c.args in
    let v = c.read_active-v.result in
    let p = c.word-p.result in
    let g = sym c.good_shelve.ensures ∙ c.if-not-good_shelve.false in
    let w = sym c.is_sound.ensures ∙ c.if-not-is_sound.false in
    let i = part-is s.log.now p v.term in
    let f = sym (c.shelve_term.ensures.value ∙ ap filled i) ∙ c.if-not-shelve_term.false in
    let u = shelve-by s.rec s.log.now s.partition s.out.now v p c.read_active-v.ensures (word-by s.partition c.word-p.ensures.0 c.ranges.partition)
    (no_row (good_shelve v p (length s.out.now)) (sound v (length s.log.now)) (filled (term_in s.log.now p v.term)) g w f) in
    let o = c.shelve_term.ensures.out_after ∙ ap (λ (x : List ℕ). cond (filled x) (shelf_of x) s.out.now) i in
    record { value = u.0; out_after = o ∙ ap (λ (b : Bool). cond b (shelf_of (term_in s.log.now p v.term)) s.out.now) f ∙ u.1 }
