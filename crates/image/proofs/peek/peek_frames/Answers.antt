-- The ladder answers, or lets the walk go; the walk's answer is opened.
use Rattle.std.specs.Prelude.{Result, Ok, Err}
use Rattle.std.proofs.Common.{◌≡◌, ℕ, ◌+◌, ◌*◌, ◌/◌, ◌%◌, ◌≤◌, Bool, length, ℤ, pos, refl, sym, ap, ap₂, ◌∙◌, arith, rules}
use mir.Syntax.{w64}
use mir.Facts.{to_z-of_z, to_z_pos}
use Rattle.model.specs.declared.Error.{Error}
use Rattle.model.specs.declared.Walk.{Walk}
use Rattle.model.specs.declared.Peeked.{Peeked}
use Rattle.model.specs.declared.ReadVerdict.{ReadVerdict}
use Rattle.model.specs.declared.ReadVerdict.TheVariants.{Read, Closed}
use Rattle.model.specs.TermReader.{natural, good_entries}
use Rattle.model.specs.Image.{refuse_if, walk_at, unsound_frame_of, peeked_by, slots_by}
use Rattle.model.proofs.Both.{and-true}
use Rattle.model.proofs.ReaderLaws.{handled}
use Rattle.model.proofs.ReadLaws.{walk-settled}
use Rattle.model.proofs.Sound.{sound-true}
use Rattle.logbuffer.proofs.Signed.{long-by}
use Rattle.image.specs.Images.{state_of}
use Rattle.image.proofs.Places.{term-length}
use Rattle.image.proofs.Rungs.{answered}
use Rattle.image.proofs.Polls.{frames-unsound, frames-walked}
use Rattle.image.proofs.Peeks.{reach-readable, reach-new, as-peek}
use Rattle.image.proofs.peek.peek_frames.Goals as goal

pub returns-in_err-reach : goal.returns-in_err-reach
returns-in_err-reach c =
    let a = c.args in
    let e : c.from_residual.result ≡ Err c.in_err-reach.field-0.0 = search rules in
    let k = as-peek a.rec a.log.now (state_of a.image) a.entries.now a.actions.now a.start a.limit_position _ _ _ _ _ c.read_active-v.ensures (long-by a.start c.long-p.ensures.0 c.ranges.start) refl refl c.good_control-good.ensures
    (Err c.in_err-reach.field-0.0) (sym c.in_err-reach.was ∙ c.reach.ensures) in
    record { value = e ∙ k.0; entries_after = k.1 }

pub end_offset-end-requires : goal.end_offset-end-requires
end_offset-end-requires c =
    term-length _ _ (reach-readable c.good_control-good.result c.read_active-v.result _ (state_of c.args.image) c.long-p.result (Ok Read) (answered c.in_ok-reach.was c.in-Read.is c.reach.ensures) refl).sound

pub frames_at-read-requires : goal.frames_at-read-requires
frames_at-read-requires c =
    let a = c.args in
    let r = answered c.in_ok-reach.was c.in-Read.is c.reach.ensures in
    let k = reach-readable c.good_control-good.result c.read_active-v.result (length a.log.now) (state_of a.image) c.long-p.result (Ok Read) r refl in
    let n = reach-new c.good_control-good.result c.read_active-v.result (length a.log.now) (state_of a.image) c.long-p.result (Ok Read) r refl in
    let g = and-true (good_entries (length a.entries.now) (length a.actions.now)) _ (sym c.good_control-good.ensures ∙ k.good) in
    (k.sound, (n.1, (omega (arith, c.end_offset-end.ensures), (g.0, handled _ _ g.1))))

pub returns-in_default : goal.returns-in_default
returns-in_default c =
    let a = c.args in
    let v = c.read_active-v.result in
    let p = c.long-p.result in
    let e = c.end_offset-end.result in
    let u = frames-unsound v a.log.now a.entries.now e (length a.actions.now) a.actions.now p _ refl c.frames_at-read.result _ c.frames_at-read.ensures.value c.frames_at-read.ensures.entries_after c.in_default.field-0 c.in_default.is in
    let k = as-peek a.rec a.log.now (state_of a.image) a.entries.now a.actions.now a.start a.limit_position v p c.natural_position.result e c.good_control-good.result c.read_active-v.ensures
    (long-by a.start c.long-p.ensures.0 c.ranges.start) (c.natural_position.ensures ∙ ap natural (to_z-of_z c.ranges.limit_position)) c.end_offset-end.ensures c.good_control-good.ensures
    (Ok Read) (answered c.in_ok-reach.was c.in-Read.is c.reach.ensures) in
    let w = walk_at v a.log.now p e (length a.actions.now) a.actions.now in
    let refused : Bool → (Result ReadVerdict Error) = λ (b : Bool). refuse_if b (unsound_frame_of v a.log.now p) (Ok Read) in
    record {
      value = ap Err (c.refusal.ensures ∙ u.1.1) ∙ ap (λ (b : Bool). peeked_by a.start w (refused b)) (sym u.0) ∙ k.0;
      entries_after = u.1.0 ∙ ap (λ (b : Bool). slots_by a.entries.now w (refused b)) (sym u.0) ∙ k.1;
    }

-- the walk stays in its term
settled-in : (c : goal.After-struct_known-1) → c.long-p.result + c.in-Walked.walked.settled ≤ 4611686018427387904
settled-in c =
    let a = c.args in
    let v = c.read_active-v.result in
    let p = c.long-p.result in
    let e = c.end_offset-end.result in
    let r = answered c.in_ok-reach.was c.in-Read.is c.reach.ensures in
    let k = reach-readable c.good_control-good.result v (length a.log.now) (state_of a.image) p (Ok Read) r refl in
    let n = reach-new c.good_control-good.result v (length a.log.now) (state_of a.image) p (Ok Read) r refl in
    let u = frames-walked v a.log.now a.entries.now e (length a.actions.now) a.actions.now p _ refl c.frames_at-read.result _ c.frames_at-read.ensures.value c.frames_at-read.ensures.entries_after c.in-Walked.walked c.in-Walked.is in
    let s = walk-settled v.term a.log.now (p / v.term % 3 * v.term) v.term e (p % v.term) (length a.actions.now) a.actions.now in
    omega (arith, s, ap (λ (x : Walk). x.settled) u.1.0, n.0, (sound-true _ _ k.sound).term-high)

pub overflow_add-result : goal.overflow_add-result
overflow_add-result c = record { fits = omega (arith, settled-in c) }

pub overflow_cast-result : goal.overflow_cast-result
overflow_cast-result c = record { sfits = omega (arith, settled-in c) }

pub returns-in-Closed : goal.returns-in-Closed
returns-in-Closed c =
    let a = c.args in
    let k = as-peek a.rec a.log.now (state_of a.image) a.entries.now a.actions.now a.start a.limit_position _ _ _ _ _ c.read_active-v.ensures (long-by a.start c.long-p.ensures.0 c.ranges.start) refl refl c.good_control-good.ensures
    (Ok Closed) (answered c.in_ok-reach.was c.in-Closed.is c.reach.ensures) in
    let told : ℤ → (Result Peeked Error) = λ (z : ℤ). Ok (record { position = z; entries = 0 }) in
    record { value = ap told (to_z-of_z c.ranges.start) ∙ k.0; entries_after = k.1 }

pub returns-in-Walked : goal.returns-in-Walked
returns-in-Walked c =
    let a = c.args in
    let v = c.read_active-v.result in
    let p = c.long-p.result in
    let e = c.end_offset-end.result in
    let y = c.in-Walked.walked in
    let ep = long-by a.start c.long-p.ensures.0 c.ranges.start in
    let u = frames-walked v a.log.now a.entries.now e (length a.actions.now) a.actions.now p _ refl c.frames_at-read.result _ c.frames_at-read.ensures.value c.frames_at-read.ensures.entries_after y c.in-Walked.is in
    let k = as-peek a.rec a.log.now (state_of a.image) a.entries.now a.actions.now a.start a.limit_position v p c.natural_position.result e c.good_control-good.result c.read_active-v.ensures
    ep (c.natural_position.ensures ∙ ap natural (to_z-of_z c.ranges.limit_position)) c.end_offset-end.ensures c.good_control-good.ensures
    (Ok Read) (answered c.in_ok-reach.was c.in-Read.is c.reach.ensures) in
    let w = walk_at v a.log.now p e (length a.actions.now) a.actions.now in
    let made : ℤ → (Result Peeked Error) = λ (z : ℤ). Ok (record { position = z; entries = y.entries }) in
    let told : ℕ → Walk → (Result Peeked Error) = λ (q : ℕ) (x : Walk). Ok (record { position = pos (q + x.settled); entries = x.entries }) in
    record {
      value =
          ap made (to_z_pos w64 (omega (arith, settled-in c))) ∙ ap₂ told ep (sym u.1.0)
          ∙ ap (λ (b : Bool). peeked_by a.start w (refuse_if b (unsound_frame_of v a.log.now p) (Ok Read))) (sym u.0) ∙ k.0;
      entries_after = u.1.1 ∙ ap (λ (b : Bool). slots_by a.entries.now w (refuse_if b (unsound_frame_of v a.log.now p) (Ok Read))) (sym u.0) ∙ k.1;
    }
