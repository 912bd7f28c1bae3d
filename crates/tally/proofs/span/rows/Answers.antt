-- The first test that fails decides.
use Rattle.std.proofs.Common.{◌≡◌, ℕ, Bool, true, false, ℤ, sym, refl, ap, ◌∙◌, ap₂, arith, rules}
use Rattle.model.specs.declared.Reading.{Reading}
use Rattle.model.specs.Bytes.{long}
use Rattle.model.specs.LogBufferDescriptor.{reading, sound, good_position}
use Rattle.model.proofs.Sound.{sound-true}
use Rattle.logbuffer.proofs.Signed.{long-by}
use Rattle.tally.specs.Span.{good_span}
use Rattle.tally.proofs.Spans.{span-by}
use Rattle.tally.proofs.span.rows.Goals as goal
use Rattle.tally.proofs.span.rows.Goals.{After-good_span, After-is_sound, After-good_position, then-not-good_position-via-then-not-good_position, then-not-good_position-via-else-not-good_position+then-not-good_position-2}

span : (c : After-good_span) → let a = c.args in good_span a.rec.term_length a.from a.to ≡ c.good_span.result
span c = sym (c.good_span.ensures ∙ search rules)

is-sound : (c : After-is_sound) → let a = c.args in sound (reading a.rec) a.log_length ≡ c.is_sound.result
is-sound c = sym (c.is_sound.ensures ∙ ap (λ (v : Reading). sound v c.args.log_length) c.read_active-v.ensures)

-- a position as it was read
position : (v u : Reading) (p : ℕ) (z : ℤ) (b : Bool) → v ≡ u → p ≡ long z → b ≡ good_position v p → good_position u (long z) ≡ b
position v u p z b e f g = sym (g ∙ ap₂ (λ (x : Reading) (y : ℕ). good_position x y) e f)

first : (c : After-good_position) → let a = c.args in good_position (reading a.rec) (long a.from) ≡ c.good_position.result
first c = let a = c.args in position _ _ _ a.from _ c.read_active-v.ensures (long-by a.from c.long.ensures.0 c.ranges.from) c.good_position.ensures

pub returns-then-not-good_span : goal.returns-then-not-good_span
returns-then-not-good_span c =
    let a = c.args in
    span-by a.rec a.log_length a.from a.to false _ _ _ (span (goal.at.returns-then-not-good_span c).After-good_span ∙ c.if-not-good_span.true) refl refl refl

pub returns-then-not-is_sound : goal.returns-then-not-is_sound
returns-then-not-is_sound c =
    let a = c.args in
    let at = goal.at.returns-then-not-is_sound c in
    span-by a.rec a.log_length a.from a.to true false _ _ (span at.After-good_span ∙ c.if-not-good_span.false) (is-sound at.After-is_sound ∙ c.if-not-is_sound.true) refl refl

pub good_position-requires : goal.good_position-requires
good_position-requires c = omega (arith, (sound-true c.read_active-v.result c.args.log_length (sym c.is_sound.ensures ∙ c.if-not-is_sound.false)).term-high)

pub good_position-requires-else-not-good_position : goal.good_position-requires-else-not-good_position
good_position-requires-else-not-good_position c = omega (arith, (sound-true c.read_active-v.result c.args.log_length (sym c.is_sound.ensures ∙ c.if-not-is_sound.false)).term-high)

pub returns-then-not-good_position : goal.returns-then-not-good_position
returns-then-not-good_position c =
    let a = c.args in
    let at = goal.at.returns-then-not-good_position c in
    let g = span at.After-good_span ∙ c.if-not-good_span.false in
    let s = is-sound at.After-is_sound ∙ c.if-not-is_sound.false in
    let f = first at.After-good_position in
    elim c.then-not-good_position.branch [
      | then-not-good_position-via-then-not-good_position w ↦ span-by a.rec a.log_length a.from a.to true true false _ g s (f ∙ w.if-not-good_position.true) refl
      | then-not-good_position-via-else-not-good_position+then-not-good_position-2 w ↦
          let p = w.good_position-else-not-good_position in
          span-by a.rec a.log_length a.from a.to true true true false g s (f ∙ w.if-not-good_position.false)
          (position _ _ _ a.to _ c.read_active-v.ensures (long-by a.to w.long-else-not-good_position.ensures.0 c.ranges.to) p.ensures ∙ w.if-not-good_position-2.true)
    ]

pub returns : goal.returns
returns c =
    let a = c.args in
    let at = goal.at.returns c in
    let p = c.good_position-else-not-good_position in
    span-by a.rec a.log_length a.from a.to true true true true (span at.After-good_span ∙ c.if-not-good_span.false) (is-sound at.After-is_sound ∙ c.if-not-is_sound.false)
    (first at.After-good_position ∙ c.if-not-good_position.false)
    (position _ _ _ a.to _ c.read_active-v.ensures (long-by a.to c.long-else-not-good_position.ensures.0 c.ranges.to) p.ensures ∙ c.if-not-good_position-2.false)
