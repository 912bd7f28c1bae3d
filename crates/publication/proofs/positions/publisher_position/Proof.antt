-- Each callee's promise is a part of the position; a shift past 30 is that of no sound term.
use Rattle.std.specs.Prelude.{Ok}
use native.Mathlib.Omega.{arith}
use mathlib.Core.Path.{◌≡◌, refl, ap, ◌∙◌}
use Prim.Native.Nat.{ℕ, ◌*◌, ◌%◌}
use lib.IntN.{ℤ}
use mir.Syntax.{w32, w64}
use mir.Val.{SFits, to_z, of_z}
use mir.Facts.{to_z-of_z}
use Rattle.model.specs.LogBufferDescriptor.{term_id_of, term_offset_of, tail_of, Sound, publisher_position}
use Rattle.model.proofs.SoundRecord.{sound-record-true}
use Rattle.publication.proofs.Numbers.{position-by, position-fits}
use borrow.Author.Rules.{rules}
use Rattle.publication.proofs.positions.publisher_position.Statement.{statement}
use Rattle.publication.proofs.positions.publisher_position.Tie as tie

so : (s : tie.Start) → Sound s.args.v (3 * s.args.v.term)
so s = sound-record-true s.args.v s.requires.1

module _ (c : tie.After-compute_position-answer) where
  abbrev start : tie.Start
  start = c.before.before.before.before.before.before

  tail-fits : SFits w64 (tail_of start.args.rec (start.args.v.count % 3))
  tail-fits = search rules

  initial-fits : SFits w32 start.args.rec.initial_term_id
  initial-fits = search rules

  computed : c.compute_position-answer.result ≡ Ok (publisher_position start.args.v)
  computed =
      c.compute_position-answer.ensures
      ∙ position-by start.args.rec start.args.v _ start.requires.0 (so start) (tail_of start.args.rec (start.args.v.count % 3)) _ _ _ _ tail-fits refl initial-fits (to_z-of_z initial-fits)
      (to_z-of_z {w = w32} {z = c.term_id-id.result} (search rules) ∙ c.term_id-id.ensures ∙ ap term_id_of (to_z-of_z tail-fits))
      (c.term_offset-offset.ensures ∙ ap (λ (z : ℤ). term_offset_of z start.args.v.term) (to_z-of_z tail-fits)) c.position_bits_to_shift-bits.ensures

cast-position-bits-to-shift : tie.Need-overflow_cast-term
cast-position-bits-to-shift c = omega (arith, (so c.before.before).term-high)

returns : tie.Need-returns-in_default
returns c =
    let d = c in
    absurd (let z : ◌≡◌ {A = ℕ} 0 1 = cc (computed c.before, c.in_default.is) in omega arith)

returns-2 : tie.Need-returns
returns-2 c =
    let d = c in
    let e : c.in-Ok.position ≡ publisher_position (start c.before).args.v = cc (computed c.before, c.in-Ok.is) in
    ap (λ (z : ℤ). to_z w64 (of_z w64 z)) e ∙ to_z-of_z (position-fits (start c.before).args.rec (start c.before).args.v _ (start c.before).requires.0 (so (start c.before)))

pub publisher_position_spec : {M : Type 1} → statement M
publisher_position_spec =
    tie.close
    (tie.spec
    (search rules)
    (search rules)
    (search rules)
    cast-position-bits-to-shift
    (search rules)
    (search rules)
    (search rules)
    (search rules)
    (search rules)
    (search rules)
    returns
    returns-2)
