-- The place of the position, and the leaf library's walk from it.
use Rattle.std.specs.Prelude.{Ok, Err}
use mathlib.Core.Path.{sym, ap₂, subst, ◌∙◌}
use mathlib.Core.Bool.{cond}
use mathlib.Core.List.{List}
use native.Mathlib.Omega.{arith}
use Prim.Native.Nat.{ℕ, ◌*◌}
use lib.ListN.{length}
use lib.IntN.{ℤ}
use mir.Syntax.{w64}
use mir.Val.{Fits}
use Rattle.model.specs.FrameDescriptor.{unsound_frame_at}
use Rattle.model.specs.declared.FramesRead.{FramesRead}
use Rattle.model.specs.TermReader.{walk, first_unsound, frames_by, entries_by, good_walk}
use Rattle.model.proofs.ReaderLaws.{frames-by}
use Rattle.image.specs.Images.{TermLength}
use Rattle.image.proofs.Places.{At, at_place, term-length, walk-good}
use borrow.Author.Rules.{rules}
use Rattle.image.proofs.frames.frames_at.Statement.{statement}
use Rattle.image.proofs.frames.frames_at.Tie as tie

place : (c : tie.Start) → At c.args.v (length c.args.log.now) c.args.p
place c = at_place _ _ _ c.requires.0 c.requires.1.0

one_bit : (c : tie.Start) → TermLength c.args.v.term
one_bit c = term-length _ _ c.requires.0

partition-of-requires : tie.Need-partition_of-requires
partition-of-requires c κs = one_bit c.before.before

mul-read-frames : tie.Need-overflow_mul-partition_of
mul-read-frames c =
    let s = c in
    subst (λ (x : ℕ). Fits w64 (x * s.args.v.term)) (sym c.partition_of.ensures.0) (record { fits = omega (arith, (place c.before.before.before).inside, s.well_formed) })

offset-of-requires : tie.Need-offset_of-requires
offset-of-requires c κs = one_bit c.before.before.before

returns : tie.Need-returns
returns c =
    let s = c in
    let a = s.args in
    let k = c.partition_of.ensures.0 in
    let at = c.offset_of.ensures in
    let g = walk-good a.v (length a.log.now) a.p a.end a.limit (length a.entries.now) s.requires.0 s.requires.1.0 s.requires.1.1.0 s.requires.1.1.1.0 in
    let h = ap₂ (λ (x y : ℕ). good_walk (length a.log.now) (x * a.v.term) a.v.term a.end y a.limit (length a.entries.now)) k at ∙ g in
    let l = frames-by a.log.now (c.partition_of.result * a.v.term) a.v.term a.end c.offset_of.result a.limit a.actions.now a.entries.now h s.requires.1.1.1.1 in
    let said : ℕ → ℕ → FramesRead = λ (x y : ℕ). frames_by (walk a.v.term a.log.now (x * a.v.term) a.v.term a.end y a.limit a.actions.now) (cond (first_unsound a.log.now (x * a.v.term) a.v.term a.end y a.limit) (Err (unsound_frame_at a.log.now (x * a.v.term) y)) (Ok tt)) in
    let wrote : ℕ → ℕ → List ℤ = λ (x y : ℕ). entries_by a.entries.now (walk a.v.term a.log.now (x * a.v.term) a.v.term a.end y a.limit a.actions.now) (cond (first_unsound a.log.now (x * a.v.term) a.v.term a.end y a.limit) (Err (unsound_frame_at a.log.now (x * a.v.term) y)) (Ok tt)) in
    (c.read_frames.ensures.0 ∙ sym l.0 ∙ ap₂ said k at, c.read_frames.ensures.1 ∙ sym l.1 ∙ ap₂ wrote k at)

pub frames_at_spec : {M : Type 1} → statement M
frames_at_spec =
    tie.close
    (tie.spec
    partition-of-requires
    mul-read-frames
    offset-of-requires
    (search rules)
    (search rules)
    returns)
