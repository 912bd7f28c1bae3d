-- By cases on the frame; a frame's length is 32 or more, and below 2^31.
use Rattle.std.proofs.Common.{Some, refl, sym, ap, ◌∙◌, arith}
use Rattle.model.specs.declared.Frame.{Frame}
use Rattle.model.specs.declared.Frame.TheVariants.{Padding, Data}
use Rattle.model.specs.FrameDescriptor.{align}
use Rattle.model.proofs.FrameLaws.{lies}
use Rattle.shelf.specs.Shelf.{size_by, size_at, size_found}
use Rattle.shelf.proofs.Sizes.{no_frame, found, next-multiple}
use Rattle.shelf.proofs.frames.size.Goals as goal

pub next_multiple_of-requires-clause-fits : goal.next_multiple_of-requires-clause-fits
next_multiple_of-requires-clause-fits c = omega (arith, (lies _ _ (Padding c.in-Padding.n) (sym c.frame_at.ensures ∙ c.in-Padding.is) refl).small)

pub next_multiple_of-requires-in-Data-clause-fits : goal.next_multiple_of-requires-in-Data-clause-fits
next_multiple_of-requires-in-Data-clause-fits c = omega (arith, (lies _ _ (Data c.in-Data.n) (sym c.frame_at.ensures ∙ c.in-Data.is) refl).small)

pub returns-in-Absent : goal.returns-in-Absent
unfolding size_at
returns-in-Absent c = sym (ap size_found (ap size_by (sym c.frame_at.ensures) ∙ no_frame c.in-Absent.is))

pub returns-in-Padding : goal.returns-in-Padding
unfolding size_at
returns-in-Padding c =
    let e = sym c.frame_at.ensures ∙ c.in-Padding.is in
    let n = c.in-Padding.n in
    ap Some (c.next_multiple_of.ensures.value ∙ next-multiple n) ∙ found (align n) (omega (arith, (lies _ _ (Padding n) e refl).header))
    ∙ sym (ap (λ (f : Frame). size_found (size_by f)) e)

pub returns-in-Data : goal.returns-in-Data
unfolding size_at
returns-in-Data c =
    let e = sym c.frame_at.ensures ∙ c.in-Data.is in
    let n = c.in-Data.n in
    ap Some (c.next_multiple_of-in-Data.ensures.value ∙ next-multiple n) ∙ found (align n) (omega (arith, (lies _ _ (Data n) e refl).header))
    ∙ sym (ap (λ (f : Frame). size_found (size_by f)) e)
