-- A frame length that is not finished, by its tag.
use Rattle.std.proofs.Common.{◌≡◌, false, [], ◌∷◌, refl, ⊎_elim, arith}
use types.Run.{OneOf}
use denote.Enum.Declared.{tag_of}
use Rattle.model.specs.declared.FrameLength.{FrameLength}
use Rattle.model.specs.declared.FrameLength.TheVariants.{Free, Writing, Finished}
use Rattle.model.specs.FrameDescriptor.{is_finished}
use Rattle.model.specs.contracts.FrameLength.{the_type}

pub unfinished : (y : FrameLength) → OneOf (0 ∷ 1 ∷ []) (tag_of the_type y) → is_finished y ≡ false
unfinished Free k = refl
unfinished (Writing n) k = refl
unfinished (Finished n) k = absurd (⊎_elim (λ i. omega arith) (λ i. omega arith) k)
