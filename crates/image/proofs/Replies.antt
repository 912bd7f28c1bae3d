-- A reply is the image at the position that was worked out, beside the answer; and no call changes more of an image than its position.
use Rattle.std.specs.Prelude.{Result, Ok, Err}
use Rattle.model.specs.declared.Error.{Error}
use mathlib.Core.Path.{◌≡◌, refl, ap, ap₂, ◌∙◌}
use Prim.Native.Nat.{ℕ}
use lib.IntN.{ℤ}
use mir.Syntax.{w64}
use mir.Val.{SFits, to_z, of_z}
use mir.Facts.{to_z-of_z}
use Rattle.model.specs.declared.Polled.{Polled}
use Rattle.model.specs.declared.Block.{Block}
use Rattle.model.specs.declared.ReadVerdict.{ReadVerdict}
use Rattle.model.specs.declared.ReadVerdict.TheVariants.{Read, Closed}
use Rattle.model.specs.Image.{Image as State, PollReply as PollSaid, BlockReply as BlockSaid, moved_to, image_by}
use Rattle.image.specs.declared.PollReply.{PollReply}
use Rattle.image.specs.declared.BlockReply.{BlockReply}
use Rattle.image.specs.declared.frames.PolledTo.{PolledTo}
use Rattle.image.specs.declared.block.BlockTo.{BlockTo}
use Rattle.image.specs.Images.{image_of, poll_reply_of, block_reply_of, polled_to, block_to}

pub only-moved : (i : State) (n : ℕ) (x : Result ReadVerdict Error) → moved_to i (image_by i n x).position ≡ image_by i n x
only-moved i n (Ok Read) = refl
only-moved i n (Ok Closed) = refl
only-moved i n (Err e) = refl

-- a position that fits, told by its bits
pub placed : {z : ℤ} (a : Result Polled Error) → SFits w64 z → ◌≡◌ {A = PolledTo} (record { position = to_z w64 (of_z w64 z); answer = a }) (record { position = z; answer = a })
placed a f = ap {B = PolledTo} (λ (z : ℤ). record { position = z; answer = a }) (to_z-of_z f)

pub poll-replied : (i : State) (z : ℤ) (t : PolledTo) (y : PollSaid) → z ≡ t.position → t ≡ polled_to y → moved_to i y.next.position ≡ y.next
    → ◌≡◌ {A = PollReply} (record { next = image_of (moved_to i z); answer = t.answer }) (poll_reply_of y)
poll-replied i z t y ez et en =
    let made : State → Result Polled Error → PollReply = λ (s : State) (a : Result Polled Error). record { next = image_of s; answer = a } in
    ap₂ made (ap (moved_to i) (ez ∙ ap (λ (x : PolledTo). x.position) et) ∙ en) (ap (λ (x : PolledTo). x.answer) et)

pub block-replied : (i : State) (z : ℤ) (t : BlockTo) (y : BlockSaid) → z ≡ t.position → t ≡ block_to y → moved_to i y.next.position ≡ y.next
    → ◌≡◌ {A = BlockReply} (record { next = image_of (moved_to i z); answer = t.answer }) (block_reply_of y)
block-replied i z t y ez et en =
    let made : State → Result Block Error → BlockReply = λ (s : State) (a : Result Block Error). record { next = image_of s; answer = a } in
    ap₂ made (ap (moved_to i) (ez ∙ ap (λ (x : BlockTo). x.position) et) ∙ en) (ap (λ (x : BlockTo). x.answer) et)
