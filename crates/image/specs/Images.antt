-- An image of the code and the image of the definitions hold the same; and so do their replies.
use Rattle.std.specs.Prelude.{◌≡◌, ℕ, ◌≤◌, ◌<◌, Bool, cond, List, [], leb, ℤ, length, Result, Ok}
use Rattle.model.specs.declared.Error.{Error}
use Rattle.std.specs.Int.Count.{ones}
use Rattle.model.specs.declared.Reading.{Reading}
use Rattle.model.specs.declared.ReadVerdict.{ReadVerdict}
use Rattle.model.specs.declared.ReadVerdict.TheVariants.{Read}
use Rattle.model.specs.declared.Peeked.{Peeked}
use Rattle.model.specs.Bytes.{long}
use Rattle.model.specs.LogBufferDescriptor.{index_by_position, bits_to_shift}
use Rattle.model.specs.TermReader.{natural, good_entries}
use Rattle.model.specs.Image.{Image as State, PollReply as PollSaid, BlockReply as BlockSaid, ImageReply as ImageSaid, refuse_if, unsound_at, unsound_frame_of, block_end, block_length, block_by, image_by, walk_at, end_offset, poll_reply, poll_verdict}
use Rattle.image.specs.declared.Image.{Image}
use Rattle.image.specs.declared.PollReply.{PollReply}
use Rattle.image.specs.declared.PeekReply.{PeekReply}
use Rattle.image.specs.declared.BlockReply.{BlockReply}
use Rattle.image.specs.declared.ImageReply.{ImageReply}
use Rattle.image.specs.declared.frames.PolledTo.{PolledTo}
use Rattle.image.specs.declared.block.BlockTo.{BlockTo}

abbrev pub state_of : Image → State
state_of i = record { position = i.position; session = i.session_id; closed = i.is_closed; eos = i.is_eos }

abbrev pub image_of : State → Image
image_of s = record { position = s.position; session_id = s.session; is_closed = s.closed; is_eos = s.eos }

abbrev pub poll_reply_of : PollSaid → PollReply
poll_reply_of x = record { next = image_of x.next; answer = x.answer }

-- a peek moves nothing: the next image is the image as it was
abbrev pub peek_reply_of : State → Result Peeked Error → PeekReply
peek_reply_of i a = record { next = image_of i; answer = a }

abbrev pub image_reply_of : ImageSaid → ImageReply
image_reply_of x = record { next = image_of x.next; answer = x.answer }

abbrev pub block_reply_of : BlockSaid → BlockReply
block_reply_of x = record { next = image_of x.next; answer = x.answer }

-- a poll up to a limit position, with what row 1 says of its arguments, its fragment limit and its actions
abbrev pub poll_up_to : Reading → List ℕ → State → List ℤ → Bool → ℕ → ℕ → List ℕ → PollSaid
poll_up_to v log i slots good bound limit acts =
    poll_reply i slots (walk_at v log (long i.position) (end_offset v (long i.position) bound) limit acts)
    (poll_verdict v log i good (end_offset v (long i.position) bound) limit)

-- a poll to the term's end, with no actions
abbrev pub poll_to_term : Reading → List ℕ → State → List ℤ → Bool → ℕ → PollSaid
poll_to_term v log i slots good limit =
    poll_reply i slots (walk_at v log (long i.position) v.term limit []) (poll_verdict v log i good v.term limit)

-- `poll_of` of `model`, for a record's numbers: with what row 1 says of the lent entries, and a limit below 0 taken as 0
abbrev pub poll_by : Reading → List ℕ → State → List ℤ → ℤ → PollSaid
poll_by v log i slots limit = poll_to_term v log i slots (good_entries (length slots) (natural limit)) (natural limit)

-- what of a reply is worked out, before the image takes its position
abbrev pub polled_to : PollSaid → PolledTo
polled_to x = record { position = x.next.position; answer = x.answer }

abbrev pub block_to : BlockSaid → BlockTo
block_to x = record { position = x.next.position; answer = x.answer }

-- the term length of a sound record: one bit
pub record TermLength (term : ℕ) : Type 0 where
  pub some : 0 < term
  pub high : term ≤ 1073741824
  pub one_bit : ones term ≡ 1

-- the partition of a position by the bits to shift, of any number as a term length; of a sound record's it is `partition_of` (`shift_in` of proofs/Places.antt)
abbrev pub shifted_in : ℕ → ℕ → ℕ
shifted_in term p = cond (leb term 4294967295) (index_by_position p (bits_to_shift term)) 0

-- a block poll by its verdict, and once only the first frame is left to judge
abbrev pub block_said : Reading → List ℕ → State → ℕ → Result ReadVerdict Error → BlockSaid
block_said v log i limit x =
    record { answer = block_by v log i (block_length v log (long i.position) limit) x; next = image_by i (block_length v log (long i.position) limit) x }

abbrev pub block_read : Reading → List ℕ → State → ℕ → BlockSaid
block_read v log i limit = block_said v log i limit (refuse_if (unsound_at v log (long i.position) (block_end v (long i.position) limit) 1) (unsound_frame_of v log (long i.position)) (Ok Read))
