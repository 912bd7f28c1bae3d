-- The partition beside an answer. A record that a read is answered of is sound, and of its term length the shift by the trailing zeros is the quotient; a
-- refusal tells no partition.
use Rattle.std.specs.Prelude.{Result, Err}
use mathlib.Core.Path.{◌≡◌, refl, ap}
use mathlib.Core.Bool.{Bool, true, false, cond, ◌&&◌, not}
use mathlib.Core.List.{List, []}
use Prim.Native.Nat.{ℕ}
use lib.Dec.{leb}
use lib.IntN.{ℤ, pos}
use lib.ListN.{length}
use Rattle.model.specs.declared.LogRecord.{LogRecord}
use Rattle.model.specs.declared.Error.{Error}
use Rattle.model.specs.declared.Error.TheVariants.{IllegalArgument, IllegalRecord}
use Rattle.model.specs.declared.ReadVerdict.{ReadVerdict}
use Rattle.model.specs.Bytes.{word, long}
use Rattle.model.specs.LogBufferDescriptor.{reading, reading_of, sound, index_by_position, bits_to_shift}
use Rattle.model.specs.TermReader.{natural, good_entries, good_actions, good_control}
use Rattle.model.specs.Image.{Image as State, refuse_if, readable, end_offset, walk_at, poll_verdict, polled_by, poll_of, bounded_poll_of, controlled_poll_of, peek_walk, peek_verdict, peeked_by, peek_of, block_verdict, block_length, block_by, block_poll_of}
use Rattle.model.proofs.Sound.{sound-true}
use Rattle.logbuffer.proofs.Shifts.{partition-by}
use Rattle.image.specs.Images.{shifted_in}
use Rattle.image.proofs.Places.{shift_in}
use Rattle.capi.specs.declared.replies.PollReply.{PollReply}
use Rattle.capi.specs.declared.replies.PeekReply.{PeekReply}
use Rattle.capi.specs.declared.replies.BlockReply.{BlockReply}
use Rattle.capi.specs.Replies.{partition_at, poll_reply, peek_reply, block_reply}

-- the first two rows of a reader's ladder, and what may come behind them
abbrev rows : Bool → Bool → Result ReadVerdict Error → Result ReadVerdict Error
rows good is-sound rest = refuse_if (not good) IllegalArgument (refuse_if (not is-sound) IllegalRecord rest)

-- where a refusal looks at no partition, two partitions that a sound record has in common give one reply
module _ {A : Type 0} (reply : Result ReadVerdict Error → ℤ → A) (k l : ℤ) (none : (e : Error) → reply (Err e) k ≡ reply (Err e) l) where
  one-reply : (good is-sound : Bool) (rest : Result ReadVerdict Error) → (is-sound ≡ true → k ≡ l) → reply (rows good is-sound rest) k ≡ reply (rows good is-sound rest) l
  one-reply false is-sound rest h = none IllegalArgument
  one-reply true false rest h = none IllegalRecord
  one-reply true true rest h = ap (reply rest) (h refl)

module _ (r : LogRecord) (log : List ℕ) where
  -- as the code has it
  abbrev pub shifted : ℤ → ℤ
  shifted p = pos (index_by_position (long p) (bits_to_shift (word r.term_length)))

  sound-shift : (p : ℤ) → sound (reading r) (length log) ≡ true → shifted p ≡ partition_at r p
  unfolding reading_of
  sound-shift p h = let s = sound-true (reading r) (length log) h in ap pos (partition-by (reading r).term s.term-high s.one_bit (long p))

  -- and as a poll has worked it out
  abbrev pub shifted-on : ℤ → ℤ
  shifted-on p = pos (shifted_in (reading r).term (long p))

  module _ (i : State) (slots : List ℤ) where
    pub poll-in : (limit : ℤ) → poll_reply (shifted-on i.position) (poll_of r log i slots limit).answer ≡ poll_reply (partition_at r i.position) (poll_of r log i slots limit).answer
    unfolding poll_of poll_verdict readable
    poll-in limit =
        one-reply (λ x k. poll_reply k (polled_by (walk_at (reading r) log (long i.position) (reading r).term (natural limit) []) x)) _ _ (λ e. refl)
        (good_entries (length slots) (natural limit)) (sound (reading r) (length log)) _ (λ h. ap pos (shift_in (reading r) (length log) (long i.position) h))

    pub bounded-in : (bound limit : ℤ)
        → poll_reply (shifted i.position) (bounded_poll_of r log i slots bound limit).answer ≡ poll_reply (partition_at r i.position) (bounded_poll_of r log i slots bound limit).answer
    unfolding bounded_poll_of poll_verdict readable
    bounded-in bound limit =
        one-reply (λ x k. poll_reply k (polled_by (walk_at (reading r) log (long i.position) (end_offset (reading r) (long i.position) (natural bound)) (natural limit) []) x)) _ _ (λ e. refl)
        (good_entries (length slots) (natural limit)) (sound (reading r) (length log)) _ (sound-shift i.position)

    pub controlled-in : (acts : List ℕ) (limit : ℤ)
        → poll_reply (shifted i.position) (controlled_poll_of r log i slots acts limit).answer ≡ poll_reply (partition_at r i.position) (controlled_poll_of r log i slots acts limit).answer
    unfolding controlled_poll_of poll_verdict readable
    controlled-in acts limit =
        one-reply (λ x k. poll_reply k (polled_by (walk_at (reading r) log (long i.position) (reading r).term (natural limit) acts) x)) _ _ (λ e. refl)
        (good_entries (length slots) (natural limit) && good_control acts (natural limit)) (sound (reading r) (length log)) _ (sound-shift i.position)

    pub peek-in : (acts : List ℕ) (start bound : ℤ)
        → peek_reply (shifted start) (peek_of r log i slots acts start bound) ≡ peek_reply (partition_at r start) (peek_of r log i slots acts start bound)
    unfolding peek_of peek_verdict readable
    peek-in acts start bound =
        one-reply (λ x k. peek_reply k (peeked_by start (peek_walk (reading r) log acts (long start) (natural bound)) x)) _ _ (λ e. refl)
        (good_entries (length slots) (length acts) && (good_actions acts && leb (length acts) 2147483647)) (sound (reading r) (length log)) _ (sound-shift start)

  pub block_in : (i : State) (limit : ℤ)
      → block_reply (shifted i.position) (block_poll_of r log i limit).answer ≡ block_reply (partition_at r i.position) (block_poll_of r log i limit).answer
  unfolding block_poll_of poll_verdict readable
  block_in i limit =
      one-reply (λ x k. block_reply k (block_by (reading r) log i (block_length (reading r) log (long i.position) (natural limit)) x)) _ _ (λ e. refl)
      true (sound (reading r) (length log)) _ (sound-shift i.position)
