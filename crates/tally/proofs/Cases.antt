-- Worked cases at the edges. Most are on a stream of short terms, since a step asks for no sound record; the last are calls on a log of the least size.
use Rattle.std.specs.Prelude.{Ok, Err}
use Rattle.std.proofs.Common.{◌≡◌, ℕ, true, false, List, [], ◌∷◌, ◌++◌, replicate, pos, negsuc, refl}
use lib.Count.{ones, ones_in}
use Rattle.model.specs.declared.LogRecord.{LogRecord}
use Rattle.model.specs.declared.Error.TheVariants.{IllegalArgument, PositionOutOfRange, FrameTooShort, FramePastTerm}
use Rattle.model.specs.declared.Frame.TheVariants.{Padding, Data}
use Rattle.model.specs.Bytes.{le4, u16, u32}
use Rattle.model.specs.FrameDescriptor.{frame_length_of, frame_at, negated, unsound_frame}
use Rattle.model.specs.LogBufferDescriptor.{reading_of, sound_record, sound}
use Rattle.model.proofs.Cases.{record_at}
use Rattle.tally.specs.declared.step.Stop.TheVariants.{Reached, Writing, Free, OtherTerm, PastSecond, UnsoundFrame}
use Rattle.tally.specs.declared.Sums.{Sums}
use Rattle.tally.specs.Walk.{Stream, stream_of, Passed, frame_in, own_id, met, walked, between, end_of, why}
use Rattle.tally.specs.Span.{good_span, span_rows, first_frame}
use Rattle.tally.specs.Tally.{sum, sums_of, tally_verdict, tally_of}
use Rattle.tally.specs.Partitions.{term_in, part, reaches, all_reach, by_parts, inside, by_stream, partitioned, partitioned_end, in_three, partition_verdict}

-- ---- row 1: in order, at most three terms apart, exactly

equal : good_span (pos 65536) (pos 8) (pos 8) ≡ true
unfolding good_span
equal = refl

back : good_span (pos 65536) (pos 8) (pos 7) ≡ false
unfolding good_span
back = refl

three-terms : good_span (pos 65536) (pos 32) (pos 196640) ≡ true
unfolding good_span
three-terms = refl

three_and_one : good_span (pos 65536) (negsuc 0) (pos 196608) ≡ false
unfolding good_span
three_and_one = refl

-- the difference of the least and the largest number is past 64 bits, and is exact
farthest : good_span (pos 2147483647) (negsuc 9223372036854775807) (pos 9223372036854775807) ≡ false
unfolding good_span
farthest = refl

-- no two numbers are at most three terms apart by a term length below zero; by one of zero only equal ones are
below-zero : good_span (negsuc 0) (pos 8) (pos 8) ≡ false
unfolding good_span
below-zero = refl

zero-term : good_span (pos 0) (pos 8) (pos 8) ≡ true
unfolding good_span
zero-term = refl

-- ---- a stream of terms of 128 bytes

-- a header with a length, a type and a term id, as far as the walk looks, and so many bytes of 0 behind the id
abbrev frame : ℕ → ℕ → ℕ → ℕ → List ℕ
frame length type id rest = le4 length ++ (0 ∷ 192 ∷ type ∷ 0 ∷ (replicate 12 0 ++ (le4 id ++ replicate rest 0)))

-- In term 7 a message of 8 bytes and an aborted claim of 8; in term 8 an open claim of 10; in term 9 nothing.
abbrev short : Stream
short = record { term = 128; initial = 7; log = frame 40 1 7 40 ++ (frame 40 0 7 40 ++ (frame (negated 42) 1 8 104 ++ replicate 128 0)) }

two : List Passed
two = record { at = 0; frame = Data 40 } ∷ record { at = 64; frame = Padding 40 } ∷ []

walks : between short 0 384 ≡ two
unfolding met frame_in own_id frame_at frame_length_of u16 u32 le4 walked two
walks = refl

-- the slack is no body, and the aborted claim is padding, slack and all
two-sums : sums_of two ≡ record { body = 8; headers = 32; slack = 24; padding = 64 }
unfolding sum two
two-sums = refl

two-end : end_of 0 two ≡ 128
unfolding end_of two
two-end = refl

-- why it ended there, and where else it would end
open-claim : why short 384 128 ≡ Writing 42
unfolding why frame_in own_id frame_at frame_length_of u16 u32 le4
open-claim = refl

reached : why short 128 128 ≡ Reached
unfolding why
reached = refl

free : why short 384 256 ≡ Free
unfolding why frame_in own_id frame_at frame_length_of u16 u32 le4
free = refl

-- the aborted claim ends at 128
one : List Passed
one = record { at = 0; frame = Data 40 } ∷ []

stops-before : between short 0 127 ≡ one
unfolding met frame_in own_id frame_at frame_length_of u16 u32 le4 walked one
stops-before = refl

past-second : why short 127 64 ≡ PastSecond
unfolding why frame_in own_id frame_at frame_length_of u16 u32 le4
past-second = refl

-- a whole log further the same frames are those of another term
other-term : between short 384 512 ≡ []
unfolding met frame_in own_id frame_at frame_length_of u16 u32 le4 walked
other-term = refl

other-id : why short 512 384 ≡ OtherTerm
unfolding why frame_in own_id frame_at frame_length_of u16 u32 le4
other-id = refl

-- Ids wrap: behind the term of id -1 comes that of id 0.
abbrev wrapping : Stream
wrapping = record { term = 64; initial = 4294967295; log = replicate 64 0 ++ frame 64 1 0 104 }

wraps : own_id wrapping 64 ≡ true
unfolding own_id u32 le4
wraps = refl

-- ---- unsound frames: before the id and the second position, and only the first of a walk refuses

abbrev unsound : Stream
unsound = record { term = 128; initial = 7; log = frame 32 1 7 8 ++ (frame 5 1 8 40 ++ (frame 129 1 7 40 ++ replicate 256 0)) }

first-refuses : first_frame 128 unsound.log 32 64 ≡ Err (FrameTooShort 32)
unfolding first_frame met frame_in own_id frame_at frame_length_of unsound_frame u16 u32 le4
first-refuses = refl

past-term : first_frame 128 unsound.log 96 128 ≡ Err (FramePastTerm 96)
unfolding first_frame met frame_in own_id frame_at frame_length_of unsound_frame u16 u32 le4
past-term = refl

equal-look-at-none : first_frame 128 unsound.log 32 32 ≡ Ok tt
unfolding first_frame met frame_in own_id frame_at frame_length_of unsound_frame u16 u32 le4
equal-look-at-none = refl

later-stops : (first_frame 128 unsound.log 0 128 ≡ Ok tt) × (why unsound 128 32 ≡ UnsoundFrame)
unfolding first_frame why met frame_in own_id frame_at frame_length_of unsound_frame u16 u32 le4
later-stops = (refl, refl)

-- ---- in partition order: which term lies where

-- three whole terms lie in three; as many bytes from inside a term lie in four
in_three_lem : in_three 65536 0 196608 ≡ true
in_three_lem = refl

in_four : in_three 65536 32 196640 ≡ false
in_four = refl

-- from inside term 4, which lies in partition 1: partition 0 has term 6, partition 2 has term 5
terms : (term_in 65536 262176 0 ≡ 6) × ((term_in 65536 262176 1 ≡ 4) × (term_in 65536 262176 2 ≡ 5))
terms = (refl, (refl, refl))

none : Sums
none = record { body = 0; headers = 0; slack = 0; padding = 0 }

-- Terms of 64 bytes, each a frame. From term 1 on, partition 0 holds term 3, the last of the three.
abbrev round : Stream
round = record { term = 64; initial = 7; log = frame 40 1 10 40 ++ (frame 64 0 8 40 ++ frame 64 1 9 40) }

goes-round : partitioned round 64 256 ≡ record {
  p0 = record { body = 8; headers = 32; slack = 24; padding = 0 };
  p1 = record { body = 0; headers = 0; slack = 0; padding = 64 };
  p2 = record { body = 32; headers = 32; slack = 0; padding = 0 };
}
unfolding partitioned all_reach reaches by_parts part sum met frame_in own_id frame_at frame_length_of u16 u32 le4 walked end_of
goes-round = refl

round-end : partitioned_end round 64 256 ≡ 256
unfolding partitioned_end all_reach reaches part met frame_in own_id frame_at frame_length_of u16 u32 le4 walked end_of
round-end = refl

-- A part begins where the walk does: of the two frames in partition 0 the second alone lies between.
from-inside : partitioned short 64 128 ≡ record { p0 = record { body = 0; headers = 0; slack = 0; padding = 64 }; p1 = none; p2 = none }
unfolding partitioned all_reach reaches by_parts part sum met frame_in own_id frame_at frame_length_of u16 u32 le4 walked end_of none
from-inside = refl

-- A message in partition 0, an open claim in partition 1, a message in partition 2, which the stream order does not come to.
abbrev stopping : Stream
stopping = record { term = 64; initial = 7; log = frame 64 1 7 40 ++ (frame (negated 64) 1 8 40 ++ frame 64 1 9 40) }

stops-short : partitioned stopping 0 192 ≡ record { p0 = record { body = 32; headers = 32; slack = 0; padding = 0 }; p1 = none; p2 = none }
unfolding partitioned all_reach reaches by_stream inside part sum met frame_in own_id frame_at frame_length_of u16 u32 le4 walked end_of none
stops-short = refl

short-end : partitioned_end stopping 0 192 ≡ 64
unfolding partitioned_end all_reach reaches part met frame_in own_id frame_at frame_length_of u16 u32 le4 walked end_of
short-end = refl

-- ---- calls: term 65,536, mtu 96, initial id 7

abbrev rec : LogRecord
rec = record_at (replicate 3 (pos 0)) (pos 7) 96 0 0 false

walks-two : tally_of rec (frame 40 1 7 40 ++ frame 40 0 7 196520) (pos 0) (pos 65536) ≡ Ok (record { sums = record { body = 8; headers = 32; slack = 24; padding = 64 }; end = pos 128; stop = Free })
unfolding tally_of tally_verdict stream_of span_rows good_span first_frame reading_of sound_record sound ones ones_in met frame_in own_id frame_at frame_length_of u16 u32 le4 walked sum end_of why
walks-two = refl

-- length 5 with another term's id
first-unsound : tally_of rec (frame 5 1 8 196584) (pos 0) (pos 32) ≡ Err (FrameTooShort 0)
unfolding tally_of tally_verdict stream_of span_rows good_span first_frame reading_of sound_record sound ones ones_in met frame_in own_id frame_at frame_length_of unsound_frame u16 u32 le4 walked sum end_of why
first-unsound = refl

-- three terms from inside a term: 1, but 3 comes before
four-terms : (partition_verdict rec (replicate 196608 0) (pos 32) (pos 196640) ≡ Err IllegalArgument)
    × (partition_verdict rec (replicate 196608 0) (pos 8) (pos 196616) ≡ Err PositionOutOfRange)
unfolding partition_verdict span_rows good_span reading_of sound_record sound ones ones_in
four-terms = (refl, refl)
