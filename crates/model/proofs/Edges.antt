-- Worked cases at the edges that document 01 names: each range of row 2 on both sides, the order and the numbers of 15 and 16, and answers
-- whose numbers differ from each other. A definition that is changed together with its code is refused here. Names and records as in Cases.
use Prim.Native.Nat.{ℕ, ◌+◌}
use mathlib.Core.Path.{◌≡◌, refl, ◌∙◌}
use mathlib.Core.Bool.{Bool, true, false}
use mathlib.Core.List.{List, [], ◌∷◌, ◌++◌}
use native.Mathlib.Omega.{arith}
use lib.ListN.{length, replicate}
use lib.IntN.{ℤ, pos, negsuc}
use lib.Count.{ones, ones_in, ones_cat}
use Rattle.model.specs.Replay.{is_below}
use Rattle.model.specs.declared.LogRecord.{LogRecord}
use Rattle.model.specs.Bytes.{le4, u16, u32}
use Rattle.model.specs.Answers.{Told, outcome_told, frame_length_told, length_read_told, scanned_told, gap_told, positioned_told, appended_told, read_told, polled_told, block_told, end_told, assembled_told}
use Rattle.model.specs.FrameDescriptor.{frame_at, frame_length_of, unsound_frame}
use Rattle.model.specs.LogBufferDescriptor.{reading, reading_of, sound_record, sound, changed, with_tail, raw_of, term_offset_of}
use Rattle.model.specs.TermAppender.{course, unfragmented_course, unfragmented_reply}
use Rattle.model.specs.Publication.{no_record, open_record, window_call, raise_verdict, raise_of}
use Rattle.model.specs.TermReader.{walk, good_actions, read_verdict, read_of, header_verdict, length_call}
use Rattle.model.specs.TermScan.{scan_from, scan_verdict, scan_judge, scan_of, rebuild, gap_length, gap_judge, gap_of}
use Rattle.model.specs.Image.{Image, new_image, readable, reachable, poll_verdict, poll_of, controlled_poll_of, block_poll_of, set_position_of, end_of_stream_of, close_image_of}
use Rattle.model.specs.declared.Joining.TheVariants.{Join, Complete}
use Rattle.model.specs.FragmentAssembler.{Sessions, fresh, place_in, joining, assemble_verdict, assemble_of}
use Rattle.model.proofs.Cases.{record_at, tails_at, tail_at, is}

-- ---- the slowest reader (R-4 of document 02): row 2 at its edges, and its rise

abbrev slowest_at : ℤ → LogRecord
slowest_at p =
    record {
      tails = tails_at 64;
      active_term_count = pos 0;
      initial_term_id = pos 7;
      term_length = pos 65536;
      mtu_length = pos 96;
      session_id = pos 5;
      stream_id = pos 6;
      is_connected = pos 1;
      publication_limit = pos 0;
      end_of_stream_position = pos 9223372036854775807;
      is_closed = true;
      slowest_position = p;
      is_cleared = false ∷ true ∷ true ∷ [];
      active_transport_count = pos 0;
      correlation_id = pos 0;
      page_size = pos 0;
    }

abbrev slowest-sounds : ℤ → Bool
slowest-sounds p = sound_record (reading (slowest_at p))

slowest-highest : slowest-sounds (pos 140737488355328) ≡ true
unfolding reading_of sound_record raw_of ones ones_in
slowest-highest = refl

slowest-above : slowest-sounds (pos 140737488355360) ≡ false
unfolding reading_of sound_record raw_of ones ones_in
slowest-above = refl

slowest-between : slowest-sounds (pos 16) ≡ false
unfolding reading_of sound_record raw_of ones ones_in
slowest-between = refl

slowest-below : slowest-sounds (negsuc 31) ≡ false
unfolding reading_of sound_record raw_of ones ones_in
slowest-below = refl

-- it rises, also on a closed publication; the same again is accepted
raised : outcome_told (raise_of (slowest_at (pos 64)) (pos 96)).answer ≡ is (pos 0) []
unfolding raise_of raise_verdict reading_of sound_record raw_of ones ones_in
raised = refl

raised-again : outcome_told (raise_of (slowest_at (pos 64)) (pos 64)).answer ≡ is (pos 0) []
unfolding raise_of raise_verdict reading_of sound_record raw_of ones ones_in
raised-again = refl

raised-lower : outcome_told (raise_of (slowest_at (pos 64)) (pos 32)).answer ≡ is (pos 15) []
unfolding raise_of raise_verdict reading_of sound_record raw_of ones ones_in
raised-lower = refl

-- row 3 comes before 15, and row 2, of the record as it stands, before row 3
raised-off : outcome_told (raise_of (slowest_at (pos 64)) (pos 16)).answer ≡ is (pos 3) []
unfolding raise_of raise_verdict reading_of sound_record raw_of ones ones_in
raised-off = refl

raised-unsound : outcome_told (raise_of (slowest_at (pos 16)) (pos 16)).answer ≡ is (pos 2) []
unfolding raise_of raise_verdict reading_of sound_record raw_of ones ones_in
raised-unsound = refl

-- a replay goes on below the publisher's position, here 64, and not at it
goes-below : is_below (slowest_at (pos 0)) (pos 32) ≡ true
unfolding reading_of raw_of
goes-below = refl

stops_at : is_below (slowest_at (pos 0)) (pos 64) ≡ false
unfolding reading_of raw_of
stops_at = refl

-- ---- row 2, each range at its edge and past it

-- tail offset, count, initial id, term length, mtu, limit
abbrev ranged : ℕ → ℤ → ℤ → ℤ → ℤ → ℤ → LogRecord
ranged offset count initial term mtu limit =
    record {
      tails = tails_at offset;
      active_term_count = count;
      initial_term_id = initial;
      term_length = term;
      mtu_length = mtu;
      session_id = pos 5;
      stream_id = pos 6;
      is_connected = pos 1;
      publication_limit = limit;
      end_of_stream_position = pos 9223372036854775807;
      is_closed = false;
      slowest_position = pos 0;
      is_cleared = false ∷ true ∷ true ∷ [];
      active_transport_count = pos 0;
      correlation_id = pos 0;
      page_size = pos 0;
    }

abbrev sounds : LogRecord → Bool
sounds r = sound_record (reading r)

-- 65,536 to 1,073,741,824, and a power of two
term-lowest : sounds (ranged 0 (pos 0) (pos 7) (pos 65536) (pos 96) (pos 0)) ≡ true
unfolding reading_of sound_record raw_of ones ones_in
term-lowest = refl

term-below : sounds (ranged 0 (pos 0) (pos 7) (pos 32768) (pos 96) (pos 0)) ≡ false
unfolding reading_of sound_record raw_of ones ones_in
term-below = refl

small-bit : ones 65536 + ones 0 ≡ 1
unfolding ones ones_in
small-bit = refl

large-bit : ones 1073741824 ≡ 1
large-bit = ones_cat 14 65536 0 (omega arith) ∙ small-bit

term-highest : sounds (ranged 0 (pos 0) (pos 7) (pos 1073741824) (pos 96) (pos 0)) ≡ true
unfolding reading_of sound_record raw_of
term-highest = rw large-bit

term-above : sounds (ranged 0 (pos 0) (pos 7) (negsuc 2147483647) (pos 96) (pos 0)) ≡ false
unfolding reading_of sound_record raw_of ones ones_in
term-above = refl

term-two-bits : sounds (ranged 0 (pos 0) (pos 7) (pos 65537) (pos 96) (pos 0)) ≡ false
unfolding reading_of sound_record raw_of ones ones_in
term-two-bits = refl

-- a multiple of 32 from 64 to 65,504
mtu-lowest : sounds (ranged 0 (pos 0) (pos 7) (pos 65536) (pos 64) (pos 0)) ≡ true
unfolding reading_of sound_record raw_of ones ones_in
mtu-lowest = refl

mtu-below : sounds (ranged 0 (pos 0) (pos 7) (pos 65536) (pos 32) (pos 0)) ≡ false
unfolding reading_of sound_record raw_of ones ones_in
mtu-below = refl

mtu-highest : sounds (ranged 0 (pos 0) (pos 7) (pos 65536) (pos 65504) (pos 0)) ≡ true
unfolding reading_of sound_record raw_of ones ones_in
mtu-highest = refl

mtu-above : sounds (ranged 0 (pos 0) (pos 7) (pos 65536) (pos 65536) (pos 0)) ≡ false
unfolding reading_of sound_record raw_of ones ones_in
mtu-above = refl

mtu-between : sounds (ranged 0 (pos 0) (pos 7) (pos 65536) (pos 112) (pos 0)) ≡ false
unfolding reading_of sound_record raw_of ones ones_in
mtu-between = refl

-- every id, the lowest and the highest too (R-8)
initial-lowest : sounds (ranged 0 (pos 0) (negsuc 2147483647) (pos 65536) (pos 96) (pos 0)) ≡ true
unfolding reading_of sound_record raw_of ones ones_in
initial-lowest = refl

initial-highest : sounds (ranged 0 (pos 0) (pos 2147483647) (pos 65536) (pos 96) (pos 0)) ≡ true
unfolding reading_of sound_record raw_of ones ones_in
initial-highest = refl

-- no negative count
count-highest : sounds (ranged 0 (pos 2147483647) (pos 7) (pos 65536) (pos 96) (pos 0)) ≡ true
unfolding reading_of sound_record raw_of ones ones_in
count-highest = refl

count-below : sounds (ranged 0 (negsuc 0) (pos 7) (pos 65536) (pos 96) (pos 0)) ≡ false
unfolding reading_of sound_record raw_of ones ones_in
count-below = refl

-- 0 to 2^62
limit-highest : sounds (ranged 0 (pos 0) (pos 7) (pos 65536) (pos 96) (pos 4611686018427387904)) ≡ true
unfolding reading_of sound_record raw_of ones ones_in
limit-highest = refl

limit-above : sounds (ranged 0 (pos 0) (pos 7) (pos 65536) (pos 96) (pos 4611686018427387905)) ≡ false
unfolding reading_of sound_record raw_of ones ones_in
limit-above = refl

limit-below : sounds (ranged 0 (pos 0) (pos 7) (pos 65536) (pos 96) (negsuc 0)) ≡ false
unfolding reading_of sound_record raw_of ones ones_in
limit-below = refl

-- the active tail's offset: a multiple of 32, at most 2147483647
offset-highest : sounds (ranged 2147483616 (pos 0) (pos 7) (pos 65536) (pos 96) (pos 0)) ≡ true
unfolding reading_of sound_record raw_of ones ones_in
offset-highest = refl

offset-above : sounds (ranged 2147483648 (pos 0) (pos 7) (pos 65536) (pos 96) (pos 0)) ≡ false
unfolding reading_of sound_record raw_of ones ones_in
offset-above = refl

offset-between : sounds (ranged 8 (pos 0) (pos 7) (pos 65536) (pos 96) (pos 0)) ≡ false
unfolding reading_of sound_record raw_of ones ones_in
offset-between = refl

-- a lent log of exactly three terms
log-exact : sound (reading (tail_at 0)) 196608 ≡ true
unfolding reading_of sound_record sound raw_of ones ones_in
log-exact = refl

log-short : sound (reading (tail_at 0)) 196607 ≡ false
unfolding reading_of sound_record sound raw_of ones ones_in
log-short = refl

-- the record of a refused opening
no_record_lem : sounds no_record ≡ false
unfolding no_record reading_of sound_record ones ones_in
no_record_lem = refl

-- ---- the assembler: a begin frame drops the 8 bytes that its session held, an end frame joins them

abbrev holding-8 : Sessions
holding-8 = record { count = 1; ids = pos 5 ∷ replicate 15 (pos 0); held = 8 ∷ replicate 15 0 }

begin-drops : joining holding-8 (pos 5) 128 4 16 ≡ Join 0 0
unfolding joining place_in
begin-drops = refl

end-joins : joining holding-8 (pos 5) 64 4 16 ≡ Complete 0 8
unfolding joining place_in
end-joins = refl

-- ---- a length word: free, being written with its size, finished with its length, sound or not

length-0 : frame_length_told (frame_length_of 0) ≡ is (pos 0) (pos 0 ∷ [])
unfolding frame_length_of
length-0 = refl

-- the bits of -1, -5 and -2147483648
writing-1 : frame_length_told (frame_length_of 4294967295) ≡ is (pos 0) (pos 1 ∷ pos 1 ∷ [])
unfolding frame_length_of
writing-1 = refl

writing-5 : frame_length_told (frame_length_of 4294967291) ≡ is (pos 0) (pos 1 ∷ pos 5 ∷ [])
unfolding frame_length_of
writing-5 = refl

writing-largest : frame_length_told (frame_length_of 2147483648) ≡ is (pos 0) (pos 1 ∷ pos 2147483648 ∷ [])
unfolding frame_length_of
writing-largest = refl

finished-5 : frame_length_told (frame_length_of 5) ≡ is (pos 0) (pos 2 ∷ pos 5 ∷ [])
unfolding frame_length_of
finished-5 = refl

finished-largest : frame_length_told (frame_length_of 2147483647) ≡ is (pos 0) (pos 2 ∷ pos 2147483647 ∷ [])
unfolding frame_length_of
finished-largest = refl

-- ---- positions

-- an offset over the term length is cut to it, one below is not
offset-cut : term_offset_of (raw_of 7 65600) 65536 ∷ term_offset_of (raw_of 7 65504) 65536 ∷ [] ≡ 65536 ∷ 65504 ∷ []
unfolding raw_of
offset-cut = refl

-- the window is the limit less the position, of either sign
window-up : positioned_told (window_call (record_at (tails_at 64) (pos 7) 96 0 100 false)) ≡ is (pos 0) (pos 36 ∷ [])
unfolding open_record reading_of sound_record raw_of ones ones_in
window-up = refl

window-down : positioned_told (window_call (record_at (tails_at 64) (pos 7) 96 0 0 false)) ≡ is (pos 0) (negsuc 63 ∷ [])
unfolding open_record reading_of sound_record raw_of ones ones_in
window-down = refl

module _ (log : List ℕ) (full : length log ≡ 196608) where
  -- ---- an append at another term: 13, and the tail has moved

  stray : appended_told (unfragmented_reply (tail_at 0) log (pos 0) [] (pos 8)).answer ≡ is (pos 13) []
  unfolding unfragmented_course course reading_of sound_record sound raw_of ones ones_in
  stray = rw full

  stray-moves : (unfragmented_reply (tail_at 0) log (pos 0) [] (pos 8)).next ≡ tail_at 32
  unfolding unfragmented_course course reading_of sound_record sound raw_of ones ones_in with_tail changed
  stray-moves = rw full

  -- ---- set_position, from position 64

  abbrev at64 : Image
  at64 = new_image (pos 64) (pos 5)

  abbrev closed64 : Image
  closed64 = record { position = pos 64; session = pos 5; closed = true; eos = true }

  lower : outcome_told (set_position_of (tail_at 0) log at64 (pos 32)).answer ≡ is (pos 15) []
  unfolding set_position_of readable reachable reading_of sound_record sound raw_of ones ones_in
  lower = rw full

  past-the-term : outcome_told (set_position_of (tail_at 0) log at64 (pos 65568)).answer ≡ is (pos 15) []
  unfolding set_position_of readable reachable reading_of sound_record sound raw_of ones ones_in
  past-the-term = rw full

  between : outcome_told (set_position_of (tail_at 0) log at64 (pos 72)).answer ≡ is (pos 16) []
  unfolding set_position_of readable reachable reading_of sound_record sound raw_of ones ones_in
  between = rw full

  -- 15 before 16
  lower-between : outcome_told (set_position_of (tail_at 0) log at64 (pos 40)).answer ≡ is (pos 15) []
  unfolding set_position_of readable reachable reading_of sound_record sound raw_of ones ones_in
  lower-between = rw full

  to_the_end : (set_position_of (tail_at 0) log at64 (pos 65536)).next ≡ new_image (pos 65536) (pos 5)
  unfolding set_position_of readable reachable reading_of sound_record sound raw_of ones ones_in
  to_the_end = rw full

  -- on a closed image it does nothing, whatever the position
  closed-stays : (set_position_of (tail_at 0) log closed64 (pos 40)).next ≡ closed64
  unfolding set_position_of readable reachable reading_of sound_record sound raw_of ones ones_in
  closed-stays = rw full

  closed-done : outcome_told (set_position_of (tail_at 0) log closed64 (pos 40)).answer ≡ is (pos 0) []
  unfolding set_position_of readable reachable reading_of sound_record sound raw_of ones ones_in
  closed-done = rw full

  -- ---- a read at the term's end reads nothing; past it, and between boundaries, it is refused

  read-at-end : read_told (read_of (tail_at 0) log (pos 0) (pos 65536) (pos 1) (replicate 2 (pos 0))) ≡ is (pos 0) (pos 65536 ∷ pos 0 ∷ [])
  unfolding read_of read_verdict walk reading_of sound_record sound raw_of ones ones_in
  read-at-end = rw full

  read-past-end : read_told (read_of (tail_at 0) log (pos 0) (pos 65568) (pos 1) (replicate 2 (pos 0))) ≡ is (pos 1) []
  unfolding read_of read_verdict reading_of sound_record sound raw_of ones ones_in
  read-past-end = refl

  -- ---- is_end_of_stream: at the end of the stream, and before it; of a closed image the flag kept

  abbrev ending : ℤ → LogRecord
  ending p =
      record {
        tails = tails_at 64;
        active_term_count = pos 0;
        initial_term_id = pos 7;
        term_length = pos 65536;
        mtu_length = pos 96;
        session_id = pos 5;
        stream_id = pos 6;
        is_connected = pos 1;
        publication_limit = pos 0;
        end_of_stream_position = p;
        is_closed = false;
        slowest_position = pos 0;
        is_cleared = false ∷ true ∷ true ∷ [];
        active_transport_count = pos 0;
        correlation_id = pos 0;
        page_size = pos 0;
      }

  at-the-end : end_told (end_of_stream_of (ending (pos 64)) log at64) ≡ is (pos 0) (pos 1 ∷ [])
  unfolding end_of_stream_of readable reading_of sound_record sound raw_of ones ones_in
  at-the-end = rw full

  before-the-end : end_told (end_of_stream_of (ending (pos 65)) log at64) ≡ is (pos 0) (pos 0 ∷ [])
  unfolding end_of_stream_of readable reading_of sound_record sound raw_of ones ones_in
  before-the-end = rw full

  kept-at-closing : end_told (end_of_stream_of (ending (pos 65)) log closed64) ≡ is (pos 0) (pos 1 ∷ [])
  unfolding end_of_stream_of readable reading_of sound_record sound raw_of ones ones_in
  kept-at-closing = rw full

  closing-keeps : (close_image_of (ending (pos 65)) log at64).next ≡ record { position = pos 64; session = pos 5; closed = true; eos = false }
  unfolding close_image_of reading_of sound_record sound raw_of ones ones_in
  closing-keeps = rw full

-- ---- a data frame of 42 at 64, session 8, term id 9

module _ (rest : List ℕ) (full : length rest ≡ 196480) where
  abbrev framed : List ℕ
  framed = replicate 64 0 ++ (le4 42 ++ (0 ∷ 192 ∷ 1 ∷ 0 ∷ (le4 64 ++ (le4 8 ++ (le4 6 ++ (le4 9 ++ (replicate 40 0 ++ rest)))))))

  -- an abort hands the fragment out and counts none: no fragments, one entry
  abort-counts-none : polled_told (controlled_poll_of (tail_at 128) framed (new_image (pos 64) (pos 5)) (replicate 2 (pos 0)) (1 ∷ []) (pos 1)).answer ≡ is (pos 0) (pos 0 ∷ pos 1 ∷ [])
  unfolding controlled_poll_of good_actions poll_verdict readable frame_at frame_length_of walk reading_of sound_record sound raw_of ones ones_in le4 u16 u32
  abort-counts-none = simp full

  -- offset, length, the image's own session, the frame's term id
  block : block_told (block_poll_of (tail_at 128) framed (new_image (pos 64) (pos 99)) (pos 64)).answer ≡ is (pos 0) (pos 64 ∷ pos 64 ∷ pos 99 ∷ pos 9 ∷ [])
  unfolding block_poll_of poll_verdict readable frame_at frame_length_of scan_from reading_of sound_record sound raw_of ones ones_in le4 u16 u32
  block = simp full

  -- the frame length reader: nothing at 0, the frame's length at 64; an offset between frames and a partition 3 are no places
  length_none : length_read_told (length_call (tail_at 128) framed (pos 0) (pos 0)) ≡ is (pos 0) (pos 0 ∷ [])
  unfolding length_call header_verdict frame_length_of reading_of sound_record sound raw_of ones ones_in le4 u32
  length_none = simp full

  length-42 : length_read_told (length_call (tail_at 128) framed (pos 0) (pos 64)) ≡ is (pos 0) (pos 2 ∷ pos 42 ∷ [])
  unfolding length_call header_verdict frame_length_of reading_of sound_record sound raw_of ones ones_in le4 u32
  length-42 = simp full

  length-between : length_read_told (length_call (tail_at 128) framed (pos 0) (pos 72)) ≡ is (pos 1) []
  unfolding length_call header_verdict reading_of sound_record raw_of ones ones_in
  length-between = refl

  length-no-partition : length_read_told (length_call (tail_at 128) framed (pos 3) (pos 64)) ≡ is (pos 1) []
  unfolding length_call header_verdict reading_of sound_record raw_of ones ones_in
  length-no-partition = refl

-- ---- a claim of 10 bytes at 0, still open: its length is that of -42

module _ (rest : List ℕ) (full : length rest ≡ 196480) where
  abbrev opened : List ℕ
  opened = le4 4294967254 ++ (0 ∷ 192 ∷ 1 ∷ 0 ∷ (replicate 120 0 ++ rest))

  length-open : length_read_told (length_call (tail_at 64) opened (pos 0) (pos 0)) ≡ is (pos 0) (pos 1 ∷ pos 42 ∷ [])
  unfolding length_call header_verdict frame_length_of reading_of sound_record sound raw_of ones ones_in le4 u32
  length-open = simp full

  -- a gap that starts on it says so, and one that starts on the free place behind it does not
  gap-on-claim : gap_told (gap_of (tail_at 64) opened (pos 0) (pos 7) (pos 0) (pos 96)) ≡ is (pos 0) (pos 0 ∷ pos 7 ∷ pos 0 ∷ pos 96 ∷ pos 1 ∷ [])
  unfolding gap_of gap_judge scan_verdict rebuild gap_length reading_of sound_record sound raw_of ones ones_in le4 u16 u32 frame_at frame_length_of
  gap-on-claim = simp full

  gap-on-free : gap_told (gap_of (tail_at 64) opened (pos 0) (pos 7) (pos 64) (pos 96)) ≡ is (pos 0) (pos 64 ∷ pos 7 ∷ pos 64 ∷ pos 32 ∷ pos 0 ∷ [])
  unfolding gap_of gap_judge scan_verdict rebuild gap_length reading_of sound_record sound raw_of ones ones_in le4 u16 u32 frame_at frame_length_of
  gap-on-free = simp full

-- ---- bad frames by place (R-7 of document 02): a length word at 64 that no frame there has

module _ (rest : List ℕ) (full : length rest ≡ 196540) where
  abbrev bad : ℕ → List ℕ
  bad w = replicate 64 0 ++ (le4 w ++ rest)

  abbrev refused64 : ℤ → Told
  refused64 number = record { number = number; values = []; place = 64 }

  scan-short : scanned_told (scan_of (tail_at 128) (bad 5) (pos 0) (pos 64) (pos 65536)) ≡ refused64 (pos 22)
  unfolding scan_of scan_judge scan_verdict unsound_frame reading_of sound_record sound raw_of ones ones_in le4 u32 frame_at frame_length_of
  scan-short = simp full

  -- 65,472 bytes are left of the term
  scan-past : scanned_told (scan_of (tail_at 128) (bad 65473) (pos 0) (pos 64) (pos 65536)) ≡ refused64 (pos 23)
  unfolding scan_of scan_judge scan_verdict unsound_frame reading_of sound_record sound raw_of ones ones_in le4 u32 frame_at frame_length_of
  scan-past = simp full

  -- the place is the offset in the term, three terms on too
  poll-short : polled_told (poll_of (tail_at 128) (bad 31) (new_image (pos 196672) (pos 5)) (replicate 2 (pos 0)) (pos 1)).answer ≡ refused64 (pos 22)
  unfolding poll_of poll_verdict readable unsound_frame reading_of sound_record sound raw_of ones ones_in le4 u32 frame_at frame_length_of
  poll-short = simp full

  assemble-past : assembled_told (assemble_of (tail_at 128) (bad 65473) fresh [] (pos 0) (pos 64)).answer ≡ refused64 (pos 23)
  unfolding assemble_of assemble_verdict unsound_frame reading_of sound_record sound raw_of ones ones_in le4 u32 frame_length_of
  assemble-past = simp full
