-- What C keeps and lends by a pointer, as words of 64 bits: the bytes of the struct as they lie, lowest byte first. A field of 32 bits is a half of a
-- word; a flag is a byte, yes unless it is 0; bytes that no field has are a gap, and no call but those that fill the whole struct writes them.
--
--    word     record                                    image                                replay
--       0     tail of partition 0                       position                             image, 2 words
--       1     tail of partition 1                       session | closed, eos, gap of 2      (low half | bytes 4, 5, 6 and 7)
--       2     tail of partition 2                                                            assembler, 25 words
--       3     term count | initial term id
--       4     term length | mtu                         assembler
--       5     session | stream                          0         sessions entered
--       6     connected | gap                           1 to 8    their ids, two a word
--       7     publication limit                         9 to 24   the bytes that each holds
--       8     end of stream
--       9     closed (lowest byte), gap of 7
--      10     the slowest reader's position
--      11     marks of cleared partitions (bits 0, 1 and 2), gap of 61 bits
--      12     transports | page size
--      13     correlation id
--
-- `low | high` are the halves. The C header declares the structs; tests/c/layout.c and the Rust crate's layout.rs hold size and offsets to this.
-- Read Theorems next: what is packed is unpacked again, and a refusal leaves every byte.
use Rattle.std.specs.Prelude.{ℕ, ◌+◌, ◌*◌, ◌/◌, ◌%◌, Bool, true, false, cond, not, List, [], ◌∷◌, eqb, ℤ, pos, get_or, set, Result, Ok, Err, ⊤}
use Rattle.model.specs.declared.Error.{Error}
use Rattle.std.specs.Int.{w64}
use Rattle.std.proofs.Common.{to_z}
use Rattle.model.specs.Bytes.{word, long}
use Rattle.model.specs.LogBufferDescriptor.{term_id_of, changed}
use Rattle.model.specs.declared.LogRecord.{LogRecord}
use Rattle.model.specs.declared.Claim.{Claim}
use Rattle.model.specs.declared.RecordReply.{RecordReply}
use Rattle.model.specs.Image.{Image as ImageState}
use Rattle.model.specs.FragmentAssembler.{Sessions}
use Rattle.model.specs.Replay.{ReplayState}
use Rattle.logbuffer.specs.declared.fragment_assembler.FragmentAssembler.{FragmentAssembler}
use Rattle.image.specs.declared.Image.{Image}
use Rattle.replay.specs.declared.Replay.{Replay}

-- ---- parts of a word

abbrev pub at : List ℤ → ℕ → ℤ
at w i = get_or w i (pos 0)

-- the two halves, and a word of two
abbrev pub low_of : ℤ → ℤ
low_of w = term_id_of (to_z w64 (long w % 4294967296 * 4294967296))

abbrev pub high_of : ℤ → ℤ
high_of w = term_id_of w

abbrev pub pair_of : ℤ → ℤ → ℤ
pair_of low high = to_z w64 (word low + word high * 4294967296)

-- a flag in the lowest byte of such bits
abbrev pub flag_of : ℕ → Bool
flag_of n = not (eqb (n % 256) 0)

-- the lowest bit of such bits, and a mark as a bit
abbrev pub bit_of : ℕ → Bool
bit_of n = not (eqb (n % 2) 0)

abbrev pub bit_number : Bool → ℕ
bit_number b = cond b 1 0

-- a count, which has no sign
abbrev pub count_out : ℕ → ℤ
count_out n = to_z w64 n

-- ---- the record

abbrev pub record_in : List ℤ → LogRecord
record_in w =
    record {
      tails = at w 0 ∷ at w 1 ∷ at w 2 ∷ [];
      active_term_count = low_of (at w 3);
      initial_term_id = high_of (at w 3);
      term_length = low_of (at w 4);
      mtu_length = high_of (at w 4);
      session_id = low_of (at w 5);
      stream_id = high_of (at w 5);
      is_connected = low_of (at w 6);
      publication_limit = at w 7;
      end_of_stream_position = at w 8;
      is_closed = flag_of (long (at w 9));
      slowest_position = at w 10;
      is_cleared = bit_of (long (at w 11)) ∷ bit_of (long (at w 11) / 2) ∷ bit_of (long (at w 11) / 4) ∷ [];
      active_transport_count = low_of (at w 12);
      correlation_id = at w 13;
      page_size = high_of (at w 12);
    }

-- the marks in the three lowest bits, beside bits that are kept
abbrev pub mark_bit : LogRecord → ℕ → ℕ
mark_bit r k = bit_number (get_or r.is_cleared k false)

abbrev pub marks_word : ℕ → LogRecord → ℤ
marks_word n r = to_z w64 (n / 8 * 8 + (mark_bit r 0 + 2 * mark_bit r 1 + 4 * mark_bit r 2))

-- after a clearing
abbrev pub marks_out : List ℤ → LogRecord → List ℤ
marks_out w r = set w 11 (marks_word (long (at w 11)) r)

-- after the slowest reader's rise
abbrev pub slowest_out : List ℤ → LogRecord → List ℤ
slowest_out w r = set w 10 r.slowest_position

-- after an append or a rotation: tails and count, then the marks
abbrev pub tails_out : List ℤ → LogRecord → List ℤ
tails_out w r = set (set (set (set w 0 (at r.tails 0)) 1 (at r.tails 1)) 2 (at r.tails 2)) 3 (pair_of r.active_term_count r.initial_term_id)

abbrev pub record_out : List ℤ → LogRecord → List ℤ
record_out w r = marks_out (tails_out w r) r

-- a record with one tail moved: what is written out of it after an append that fits
abbrev pub tail_moved : LogRecord → ℕ → ℤ → LogRecord
tail_moved r k tail = changed r (set r.tails k tail) r.active_term_count r.publication_limit r.is_closed

-- after a limit change
abbrev pub limit_out : List ℤ → LogRecord → List ℤ
limit_out w r = set w 7 r.publication_limit

-- after closing: the flag is set; as it was where it was closed already, or is not now, being refused
abbrev pub closed_out : List ℤ → LogRecord → List ℤ
closed_out w r =
    cond (flag_of (long (at w 9))) w
    (cond r.is_closed (set w 9 (to_z w64 (long (at w 9) + 1))) w)

-- after a call that gives a whole record: every word, the gaps 0; opening, refused, leaves it as it was
abbrev pub record_filled : List ℤ → LogRecord → List ℤ
record_filled w r =
    set (set (set (set (set (set (set (set (set (set (record_out w r)
    4 (pair_of r.term_length r.mtu_length))
    5 (pair_of r.session_id r.stream_id))
    6 (pair_of r.is_connected (pos 0)))
    7 r.publication_limit)
    8 r.end_of_stream_position)
    9 (count_out (bit_number r.is_closed)))
    10 r.slowest_position)
    11 (marks_word 0 r))
    12 (pair_of r.active_transport_count r.page_size))
    13 r.correlation_id

abbrev pub opened_by : List ℤ → LogRecord → Result ⊤ Error → List ℤ
opened_by w r (Ok _) = record_filled w r
opened_by w r (Err e) = w

abbrev pub opened_out : List ℤ → RecordReply → List ℤ
opened_out w o = opened_by w o.next o.answer

-- ---- an image

abbrev pub image_at : ℤ → ℤ → Image
image_at position w =
    record {
      position = position;
      session_id = low_of w;
      is_closed = flag_of (long w / 4294967296);
      is_eos = flag_of (long w / 1099511627776);
    }

abbrev pub image_in : List ℤ → Image
image_in w = image_at (at w 0) (at w 1)

-- after a call that moves: the position
abbrev pub image_out : List ℤ → ImageState → List ℤ
image_out w i = set w 0 i.position

-- After closing: both flags are set as they are then; as it was where it was closed already, or is not now, being refused.
abbrev pub shut_bits : ℕ → Bool → ℕ
shut_bits n eos = n % 4294967296 + (4294967296 + (cond eos 1099511627776 0 + n / 281474976710656 * 281474976710656))

abbrev pub shut_out : List ℤ → ImageState → List ℤ
shut_out w i =
    cond (flag_of (long (at w 1) / 4294967296)) w
    (cond i.closed (set w 1 (to_z w64 (shut_bits (long (at w 1)) i.eos))) w)

-- a new one: both words, its flags and the gap 0
abbrev pub image_filled : List ℤ → ImageState → List ℤ
image_filled w i = set (set w 0 i.position) 1 (pair_of i.session (pos 0))

-- ---- an assembler, from a word on: it has no gap, so that every word is written

abbrev pub ids_from : List ℤ → ℕ → List ℤ
ids_from w i =
    low_of (at w i) ∷ high_of (at w i) ∷ low_of (at w (i + 1)) ∷ high_of (at w (i + 1))
    ∷ low_of (at w (i + 2)) ∷ high_of (at w (i + 2)) ∷ low_of (at w (i + 3)) ∷ high_of (at w (i + 3))
    ∷ low_of (at w (i + 4)) ∷ high_of (at w (i + 4)) ∷ low_of (at w (i + 5)) ∷ high_of (at w (i + 5))
    ∷ low_of (at w (i + 6)) ∷ high_of (at w (i + 6)) ∷ low_of (at w (i + 7)) ∷ high_of (at w (i + 7)) ∷ []

abbrev pub held_from : List ℤ → ℕ → List ℕ
held_from w i =
    long (at w i) ∷ long (at w (i + 1)) ∷ long (at w (i + 2)) ∷ long (at w (i + 3))
    ∷ long (at w (i + 4)) ∷ long (at w (i + 5)) ∷ long (at w (i + 6)) ∷ long (at w (i + 7))
    ∷ long (at w (i + 8)) ∷ long (at w (i + 9)) ∷ long (at w (i + 10)) ∷ long (at w (i + 11))
    ∷ long (at w (i + 12)) ∷ long (at w (i + 13)) ∷ long (at w (i + 14)) ∷ long (at w (i + 15)) ∷ []

abbrev pub assembler_from : List ℤ → ℕ → FragmentAssembler
assembler_from w i = record { count = long (at w i); ids = ids_from w (i + 1); held = held_from w (i + 9) }

abbrev pub ids_to : List ℤ → ℕ → List ℤ → List ℤ
ids_to w i ids =
    set (set (set (set (set (set (set (set w i (pair_of (at ids 0) (at ids 1)))
    (i + 1) (pair_of (at ids 2) (at ids 3)))
    (i + 2) (pair_of (at ids 4) (at ids 5)))
    (i + 3) (pair_of (at ids 6) (at ids 7)))
    (i + 4) (pair_of (at ids 8) (at ids 9)))
    (i + 5) (pair_of (at ids 10) (at ids 11)))
    (i + 6) (pair_of (at ids 12) (at ids 13)))
    (i + 7) (pair_of (at ids 14) (at ids 15))

abbrev pub held_to : List ℤ → ℕ → List ℕ → List ℤ
held_to w i held =
    set (set (set (set (set (set (set (set (set (set (set (set (set (set (set (set w i (count_out (get_or held 0 0)))
    (i + 1) (count_out (get_or held 1 0)))
    (i + 2) (count_out (get_or held 2 0)))
    (i + 3) (count_out (get_or held 3 0)))
    (i + 4) (count_out (get_or held 4 0)))
    (i + 5) (count_out (get_or held 5 0)))
    (i + 6) (count_out (get_or held 6 0)))
    (i + 7) (count_out (get_or held 7 0)))
    (i + 8) (count_out (get_or held 8 0)))
    (i + 9) (count_out (get_or held 9 0)))
    (i + 10) (count_out (get_or held 10 0)))
    (i + 11) (count_out (get_or held 11 0)))
    (i + 12) (count_out (get_or held 12 0)))
    (i + 13) (count_out (get_or held 13 0)))
    (i + 14) (count_out (get_or held 14 0)))
    (i + 15) (count_out (get_or held 15 0))

abbrev pub assembler_to : List ℤ → ℕ → Sessions → List ℤ
assembler_to w i s = held_to (ids_to (set w i (count_out s.count)) (i + 1) s.ids) (i + 9) s.held

abbrev pub assembler_in : List ℤ → FragmentAssembler
assembler_in w = assembler_from w 0

abbrev pub assembler_out : List ℤ → Sessions → List ℤ
assembler_out w s = assembler_to w 0 s

-- ---- a replay

abbrev pub replay_in : List ℤ → Replay
replay_in w = record { image = image_in w; assembler = assembler_from w 2 }

-- after a message: where its image stands, and its assembler
abbrev pub replay_out : List ℤ → ReplayState → List ℤ
replay_out w s = assembler_to (image_out w s.image) 2 s.sessions

-- a new one: every word, its flags and the gap 0
abbrev pub replay_filled : List ℤ → ReplayState → List ℤ
replay_filled w s = assembler_to (image_filled w s.image) 2 s.sessions

-- ---- a claim, two words of a reply: partition | offset, length | term id

abbrev pub claim_words : Claim → List ℤ
claim_words c = pair_of c.partition c.offset ∷ pair_of c.length c.term_id ∷ []

-- and back; `claim-back` (proofs/Steps.antt) is the law that it is the claim
abbrev pub claim_in : ℤ → ℤ → Claim
claim_in first second = record { partition = low_of first; offset = high_of first; length = low_of second; term_id = high_of second }
