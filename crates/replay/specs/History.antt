-- A season, and demand 3, for the running functions, from their contracts down. A caller sees of each function that it answers and leaves what its
-- definition does, for refused calls too:
--
--   opening       publication::opening::open_log                           open_of, open_bytes
--   offer         publication::offer                                       offer_of, offer_bytes
--   claim         publication::try_claim                                   claim_of, claim_bytes
--   writing       logbuffer::buffer_claim::write                           write_of, write_bytes
--   commit        logbuffer::buffer_claim::commit                          commit_of, commit_bytes
--   abort         logbuffer::buffer_claim::abort                           commit_of, abort_bytes
--   limit change  publication::positions::set_publication_limit            limit_of
--   close         publication::positions::close                            close_of
--   clearing      publication::clearing::clear_partition                   clear_of, clear_bytes
--   slowest       publication::clearing::set_slowest_position              raise_of
--   poll          image::Image::new, poll                                  new_image, poll_of
--   assembler     logbuffer::fragment_assembler::FragmentAssembler::new, on_fragment   fresh, assemble_of
--   replay        replay::Replay::new, next                                new_image and fresh, next_of
--   batch         replay::Replay::new, next_batch                          new_image and fresh, batch_of
--   count         replay::count                                            count_of
--
-- `Opened`, `Called` and `Wrote` are what the callers of the writing functions see, `Polling`, `Ran`, `Batching` and a count what those of
-- the reading functions see. `ReplaysHistory` says what holds then, whatever the calls were: of a season, and of demand 3's own polls. A body that was lent by `body` and written by hand is left
-- with other bytes, as one call of `write` with these bytes leaves it.
use Rattle.std.specs.Prelude.{ℕ, zero, suc, ◌+◌, ◌-◌, ◌*◌, ◌/◌, ◌≤◌, ◌<◌, ◌≡◌, Bool, true, false, cond, ◌⊎◌, List, [], ◌∷◌, ◌++◌, eqb, length, take, drop, get_or, ℤ, pos, Result, Ok, Err, ⊤}
use Rattle.model.specs.declared.Error.{Error}
use Rattle.std.specs.Int.Signed.{lt_z}
use Rattle.model.specs.declared.LogRecord.{LogRecord}
use Rattle.model.specs.declared.Claim.{Claim}
use Rattle.model.specs.declared.RecordReply.{RecordReply}
use Rattle.model.specs.declared.OfferReply.{OfferReply}
use Rattle.model.specs.declared.ClaimReply.{ClaimReply}
use Rattle.model.specs.declared.Replayed.TheVariants.{End}
use Rattle.model.specs.Bytes.{long}
use Rattle.model.specs.LogBufferDescriptor.{reading, publisher_position, partition_of}
use Rattle.model.specs.BufferClaim.{write_of, write_bytes, commit_of, commit_bytes, abort_bytes}
use Rattle.model.specs.Publication.{open_of, open_bytes, offer_of, offer_bytes, claim_of, claim_bytes, limit_of, close_of, clear_of, clear_bytes, raise_of}
use Rattle.model.specs.Rule.{is_trip}
use Rattle.model.specs.TermReader.{natural}
use Rattle.model.specs.Image.{new_image, poll_of}
use Rattle.model.specs.FragmentAssembler.{fresh, part_length, assemble_of}
use Rattle.model.specs.History.{Call, offer, claim, fill, commit, abort, set_limit, close, clear, raise, Answer, offered, claimed, outcome, World, Shape, size_all, told, messages, total, learn, Terms, no_terms, tell_terms, told_terms, Given}
use Rattle.model.specs.Replay.{Polls, handed_out, entries_of, is_below, next_of, message_by}
use Rattle.model.specs.Demand.{Ends, Answered, from, Allowed, Holds, shape}
use Rattle.image.specs.declared.Image.{Image}
use Rattle.image.specs.declared.PollReply.{PollReply}
use Rattle.image.specs.Images.{state_of as image_state, image_of, poll_reply_of}
use Rattle.logbuffer.specs.declared.fragment_assembler.FragmentAssembler.{FragmentAssembler}
use Rattle.logbuffer.specs.declared.fragment_assembler.AssemblyReply.{AssemblyReply}
use Rattle.logbuffer.specs.Assembler.{sessions_of}
use Rattle.replay.specs.declared.Replay.{Replay}
use Rattle.replay.specs.declared.NextReply.{NextReply}
use Rattle.replay.specs.declared.BatchReply.{BatchReply}
use Rattle.replay.specs.declared.Counted.{Counted}
use Rattle.replay.specs.Replays.{state_of, next_reply_of, count_of}
use Rattle.replay.specs.Batches.{batch_reply_of, batch_of}

-- ---- the writing side

-- an opening that was done, and the record and the log that it leaves
pub data Opened (lent : List ℕ) (term mtu initial session stream : ℤ) : World → Type 0 where
  by-opening : {r : RecordReply} {log : List ℕ} → r ≡ open_of lent term mtu initial session stream → r.answer ≡ Ok tt
      → log ≡ open_bytes lent term mtu initial session stream → Opened lent term mtu initial session stream (record { record· = r.next; log = log })

-- one call on a record and a log, its answer, and what it leaves
pub data Called (w : World) : Call → Answer → World → Type 0 where
  by-offer : {m : List ℕ} {reserved : ℤ} {r : OfferReply} {log : List ℕ} → r ≡ offer_of w.record· w.log m → log ≡ offer_bytes w.record· w.log m reserved
      → Called w (offer m reserved) (offered (is_trip r.rule) r.answer) (record { record· = r.next; log = log })
  by-claim : {n : ℤ} {r : ClaimReply} {log : List ℕ} → r ≡ claim_of w.record· w.log n → log ≡ claim_bytes w.record· w.log n
      → Called w (claim n) (claimed (is_trip r.rule) r.answer) (record { record· = r.next; log = log })
  by-write : {k : Claim} {b : List ℕ} {r : Result ⊤ Error} {log : List ℕ} → r ≡ write_of w.record· w.log k b → log ≡ write_bytes w.record· w.log k b
      → Called w (fill k b) (outcome r) (record { record· = w.record·; log = log })
  by-commit : {k : Claim} {r : Result ⊤ Error} {log : List ℕ} → r ≡ commit_of w.record· w.log k → log ≡ commit_bytes w.record· w.log k
      → Called w (commit k) (outcome r) (record { record· = w.record·; log = log })
  by-abort : {k : Claim} {r : Result ⊤ Error} {log : List ℕ} → r ≡ commit_of w.record· w.log k → log ≡ abort_bytes w.record· w.log k
      → Called w (abort k) (outcome r) (record { record· = w.record·; log = log })
  by-limit : {n : ℤ} {r : RecordReply} → r ≡ limit_of w.record· n → Called w (set_limit n) (outcome r.answer) (record { record· = r.next; log = w.log })
  by-close : {r : RecordReply} → r ≡ close_of w.record· → Called w close (outcome r.answer) (record { record· = r.next; log = w.log })
  by-clear : {k : ℤ} {r : RecordReply} {log : List ℕ} → r ≡ clear_of w.record· w.log k → log ≡ clear_bytes w.record· w.log k
      → Called w (clear k) (outcome r.answer) (record { record· = r.next; log = log })
  by-raise : {p : ℤ} {r : RecordReply} → r ≡ raise_of w.record· p → Called w (raise p) (outcome r.answer) (record { record· = r.next; log = w.log })

-- calls with their answers, one after another: each gets the record and the log that the last one left, which nobody else writes
pub data Wrote : World → List (Call × Answer) → World → Type 0 where
  none : {w : World} → Wrote w [] w
  more : {w v u : World} {x : Call} {a : Answer} {ts : List (Call × Answer)} → Called w x a v → Wrote v ts u → Wrote w ((x, a) ∷ ts) u

-- writings, commits and aborts get only claim records that claims on this log answered, and none of a term that is cleared
unfoldable pub AllAnswered : Shape → List Claim → Terms → List (Call × Answer) → Type 0
AllAnswered c ks s [] = Unit {0}
AllAnswered c ks s (t ∷ ts) = Given c ks s t.0 × AllAnswered c (learn ks t.1) (tell_terms s t.0 t.1) ts

-- ---- polls into an assembler

-- So many entries of partition k, two numbers each, given to the assembler one after another. Before it and after: the bookkeeping, the lent
-- buffer, and the messages handed out so far.
pub data Fed (r : LogRecord) (log : List ℕ) (k : ℕ) : ℕ → List ℤ → FragmentAssembler → List ℕ → List (List ℕ) → FragmentAssembler → List ℕ → List (List ℕ) → Type 0 where
  fed-none : {slots : List ℤ} {a : FragmentAssembler} {b : List ℕ} {out : List (List ℕ)} → Fed r log k zero slots a b out a b out
  fed-more : {n : ℕ} {slots : List ℤ} {a a' : FragmentAssembler} {b b' : List ℕ} {out out' : List (List ℕ)} (reply : AssemblyReply) (left : List ℕ)
      → reply.answer ≡ (assemble_of r log (sessions_of a) b (pos k) (pos (natural (get_or slots 0 (pos 0)) - 32))).answer
      → sessions_of reply.next ≡ (assemble_of r log (sessions_of a) b (pos k) (pos (natural (get_or slots 0 (pos 0)) - 32))).next
      → left ≡ (assemble_of r log (sessions_of a) b (pos k) (pos (natural (get_or slots 0 (pos 0)) - 32))).buffer
      → Fed r log k n (drop 2 slots) reply.next left (out ++ handed_out log (k * (reading r).term) left reply.answer) a' b' out'
      → Fed r log k (suc n) slots a b out a' b' out'

-- Polls from a position by a fresh image into a fresh assembler, each from where the one before it left image, bookkeeping and lent buffer, with any
-- fragment limits and any lent entries. Where `goes` says no of the position nothing is polled, and all stays. A poll's entries lie in the
-- partition of the position that it polled from.
pub record Polling (r : LogRecord) (log : List ℕ) (goes : ℤ → Bool) (from : ℕ) (session : ℤ) (lent : List ℕ) (ps : Polls) : Type 0 where
  pub image : ℕ → Image
  pub assembler : ℕ → FragmentAssembler
  pub buffer : ℕ → List ℕ
  pub out : ℕ → List (List ℕ)
  pub reply : ℕ → PollReply
  pub slots : ℕ → List ℤ
  pub made : (image 0 ≡ image_of (new_image (pos from) session)) × (sessions_of (assembler 0) ≡ fresh)
  pub first : (buffer 0 ≡ lent) × (out 0 ≡ [])
  pub said : (n : ℕ) → reply n ≡ poll_reply_of (poll_of r log (image_state (image n)) (ps.slots n) (ps.limit n))
  pub written : (n : ℕ) → slots n ≡ (poll_of r log (image_state (image n)) (ps.slots n) (ps.limit n)).slots
  pub on : (n : ℕ) → goes (image n).position ≡ true → image (suc n) ≡ (reply n).next
  pub fed : (n : ℕ) → goes (image n).position ≡ true → Fed r log (partition_of (long (image n).position) (reading r).term) (entries_of (reply n).answer) (slots n)
      (assembler n) (buffer n) (out n) (assembler (suc n)) (buffer (suc n)) (out (suc n))
  pub stays : (n : ℕ) → goes (image n).position ≡ false
      → ((image (suc n) ≡ image n) × (assembler (suc n) ≡ assembler n)) × ((buffer (suc n) ≡ buffer n) × (out (suc n) ≡ out n))

-- nothing is polled any more, or at a poll nothing comes and nothing moves
abbrev pub Still : {r : LogRecord} {log : List ℕ} {goes : ℤ → Bool} {from : ℕ} {session : ℤ} {lent : List ℕ} {ps : Polls} → Polling r log goes from session lent ps → ℕ → Type 0
Still {goes = goes} x n = (goes (x.image n).position ≡ false) ⊎ (((x.reply n).answer ≡ Ok (record { fragments = 0; entries = 0 })) × ((x.reply n).next ≡ x.image n))

-- only while below the publisher's position, as document 02 has it of a season; or wherever the polls stand, as document 01 has it
abbrev pub while_below : LogRecord → ℤ → Bool
while_below r p = is_below r p

abbrev pub wherever : ℤ → Bool
wherever p = true

-- ---- message by message

-- a replay as `new` makes it, and the replies of `next`, each taken from where the one before it left replay and lent buffer
pub record Ran (r : LogRecord) (log : List ℕ) (from : ℕ) (session : ℤ) (lent : List ℕ) : Type 0 where
  pub replay : ℕ → Replay
  pub buffer : ℕ → List ℕ
  pub reply : ℕ → NextReply
  pub made : (image_state (replay 0).image ≡ new_image (pos from) session) × (sessions_of (replay 0).assembler ≡ fresh)
  pub first : buffer 0 ≡ lent
  pub said : (i : ℕ) → next_reply_of (reply i) (buffer (suc i)) ≡ next_of r log (state_of (replay i) (buffer i))
  pub on : (i : ℕ) → replay (suc i) ≡ (reply i).next

-- the messages of at most so many replies from reply i on, up to the first that gives none
unfoldable pub gathered : {r : LogRecord} {log : List ℕ} {from : ℕ} {session : ℤ} {lent : List ℕ} → Ran r log from session lent → ℕ → ℕ → List (List ℕ)
gathered x zero i = []
gathered {log = log} x (suc most) i =
    message_by log (state_of (x.replay (suc i)) (x.buffer (suc i))) (x.reply i).answer (gathered x most (suc i))

-- ---- batch by batch

-- a replay as `new` makes it, and the replies of `next_batch`, each taken from where the one before it left replay and lent buffer; `slots`
-- are the numbers that are lent to each, which hold at least one message and pass row 1, and `numbers` what it leaves in them
pub record Batching (r : LogRecord) (log : List ℕ) (from : ℕ) (session : ℤ) (lent : List ℕ) : Type 0 where
  pub replay : ℕ → Replay
  pub buffer : ℕ → List ℕ
  pub slots : ℕ → List ℕ
  pub reply : ℕ → BatchReply
  pub numbers : ℕ → List ℕ
  pub made : (image_state (replay 0).image ≡ new_image (pos from) session) × (sessions_of (replay 0).assembler ≡ fresh)
  pub first : buffer 0 ≡ lent
  pub some : (i : ℕ) → (4 ≤ length (slots i)) × (length (slots i) ≤ 2147483647)
  pub said : (i : ℕ) → batch_reply_of (reply i) (buffer (suc i)) (numbers i) ≡ batch_of r log (state_of (replay i) (buffer i)) (slots i)
  pub on : (i : ℕ) → replay (suc i) ≡ (reply i).next

-- how many messages a batch laid
abbrev pub laid_by : Result ℕ Error → ℕ
laid_by (Ok n) = n
laid_by (Err e) = 0

-- so many messages from message i on, as the numbers say: from where, how many bytes, of the log or of the lent buffer
unfoldable pub laid_out : List ℕ → List ℕ → List ℕ → ℕ → ℕ → List (List ℕ)
laid_out log buffer numbers i zero = []
laid_out log buffer numbers i (suc n) =
    take (get_or numbers (4 * i + 2) 0) (drop (get_or numbers (4 * i + 1) 0) (cond (eqb (get_or numbers (4 * i) 0) 1) log buffer))
    ∷ laid_out log buffer numbers (i + 1) n

-- the messages of the first so many batches, each read before the next batch is asked for
unfoldable pub taken : {r : LogRecord} {log : List ℕ} {from : ℕ} {session : ℤ} {lent : List ℕ} → Batching r log from session lent → ℕ → List (List ℕ)
taken x zero = []
taken {log = log} x (suc n) = taken x n ++ laid_out log (x.buffer (suc n)) (x.numbers n) 0 (laid_by (x.reply n).answer)

-- ---- the demand

-- Any replay of a record and a log from a position gives back these messages: by polls only while below the publisher's position, by `next`, by
-- `next_batch` and by `count`. A replay that has given all answers the end at every call from then on: `next` answers it, a batch lays nothing, and
-- where a batch lays nothing all was given. The reader's session is any number, and the lent buffer may hold anything.
pub record Replays (r : LogRecord) (log : List ℕ) (p : ℕ) (session : ℤ) (lent : List ℕ) (ms : List (List ℕ)) : Type 0 where
  pub polls-end : (ps : Polls) → Allowed ps → (x : Polling r log (while_below r) p session lent ps) → (n : ℕ) × Still x n
  pub polls-give : (ps : Polls) → Allowed ps → (x : Polling r log (while_below r) p session lent ps) (n : ℕ) → Still x n → x.out n ≡ ms
  pub gives : (x : Ran r log p session lent) (most : ℕ) → length ms < most → gathered x most 0 ≡ ms
  pub ends : (x : Ran r log p session lent) (n : ℕ) → length ms ≤ n → (x.reply n).answer ≡ Ok End
  pub batches-give : (x : Batching r log p session lent) (n : ℕ) → length ms ≤ n → taken x n ≡ ms
  pub batches-end : (x : Batching r log p session lent) (n : ℕ) → taken x n ≡ ms → (x.reply n).answer ≡ Ok 0
  pub batches-only : (x : Batching r log p session lent) (n : ℕ) → (x.reply n).answer ≡ Ok 0 → taken x n ≡ ms
  pub counts : (a : Result Counted Error) → a ≡ (count_of r log (pos p) session lent).answer → a ≡ Ok (record { messages = length ms; bytes = total ms })

-- polls from 0 wherever they stand
pub record Polls0 (r : LogRecord) (log : List ℕ) (session : ℤ) (lent : List ℕ) (ms : List (List ℕ)) : Type 0 where
  pub polls-end : (ps : Polls) → Allowed ps → (x : Polling r log wherever 0 session lent ps) → (n : ℕ) × Still x n
  pub polls-give : (ps : Polls) → Allowed ps → (x : Polling r log wherever 0 session lent ps) (n : ℕ) → Still x n → x.out n ≡ ms

-- 0 or a position that was answered, of a term not yet cleared
pub record Begins (c : Shape) (ts : List (Call × Answer)) (p : ℕ) : Type 0 where
  pub told : (p ≡ 0) ⊎ Answered p ts
  pub kept : (told_terms no_terms ts).cleared ≤ p / c.term

-- w is the log as it was opened, ts the calls with their answers, u what they leave
pub record Upheld (w : World) (ts : List (Call × Answer)) (u : World) : Type 0 where
  pub replays : (p : ℕ) → Begins (shape w) ts p → (session : ℤ) (lent : List ℕ) → length lent ≤ 2147483647
      → Holds (shape w) (part_length (length lent)) (from (shape w) p (told (shape w) [] ts))
      → Replays u.record· u.log p session lent (messages (from (shape w) p (told (shape w) [] ts)))
  -- demand 3's own replay: of a stream short of three terms of which none is cleared
  pub short : (told_terms no_terms ts).cleared ≡ 0 → lt_z (publisher_position (reading u.record·)) (pos (3 * (shape w).term)) ≡ true
      → (session : ℤ) (lent : List ℕ) → length lent ≤ 2147483647 → Holds (shape w) (part_length (length lent)) (told (shape w) [] ts)
      → Polls0 u.record· u.log session lent (messages (told (shape w) [] ts))
  pub adds-up : publisher_position (reading u.record·) ≡ pos (size_all (shape w) (told (shape w) [] ts))
  pub ends : Ends (shape w) [] ts

unfoldable pub ReplaysHistory : Type 0
ReplaysHistory =
    (lent : List ℕ) (term mtu initial session stream : ℤ) (w u : World) (ts : List (Call × Answer))
    → Opened lent term mtu initial session stream w → Wrote w ts u → AllAnswered (shape w) [] no_terms ts → Upheld w ts u
