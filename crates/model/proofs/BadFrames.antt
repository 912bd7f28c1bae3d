-- The theorems of specs/BadFrames.antt: each ladder is the old one, rung by rung, and its last rung says 22 or 23 for 17.
use Rattle.std.specs.Prelude.{Result, Ok, Err, ⊤}
use mathlib.Core.Path.{◌≡◌, refl, sym, ap, ◌∙◌}
use mathlib.Core.Logic.{◌⊎◌, inl, inr}
use mathlib.Core.Bool.{Bool, true, false, cond, ◌&&◌, ◌||◌, not}
use Prim.Native.Nat.{ℕ, zero, suc, ◌+◌, ◌-◌, ◌*◌, ◌%◌, min}
use mathlib.Core.List.{List, []}
use native.Mathlib.Omega.{arith}
use lib.Dec.{eqb, ltb}
use lib.ListN.{length, drop}
use lib.IntN.{pos}
use Rattle.model.specs.declared.LogRecord.{LogRecord}
use Rattle.model.specs.declared.Reading.{Reading}
use Rattle.model.specs.declared.Error.{Error}
use Rattle.model.specs.declared.Error.TheVariants.{IllegalArgument, IllegalRecord, PositionOutOfRange, NewPositionOutOfRange, NewPositionNotAligned, FrameTooShort, FramePastTerm}
use Rattle.model.specs.declared.ReadVerdict.{ReadVerdict}
use Rattle.model.specs.declared.ReadVerdict.TheVariants.{Read, Closed}
use Rattle.model.specs.declared.Polled.{Polled}
use Rattle.model.specs.declared.Assembled.{Assembled}
use Rattle.model.specs.declared.Assembled.TheVariants.{Nothing, Fragment, Message}
use Rattle.model.specs.declared.Replayed.TheVariants.{End}
use Rattle.model.specs.Bytes.{word, long}
use Rattle.model.specs.Answers.{Told, refused, scanned_told, gap_told, availability_told, read_told, frames_told, assembled_told}
use Rattle.model.specs.DataFrameHeader.{header_at}
use Rattle.model.specs.FrameDescriptor.{unsound_length, unsound_frame, unsound_frame_at}
use Rattle.model.specs.LogBufferDescriptor.{reading, sound, good_partition, good_offset, within_term, first_rows, frame_row, good_position}
use Rattle.model.specs.TermReader.{walk, first_unsound, natural, good_walk, good_handler, good_start, good_entries, frames_by, frames_verdict, frames_of, read_walk, read_by, read_verdict, read_of}
use Rattle.model.specs.TermScan.{good_mark, scan_from, scan_by, rebuild, gap_at, gap_by, available_from, availability_by, scan_verdict, scan_judge, scan_of, gap_judge, gap_of, availability_judge, availability_of}
use Rattle.model.specs.Image.{Image, refuse_if, readable, reachable, end_offset, unsound_at, unsound_frame_of, poll_verdict, poll_of, bounded_poll_of, controlled_poll_of, peek_verdict, peek_of, block_poll_of}
use Rattle.model.specs.FragmentAssembler.{good_assembly, assemble_by, assemble_verdict, assemble_of}
use Rattle.model.specs.Replay.{ReplayState, NextReply, giving, given_by, turn_by, poll_one, assemble_one, next_from, next_of, is_over}
use Rattle.model.specs.BadFrames.{Reads, frames, read, scan, gap, availability, poll, bounded_poll, controlled_poll, peek, block_poll, assemble, answer_now, base_met, place_met, Before, passed, shut, seventeen, refused_by, row17, rows_before, readable_before, reachable_before, unsound_met, poll_before, before, as_verdict, answer_by, saying, in_place_of17, BadFrames, ReplaysPassOn}
use Rattle.model.proofs.Anchors as Anchors
use Rattle.model.proofs.Choice.{le_yes}

-- the old verdict, with a refusal in the place of 17
abbrev with17 : Error → Before → Result ReadVerdict Error
with17 e passed = Ok Read
with17 e shut = Ok Closed
with17 e seventeen = Err e
with17 e (refused_by x) = Err x

-- ---- the ladders, over what their tests say

rows-now : (good sound unsound : Bool) (e : Error) → first_rows good sound (frame_row unsound e) ≡ as_verdict (with17 e (rows_before good sound unsound))
rows-now false s u e = refl
rows-now true false u e = refl
rows-now true true true e = refl
rows-now true true false e = refl

frames-now : (good unsound : Bool) (e : Error) → cond good (frame_row unsound e) (Err IllegalArgument) ≡ as_verdict (with17 e (cond good (row17 unsound) (refused_by IllegalArgument)))
frames-now false u e = refl
frames-now true true e = refl
frames-now true false e = refl

first-now : (unsound : Bool) (e : Error) → refuse_if unsound e (Ok Read) ≡ with17 e (row17 unsound)
first-now true e = refl
first-now false e = refl

-- the rungs before it, and the rest
four : (a b c d : Bool) (e : Error) (new : Result ReadVerdict Error) (old : Before) → new ≡ with17 e old
    → refuse_if a IllegalArgument (refuse_if b IllegalRecord (cond c (Ok Closed) (refuse_if d PositionOutOfRange new)))
    ≡ with17 e (cond a (refused_by IllegalArgument) (cond b (refused_by IllegalRecord) (cond c shut (cond d (refused_by PositionOutOfRange) old))))
four true b c d e new old h = refl
four false true c d e new old h = refl
four false false true d e new old h = refl
four false false false true e new old h = refl
four false false false false e new old h = h

two : (a b : Bool) (e : Error) (new : Result ReadVerdict Error) (old : Before) → new ≡ with17 e old
    → refuse_if a NewPositionOutOfRange (refuse_if b NewPositionNotAligned new) ≡ with17 e (cond a (refused_by NewPositionOutOfRange) (cond b (refused_by NewPositionNotAligned) old))
two true b e new old h = refl
two false true e new old h = refl
two false false e new old h = h

readable-now : (good : Bool) (v : Reading) (n : ℕ) (i : Image) (e : Error) (new : Result ReadVerdict Error) (old : Before) → new ≡ with17 e old
    → readable good v n i new ≡ with17 e (readable_before good v n i old)
unfolding readable
readable-now good v n i e new old h = four (not good) (not (sound v n)) i.closed (not (good_position v (long i.position))) e new old h

reachable-now : (v : Reading) (current new : ℕ) (e : Error) (x : Result ReadVerdict Error) (old : Before) → x ≡ with17 e old → reachable v current new x ≡ with17 e (reachable_before v current new old)
unfolding reachable
reachable-now v current new e x old h = two (ltb new current || ltb (current - current % v.term + v.term) new) (not (eqb (new % 32) 0)) e x old h

poll-now : (v : Reading) (log : List ℕ) (i : Image) (good : Bool) (end limit : ℕ)
    → poll_verdict v log i good end limit ≡ with17 (unsound_frame_of v log (long i.position)) (poll_before v log i good end limit)
unfolding poll_verdict
poll-now v log i good end limit =
    readable-now good v (length log) i (unsound_frame_of v log (long i.position)) _ _ (first-now (unsound_at v log (long i.position) end limit) (unsound_frame_of v log (long i.position)))

-- ---- what is answered by them

place-told : (n place : ℕ) → refused (unsound_frame n place) ≡ in_place_of17 n place
unfolding unsound_frame
place-told n place = go (ltb n 32)
  where
    go : (b : Bool) → refused (cond b (FrameTooShort place) (FramePastTerm place)) ≡ record { number = cond b (pos 22) (pos 23); values = []; place = place }
    go true = refl
    go false = refl

said : (by : Result ReadVerdict Error → Told) (n place : ℕ) → ((e : Error) → by (Err e) ≡ refused e) → (x : Before) → by (with17 (unsound_frame n place) x) ≡ saying (in_place_of17 n place) by x
said by n place h passed = refl
said by n place h shut = refl
said by n place h seventeen = h (unsound_frame n place) ∙ place-told n place
said by n place h (refused_by e) = h e

-- one call: its verdict is the old one with 17 replaced, and it answers by it
answers : (r : LogRecord) (log : List ℕ) (c : Reads) → ((e : Error) → answer_by r log c (Err e) ≡ refused e)
    → answer_now r log c ≡ answer_by r log c (with17 (unsound_frame_at log (base_met r c) (place_met r c)) (before r log c))
    → answer_now r log c ≡ saying (in_place_of17 (header_at (drop (base_met r c + place_met r c) log)).length (place_met r c)) (answer_by r log c) (before r log c)
answers r log c h e = e ∙ said (answer_by r log c) (header_at (drop (base_met r c + place_met r c) log)).length (place_met r c) h (before r log c)

pub bad-frames : BadFrames
unfolding BadFrames frames_of frames_verdict read_of read_verdict scan_of scan_judge scan_verdict gap_of gap_judge availability_of availability_judge poll_of bounded_poll_of controlled_poll_of peek_of peek_verdict block_poll_of assemble_of assemble_verdict
bad-frames r log (frames base term end at limit acts slots) =
    answers r log (frames base term end at limit acts slots) (λ e. refl)
    (ap (λ (x : Result ⊤ Error). frames_told (frames_by (walk term log base term end at limit acts) x)) (frames-now (good_walk (length log) base term end at limit (length slots) && good_handler acts limit) (first_unsound log base term end at limit) (unsound_frame_at log base at)))
bad-frames r log (read partition offset limit slots) =
    answers r log (read partition offset limit slots) (λ e. refl)
    (ap (λ (x : Result ⊤ Error). read_told (read_by (word offset) (read_walk (reading r) log (word partition) (word offset) (natural limit)) x)) (rows-now (good_partition (word partition) && (good_start (word offset) (reading r) && good_entries (length slots) (natural limit))) (sound (reading r) (length log)) (first_unsound log (word partition * (reading r).term) (reading r).term (reading r).term (word offset) (natural limit)) (unsound_frame_at log (word partition * (reading r).term) (word offset))))
bad-frames r log (scan partition offset limit) =
    answers r log (scan partition offset limit) (λ e. refl)
    (ap (λ (x : Result ⊤ Error). scanned_told (scan_by (scan_from (reading r).term log (word partition * (reading r).term) (reading r).term (natural limit) true (word offset)) x)) (rows-now (good_partition (word partition) && (good_offset (word offset) (reading r) && within_term (natural limit) (reading r))) (sound (reading r) (length log)) (ltb (word offset) (natural limit) && unsound_met r log partition offset) (unsound_frame_at log (word partition * (reading r).term) (word offset))))
bad-frames r log (gap partition id offset high) =
    answers r log (gap partition id offset high) (λ e. refl)
    (ap (λ (x : Result ⊤ Error). gap_told (gap_by (gap_at r log (word partition) id (word high) (rebuild (reading r).term log (word partition * (reading r).term) (reading r).term (word high) (word offset))) x))
    (rows-now (good_partition (word partition) && (good_offset (word offset) (reading r) && good_mark high r)) (sound (reading r) (length log)) (unsound_met r log partition offset) (unsound_frame_at log (word partition * (reading r).term) (word offset))))
bad-frames r log (availability partition offset maximum) =
    answers r log (availability partition offset maximum) (λ e. refl)
    (ap (λ (x : Result ⊤ Error). availability_told (availability_by (available_from (reading r).term log (word partition * (reading r).term) (reading r).term (word offset) (min (natural maximum) ((reading r).term - word offset)) 0 0) x))
    (rows-now (good_partition (word partition) && good_offset (word offset) (reading r)) (sound (reading r) (length log)) (unsound_met r log partition offset) (unsound_frame_at log (word partition * (reading r).term) (word offset))))
bad-frames r log (poll i slots limit) = answers r log (poll i slots limit) (λ e. refl) (ap (answer_by r log (poll i slots limit)) (poll-now (reading r) log i _ _ _))
bad-frames r log (bounded_poll i slots bound limit) = answers r log (bounded_poll i slots bound limit) (λ e. refl) (ap (answer_by r log (bounded_poll i slots bound limit)) (poll-now (reading r) log i _ _ _))
bad-frames r log (controlled_poll i slots acts limit) =
    answers r log (controlled_poll i slots acts limit) (λ e. refl) (ap (answer_by r log (controlled_poll i slots acts limit)) (poll-now (reading r) log i _ _ _))
bad-frames r log (peek i slots acts start bound) =
    answers r log (peek i slots acts start bound) (λ e. refl)
    (ap (answer_by r log (peek i slots acts start bound))
    (readable-now _ (reading r) (length log) i (unsound_frame_of (reading r) log (long start)) _ _
    (reachable-now (reading r) (long i.position) (long start) (unsound_frame_of (reading r) log (long start)) _ _ (first-now (unsound_at (reading r) log (long start) (end_offset (reading r) (long start) (natural bound)) (length acts)) (unsound_frame_of (reading r) log (long start))))))
bad-frames r log (block_poll i limit) = answers r log (block_poll i limit) (λ e. refl) (ap (answer_by r log (block_poll i limit)) (poll-now (reading r) log i true _ 1))
bad-frames r log (assemble s buffer partition offset) =
    answers r log (assemble s buffer partition offset) (λ e. refl)
    (ap (λ (x : Result ⊤ Error). assembled_told (assemble_by s buffer (drop (word partition * (reading r).term + word offset) log) (word offset) x).answer) (rows-now (good_assembly (reading r) log (length buffer) (word partition) (word offset)) (sound (reading r) (length log)) (unsound_length (header_at (drop (word partition * (reading r).term + word offset) log)).length ((reading r).term - word offset)) (unsound_frame_at log (word partition * (reading r).term) (word offset))))

-- ---- replays

module _ (r : LogRecord) (log : List ℕ) (e : Error) where
  abbrev Met : Type 0
  Met = (t : ReplayState) × (((poll_one r log t.image).answer ≡ Err e) ⊎ ((assemble_one r log t).answer ≡ Err e))

  met-in : (s t : ReplayState) (base : ℕ) (go : ReplayState → NextReply) → ((u : ReplayState) → (go u).answer ≡ Err e → Met) → (a : Result Assembled Error) → (assemble_one r log s).answer ≡ a
      → (given_by base s t a go).answer ≡ Err e → Met
  met-in s t base go ih (Ok Nothing) q h = ih t h
  met-in s t base go ih (Ok (Fragment at n)) q h = absurd (let z : ◌≡◌ {A = ℕ} 0 1 = cc in omega arith)
  met-in s t base go ih (Ok (Message at n)) q h = absurd (let z : ◌≡◌ {A = ℕ} 0 1 = cc in omega arith)
  met-in s t base go ih (Err x) q h = let y : x ≡ e = cc in (s, inr (q ∙ ap Err y))

  met-turn : (b c : Bool) (s t u : ReplayState) (base : ℕ) (go : ReplayState → NextReply) → ((u : ReplayState) → (go u).answer ≡ Err e → Met)
      → (cond b (cond c (giving s (Ok End)) (go t)) (given_by base s u (assemble_one r log s).answer go)).answer ≡ Err e → Met
  met-turn true true s t u base go ih h = absurd (let z : ◌≡◌ {A = ℕ} 0 1 = cc in omega arith)
  met-turn true false s t u base go ih h = ih t h
  met-turn false c s t u base go ih h = met-in s u base go ih (assemble_one r log s).answer refl h

  met-poll : (s : ReplayState) (go : ReplayState → NextReply) → ((u : ReplayState) → (go u).answer ≡ Err e → Met) → (x : Result Polled Error) → (poll_one r log s.image).answer ≡ x
      → (turn_by r log s x go).answer ≡ Err e → Met
  met-poll s go ih (Err x) q h = let y : x ≡ e = cc in (s, inl (q ∙ ap Err y))
  met-poll s go ih (Ok polled) q h =
      met-turn (eqb polled.entries 0) (eqb (long (poll_one r log s.image).next.position) (long s.image.position)) s _ _ _ go ih h

  met-over : (b : Bool) (s : ReplayState) (y : NextReply) → (y.answer ≡ Err e → Met) → (cond b (giving s (Ok End)) y).answer ≡ Err e → Met
  met-over true s y f h = absurd (let z : ◌≡◌ {A = ℕ} 0 1 = cc in omega arith)
  met-over false s y f h = f h

  met : (fuel : ℕ) (s : ReplayState) → (next_from fuel r log s).answer ≡ Err e → Met
  unfolding next_from
  met zero s h = absurd (let z : ◌≡◌ {A = ℕ} 0 1 = cc in omega arith)
  met (suc fuel) s h =
      met-over (is_over r log s.image.position) s _ (λ k. met-poll s (λ t. next_from fuel r log t) (λ u k. met fuel u k) (poll_one r log s.image).answer refl k) h

pub replays-pass-on : ReplaysPassOn
unfolding ReplaysPassOn next_of
replays-pass-on r log s e lent h =
    met r log e (suc (3 * (reading r).term)) s (ap (λ (y : NextReply). y.answer) (sym (le_yes (length s.buffer) 2147483647 (next_from (suc (3 * (reading r).term)) r log s) (giving s (Err IllegalArgument)) lent)) ∙ h)
