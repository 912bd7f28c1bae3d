-- What a replay answers lies inside the log, or inside the lent buffer.
use Rattle.std.specs.Prelude.{Result, Ok, Err, ⊤}
use Rattle.model.specs.declared.Error.{Error}
use Prim.Native.Nat.{ℕ, zero, suc, ◌+◌, ◌-◌, ◌*◌, ◌/◌, ◌≤◌, ◌<◌}
use mathlib.Core.Path.{◌≡◌, refl}
use mathlib.Core.Bool.{Bool, true, false, cond}
use mathlib.Core.List.{List}
use native.Mathlib.Nat.{mul-le-mul_right}
use native.Mathlib.Omega.{arith}
use lib.Dec.{eqb, leb}
use lib.ListN.{length, take, drop, length-drop}
use lib.Seq.{length-take-le}
use lib.IntN.{pos}
use Rattle.model.specs.declared.LogRecord.{LogRecord}
use Rattle.model.specs.declared.Error.TheVariants.{IllegalArgument}
use Rattle.model.specs.declared.Polled.{Polled}
use Rattle.model.specs.declared.Joining.{Joining}
use Rattle.model.specs.declared.Joining.TheVariants.{Through, Ignore, Full, TooLong, Join, Complete}
use Rattle.model.specs.declared.Assembled.{Assembled}
use Rattle.model.specs.declared.Assembled.TheVariants.{Nothing, Fragment, Message}
use Rattle.model.specs.declared.Replayed.{Replayed}
use Rattle.model.specs.declared.Replayed.TheVariants.{InLog, InBuffer, End}
use Rattle.model.specs.Bytes.{long, u32}
use Rattle.model.specs.FrameDescriptor.{flags_at}
use Rattle.model.specs.LogBufferDescriptor.{reading, partition_of}
use Rattle.model.specs.FragmentAssembler.{Sessions, session_at, assemble_verdict, assemble_by, assemble_of, assembled_by, buffer_by, joining}
use Rattle.model.specs.Replay.{ReplayState, NextReply, giving, given_by, assembled_to, poll_one, assemble_one, is_over, turn_by, next_from, next_of}
use Rattle.model.proofs.Splice.{length-splice}
use Rattle.logbuffer.proofs.Assembly.{verdict-passed, Fit, join-fits}

-- a reply's part of the log, or of the lent buffer that it leaves
abbrev pub Inside : List ℕ → ReplayState → Result Replayed Error → Type 0
Inside log s (Ok (InLog from n)) = from + n ≤ length log
Inside log s (Ok (InBuffer at n)) = at + n ≤ length s.buffer
Inside log s (Ok End) = Unit {0}
Inside log s (Err e) = Unit {0}

abbrev InsideReply : List ℕ → NextReply → Type 0
InsideReply log y = Inside log y.next y.answer

-- the same of the assembler's answer, for a term that starts at base
abbrev Lies : List ℕ → ℕ → List ℕ → Result Assembled Error → Type 0
Lies log base buffer (Ok Nothing) = Unit {0}
Lies log base buffer (Ok (Fragment at n)) = base + at + n ≤ length log
Lies log base buffer (Ok (Message at n)) = at + n ≤ length buffer
Lies log base buffer (Err e) = Unit {0}

pub part-16 : (k n : ℕ) → k < 16 → k * (n / 16) + n / 16 ≤ n
part-16 k n h = omega (arith, mul-le-mul_right (n / 16) (let l : k + 1 ≤ 16 = omega arith in l))

joined-lies : (log buffer : List ℕ) (base o w : ℕ) (body : List ℕ) (x : Joining) → length body ≤ w → 32 ≤ w + 32 → base + o + 32 + w ≤ length log → Fit w (length buffer / 16) x → length body ≡ w
    → Lies log base (buffer_by buffer body x) (assembled_by (o + 32) w (length buffer / 16) x)
joined-lies log buffer base o w body Through l g i f e = omega arith
joined-lies log buffer base o w body Ignore l g i f e = tt
joined-lies log buffer base o w body Full l g i f e = tt
joined-lies log buffer base o w body (TooLong k) l g i f e = tt
joined-lies log buffer base o w body (Join k from) l g i f e = tt
joined-lies log buffer base o w body (Complete k from) l g i f e =
    omega (arith, part-16 k (length buffer) f.0, f.1, length-splice buffer (k * (length buffer / 16) + from) body (omega (arith, part-16 k (length buffer) f.0, f.1)))

assembled-lies : (r : LogRecord) (log : List ℕ) (s : Sessions) (buffer : List ℕ) (k o : ℕ)
    → Lies log (k * (reading r).term) (assemble_of r log s buffer (pos k) (pos o)).buffer (assemble_of r log s buffer (pos k) (pos o)).answer
unfolding assemble_of
assembled-lies r log s buffer k o = go (assemble_verdict (reading r) log (length buffer) k o) refl
  where
    at : ℕ
    at = k * (reading r).term + o

    go : (x : Result ⊤ Error) → assemble_verdict (reading r) log (length buffer) k o ≡ x
        → Lies log (k * (reading r).term) (assemble_by s buffer (drop (k * (reading r).term + o) log) o x).buffer (assemble_by s buffer (drop (k * (reading r).term + o) log) o x).answer
    go (Err e) q = tt
    go (Ok _) q =
        let f = verdict-passed (reading r) log (length buffer) k o q in
        let frame = drop (k * (reading r).term + o) log in
        let long· : length (take (u32 frame - 32) (drop 32 frame)) ≡ u32 frame - 32 = length-take-le (u32 frame - 32) (drop 32 frame) (omega (arith, length-drop 32 frame, length-drop (k * (reading r).term + o) log, f.header, f.whole)) in
        joined-lies log buffer (k * (reading r).term) o (u32 frame - 32) (take (u32 frame - 32) (drop 32 frame)) (joining s (session_at frame) (flags_at frame) (u32 frame - 32) (length buffer / 16))
        (omega arith) (omega arith) (omega (arith, f.header, f.whole)) (join-fits s (session_at frame) (flags_at frame) (u32 frame - 32) (length buffer / 16)) long·

given_inside : (log : List ℕ) (base : ℕ) (s t : ReplayState) (a : Result Assembled Error) (go : ReplayState → NextReply) → Lies log base t.buffer a → ((u : ReplayState) → InsideReply log (go u))
    → InsideReply log (given_by base s t a go)
given_inside log base s t (Ok Nothing) go l h = h t
given_inside log base s t (Ok (Fragment at n)) go l h = l
given_inside log base s t (Ok (Message at n)) go l h = l
given_inside log base s t (Err e) go l h = tt

by-test : (log : List ℕ) (b : Bool) (x y : NextReply) → InsideReply log x → InsideReply log y → InsideReply log (cond b x y)
by-test log true x y h k = h
by-test log false x y h k = k

module _ (r : LogRecord) (log : List ℕ) where
  turn_inside : (s : ReplayState) (x : Result Polled Error) (go : ReplayState → NextReply) → ((t : ReplayState) → InsideReply log (go t)) → InsideReply log (turn_by r log s x go)
  turn_inside s (Err e) go h = tt
  turn_inside s (Ok polled) go h =
      by-test log (eqb polled.entries 0) _ _
      (by-test log (eqb (long (poll_one r log s.image).next.position) (long s.image.position)) (giving s (Ok End)) _ tt (h _))
      (given_inside log (partition_of (long s.image.position) (reading r).term * (reading r).term) s (assembled_to (poll_one r log s.image).next (assemble_one r log s)) (assemble_one r log s).answer go
      (assembled-lies r log s.sessions s.buffer (partition_of (long s.image.position) (reading r).term) _) h)

  from-inside : (fuel : ℕ) (s : ReplayState) → InsideReply log (next_from fuel r log s)
  unfolding next_from
  from-inside zero s = tt
  from-inside (suc fuel) s =
      by-test log (is_over r log s.image.position) (giving s (Ok End)) _ tt (turn_inside s (poll_one r log s.image).answer (λ t. next_from fuel r log t) (λ t. from-inside fuel t))

  pub next-inside : (s : ReplayState) → InsideReply log (next_of r log s)
  unfolding next_of
  next-inside s = by-test log (leb (length s.buffer) 2147483647) (next_from (suc (3 * (reading r).term)) r log s) (giving s (Err IllegalArgument)) (from-inside (suc (3 * (reading r).term)) s) tt
