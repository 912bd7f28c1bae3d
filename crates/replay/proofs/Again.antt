-- What is refused once is refused again: the turn that refused is the first of the next call.
use Rattle.std.specs.Prelude.{Result, Ok, Err, ⊤}
use Prim.Native.Nat.{ℕ, zero, suc, ◌+◌, ◌-◌, ◌*◌, ◌/◌, ◌≤◌}
use mathlib.Core.Path.{◌≡◌, refl, sym, ap, ◌∙◌}
use mathlib.Core.Bool.{Bool, true, false, cond}
use mathlib.Core.List.{List}
use native.Mathlib.Omega.{arith}
use lib.Dec.{eqb}
use lib.IntN.{pos}
use lib.ListN.{length, take, drop, get_or, length-drop}
use lib.Seq.{length-take-le}
use Rattle.model.specs.declared.LogRecord.{LogRecord}
use Rattle.model.specs.declared.Error.{Error}
use Rattle.model.specs.declared.Error.TheVariants.{IllegalArgument}
use Rattle.model.specs.declared.Polled.{Polled}
use Rattle.model.specs.declared.Joining.{Joining}
use Rattle.model.specs.declared.Joining.TheVariants.{Through, Ignore, Full, TooLong, Join, Complete}
use Rattle.model.specs.declared.Assembled.{Assembled}
use Rattle.model.specs.declared.Assembled.TheVariants.{Nothing, Fragment, Message}
use Rattle.model.specs.declared.Replayed.TheVariants.{End}
use Rattle.model.specs.Bytes.{long, u32}
use Rattle.model.specs.FrameDescriptor.{flags_at}
use Rattle.model.specs.LogBufferDescriptor.{reading, partition_of}
use Rattle.model.specs.TermReader.{natural}
use Rattle.model.specs.FragmentAssembler.{Sessions, session_at, joining, buffer_by, assemble_verdict, assemble_by, assemble_of}
use Rattle.model.specs.Replay.{ReplayState, NextReply, giving, given_by, assembled_to, poll_one, assemble_one, is_over, turn_by, next_from, next_of}
use Rattle.model.proofs.Choice.{split, le_yes, cond-case, cond-false}
use Rattle.model.proofs.Splice.{length-splice}
use Rattle.logbuffer.proofs.Assembly.{verdict-passed, Fit, join-fits}
use Rattle.replay.specs.Again.{RefusesAgain}
use Rattle.replay.proofs.Inside.{part-16}
use Rattle.replay.proofs.Turns.{next-from, next-refused}

-- ---- the lent buffer keeps its length

joined-long : (buffer body : List ℕ) (w : ℕ) (x : Joining) → length body ≡ w → Fit w (length buffer / 16) x → length (buffer_by buffer body x) ≡ length buffer
joined-long buffer body w Through e f = refl
joined-long buffer body w Ignore e f = refl
joined-long buffer body w Full e f = refl
joined-long buffer body w (TooLong k) e f = refl
joined-long buffer body w (Join k from) e f = length-splice buffer (k * (length buffer / 16) + from) body (omega (arith, part-16 k (length buffer) f.0, f.1))
joined-long buffer body w (Complete k from) e f = length-splice buffer (k * (length buffer / 16) + from) body (omega (arith, part-16 k (length buffer) f.0, f.1))

pub assembled-long : (r : LogRecord) (log : List ℕ) (s : Sessions) (buffer : List ℕ) (k o : ℕ) → length (assemble_of r log s buffer (pos k) (pos o)).buffer ≡ length buffer
unfolding assemble_of
assembled-long r log s buffer k o = go (assemble_verdict (reading r) log (length buffer) k o) refl
  where
    go : (x : Result ⊤ Error) → assemble_verdict (reading r) log (length buffer) k o ≡ x → length (assemble_by s buffer (drop (k * (reading r).term + o) log) o x).buffer ≡ length buffer
    go (Err e) q = refl
    go (Ok _) q =
        let f = verdict-passed (reading r) log (length buffer) k o q in
        let frame = drop (k * (reading r).term + o) log in
        let long· : length (take (u32 frame - 32) (drop 32 frame)) ≡ u32 frame - 32 = length-take-le (u32 frame - 32) (drop 32 frame) (omega (arith, length-drop 32 frame, length-drop (k * (reading r).term + o) log, f.header, f.whole)) in
        joined-long buffer (take (u32 frame - 32) (drop 32 frame)) (u32 frame - 32) (joining s (session_at frame) (flags_at frame) (u32 frame - 32) (length buffer / 16)) long· (join-fits s (session_at frame) (flags_at frame) (u32 frame - 32) (length buffer / 16))

-- ---- the turn that refused

module _ (r : LogRecord) (log : List ℕ) (e : Error) where
  -- a state from which the first turn refuses, whatever follows it
  pub record Stuck (t : ReplayState) : Type 0 where
    pub lent : length t.buffer ≤ 2147483647
    pub on : is_over r log t.image.position ≡ false
    pub turns : (go : ReplayState → NextReply) → turn_by r log t (poll_one r log t.image).answer go ≡ giving t (Err e)

  Comes : NextReply → Type 0
  Comes y = y.answer ≡ Err e → Stuck y.next

  given-stuck : (s t : ReplayState) (base : ℕ) (a : Result Assembled Error) (go : ReplayState → NextReply) → Comes (go t) → ((x : Error) → a ≡ Err x → x ≡ e → Stuck s) → Comes (given_by base s t a go)
  unfolding Comes
  given-stuck s t base (Ok Nothing) go ih k = ih
  given-stuck s t base (Ok (Fragment at n)) go ih k = λ h. absurd (let z : ◌≡◌ {A = ℕ} 0 1 = cc in omega arith)
  given-stuck s t base (Ok (Message at n)) go ih k = λ h. absurd (let z : ◌≡◌ {A = ℕ} 0 1 = cc in omega arith)
  given-stuck s t base (Err x) go ih k = λ h. k x refl (let y : x ≡ e = cc in y)

  module _ (s : ReplayState) (lent : length s.buffer ≤ 2147483647) (on : is_over r log s.image.position ≡ false) where
    abbrev C : Bool
    C = eqb (long (poll_one r log s.image).next.position) (long s.image.position)

    abbrev passed : ReplayState
    passed = record { image = (poll_one r log s.image).next; sessions = s.sessions; buffer = s.buffer }

    abbrev base : ℕ
    base = partition_of (long s.image.position) (reading r).term * (reading r).term

    abbrev behind : ReplayState
    behind = assembled_to (poll_one r log s.image).next (assemble_one r log s)

    behind-lent : length behind.buffer ≤ 2147483647
    behind-lent = omega (arith, lent, assembled-long r log s.sessions s.buffer (partition_of (long s.image.position) (reading r).term) (natural (get_or (poll_one r log s.image).slots 0 (pos 0)) - 32))

    -- the turn with its tests taken
    abbrev tested : Bool → Bool → (ReplayState → NextReply) → NextReply
    tested b c go = cond b (cond c (giving s (Ok End)) (go passed)) (given_by base s behind (assemble_one r log s).answer go)

    tests : (b c : Bool) (go : ReplayState → NextReply) → ((t : ReplayState) → length t.buffer ≤ 2147483647 → Comes (go t))
        → ((x : Error) → (assemble_one r log s).answer ≡ Err x → x ≡ e → b ≡ false → Stuck s) → Comes (tested b c go)
    unfolding Comes
    tests true true go ih k = λ h. absurd (let z : ◌≡◌ {A = ℕ} 0 1 = cc in omega arith)
    tests true false go ih k = ih passed lent
    tests false c go ih k = given-stuck s behind base (assemble_one r log s).answer go (ih behind behind-lent) (λ x q y. k x q y refl)

    turn-stuck : (x : Result Polled Error) → (poll_one r log s.image).answer ≡ x → (go : ReplayState → NextReply) → ((t : ReplayState) → length t.buffer ≤ 2147483647 → Comes (go t)) → Comes (turn_by r log s x go)
    unfolding Comes
    turn-stuck (Err x) p go ih = λ h.
        let y : x ≡ e = cc in
        record { lent = lent; on = on; turns = λ f. ap (λ (z : Result Polled Error). turn_by r log s z f) p ∙ ap (λ (z : Error). giving s (Err z)) y }
    turn-stuck (Ok polled) p go ih =
        tests (eqb polled.entries 0) C go ih
        (λ x q y b. record {
          lent = lent;
          on = on;
          turns = λ f.
              ap (λ (z : Result Polled Error). turn_by r log s z f) p
              ∙ ap (λ (u : Bool). tested u C f) b
              ∙ ap (λ (z : Result Assembled Error). given_by base s behind z f) (q ∙ ap Err y);
        })

  stuck : (fuel : ℕ) (s : ReplayState) → length s.buffer ≤ 2147483647 → Comes (next_from fuel r log s)
  unfolding next_from Comes
  stuck zero s h = λ q. absurd (let z : ◌≡◌ {A = ℕ} 0 1 = cc in omega arith)
  stuck (suc fuel) s h =
      cond-case Comes (is_over r log s.image.position) (giving s (Ok End)) _ (λ o q. absurd (let z : ◌≡◌ {A = ℕ} 0 1 = cc in omega arith))
      (λ o. turn-stuck s h o (poll_one r log s.image).answer refl (λ t. next_from fuel r log t) (λ t k. stuck fuel t k))

  -- from such a state the next call refuses at once
  at_once : (t : ReplayState) → Stuck t → next_of r log t ≡ giving t (Err e)
  unfolding next_of next_from
  at_once t k =
      le_yes (length t.buffer) 2147483647 _ _ k.lent ∙ cond-false (is_over r log t.image.position) (giving t (Ok End)) _ k.on ∙ k.turns (λ u. next_from (3 * (reading r).term) r log u)

pub refuses-again : RefusesAgain
unfolding RefusesAgain Comes
refuses-again r log s e h =
    split (length s.buffer) 2147483647
    (λ lent. let q = next-from r log s lent in
    let y = stuck r log e (suc (3 * (reading r).term)) s lent (ap (λ (x : NextReply). x.answer) q ∙ h) in
    ap (λ (t : ReplayState). next_of r log t) (sym (ap (λ (x : NextReply). x.next) q)) ∙ at_once r log e (next_from (suc (3 * (reading r).term)) r log s).next y
    ∙ ap (λ (t : ReplayState). giving t (Err e)) (ap (λ (x : NextReply). x.next) q))
    (λ long. let q = next-refused r log s long in
    let x : Err IllegalArgument ≡ Err e = ap (λ (y : NextReply). y.answer) q ∙ h in
    ap (λ (t : ReplayState). next_of r log t) (sym (ap (λ (y : NextReply). y.next) q)) ∙ sym q ∙ ap (giving s) x
    ∙ ap (λ (t : ReplayState). giving t (Err e)) (ap (λ (y : NextReply). y.next) q))
