-- One turn of a replay: by the poll's answer, by the assembler's, and before what follows it.
use Rattle.std.specs.Prelude.{Option, Some, None, Result, Ok, Err, ⊤}
use mathlib.Core.Path.{◌≡◌, refl, sym, ap, ap₂, ◌∙◌}
use mathlib.Core.Bool.{Bool, true, false, cond}
use mathlib.Core.List.{List, []}
use Prim.Native.Nat.{ℕ, suc, ◌+◌, ◌-◌, ◌*◌, ◌/◌, ◌≤◌, ◌<◌}
use native.Mathlib.Omega.{arith}
use lib.Dec.{eqb}
use lib.ListN.{length, drop, get_or}
use lib.IntN.{ℤ, pos}
use Rattle.model.specs.declared.LogRecord.{LogRecord}
use Rattle.model.specs.declared.Polled.{Polled}
use Rattle.model.specs.declared.Error.{Error}
use Rattle.model.specs.declared.Error.TheVariants.{IllegalArgument, IllegalRecord}
use Rattle.model.specs.declared.ReadVerdict.{ReadVerdict}
use Rattle.model.specs.declared.Joining.{Joining}
use Rattle.model.specs.declared.Joining.TheVariants.{Through, Ignore, Full, TooLong, Join, Complete}
use Rattle.model.specs.declared.Assembled.{Assembled}
use Rattle.model.specs.declared.Assembled.TheVariants.{Nothing, Fragment, Message}
use Rattle.model.specs.declared.Replayed.TheVariants.{End}
use Rattle.model.specs.Bytes.{word, long, u32, i32}
use Rattle.model.specs.FrameDescriptor.{flags_at}
use Rattle.model.specs.LogBufferDescriptor.{reading_of, reading, sound, partition_of}
use Rattle.model.specs.TermReader.{Walked, natural, good_entries}
use Rattle.model.specs.Image.{Image, new_image, polled_by, walk_at, poll_verdict, poll_of}
use Rattle.model.specs.FragmentAssembler.{Sessions, Assembly, fresh, assemble_verdict, assemble_by, assemble_of, assembled_by, buffer_by, joining}
use Rattle.model.specs.Replay.{ReplayState, NextReply, giving, given_by, assembled_to, poll_one, assemble_one, is_over, turn_by, next_from, next_of}
use Rattle.model.proofs.Choice.{cond-true, cond-false, le_yes, le-no, eq_yes, eq_no}
use Rattle.logbuffer.proofs.Assembly.{verdict-passed}
use Rattle.image.proofs.Rungs.{not_good, not_sound}
use Rattle.image.specs.Images.{state_of as image_state}
use Rattle.logbuffer.specs.Assembler.{sessions_of}
use Rattle.replay.specs.declared.Replay.{Replay}
use Rattle.replay.specs.declared.TurnReply.{TurnReply}
use Rattle.model.specs.declared.Replayed.{Replayed}
use Rattle.replay.specs.Replays.{turned, Tally, added_to, gives_by, length_by, counted_by, count_from, count_of, state_of, Turned, stops, goes_on, fragment_turn, fragment_given, turn_said, turn_of}

-- a reply of the code that stops
pub turned_as : (t : TurnReply) (a : Result Replayed Error) (p : Replay) (buffer : List ℕ) → (t.answer ≡ Some a) × (t.next ≡ p) → turned t buffer ≡ stops (state_of p buffer) a
turned_as t a p buffer e = ap₂ {C = Turned} (λ (x : Option (Result Replayed Error)) (q : Replay). record { answer = x; next = state_of q buffer }) e.0 e.1

-- ---- a poll that answers fragments judged the record

refused_none : (w : Walked) (x : Result ReadVerdict Error) (e : Error) (n m : ℕ) → Err e ≡ x → polled_by w x ≡ Ok (record { fragments = n; entries = m }) → ⊥
refused_none w x e n m q h = let k : Err e ≡ Ok (record { fragments = n; entries = m }) = ap (polled_by w) q ∙ h in let z : ◌≡◌ {A = ℕ} 0 1 = cc in omega arith

pub polled-sound : (r : LogRecord) (log : List ℕ) (i : Image) (n m : ℕ) → (poll_one r log i).answer ≡ Ok (record { fragments = n; entries = m }) → sound (reading r) (length log) ≡ true
unfolding poll_of poll_verdict
polled-sound r log i n m h = go (good_entries 2 1) (sound (reading r) (length log)) refl refl
  where
    w : Walked
    w = walk_at (reading r) log (long i.position) (reading r).term 1 []

    go : (g b : Bool) → good_entries 2 1 ≡ g → sound (reading r) (length log) ≡ b → sound (reading r) (length log) ≡ true
    go g true eg eb = eb
    go true false eg eb = absurd (refused_none w _ IllegalRecord n m (not_sound (good_entries 2 1) (reading r) (length log) i eg eb _) h)
    go false false eg eb = absurd (refused_none w _ IllegalArgument n m (not_good (good_entries 2 1) (reading r) (length log) i eg _) h)

-- ---- the assembler's answer

pub fragment-is : (r : LogRecord) (log : List ℕ) (s : ReplayState) (i : Image) (k : ℕ) (entry p o : ℤ) (base : ℕ) (t : Sessions) (b : List ℕ) (a : Result Assembled Error)
    → p ≡ pos k → o ≡ pos (natural entry - 32) → base ≡ k * (reading r).term
    → a ≡ (assemble_of r log s.sessions s.buffer p o).answer → t ≡ (assemble_of r log s.sessions s.buffer p o).next → b ≡ (assemble_of r log s.sessions s.buffer p o).buffer
    → fragment_turn base s (record { image = i; sessions = t; buffer = b }) a ≡ fragment_given r log s i k entry
fragment-is r log s i k entry p o base t b a ep eo eb ea et ew =
    let made : ℤ → ℤ → Assembly = λ (x y : ℤ). assemble_of r log s.sessions s.buffer x y in
    ap₂ (λ (y : Sessions) (z : List ℕ). fragment_turn base s (record { image = i; sessions = y; buffer = z }) a) et ew
    ∙ ap₂ (λ (x : ℕ) (y : Result Assembled Error). fragment_turn x s (assembled_to i (made p o)) y) eb ea
    ∙ ap₂ (λ (x y : ℤ). fragment_turn (k * (reading r).term) s (assembled_to i (made x y)) (made x y).answer) ep eo

-- a refused fragment leaves the lent buffer as it was
pub refused-keeps : (r : LogRecord) (log : List ℕ) (s : Sessions) (buffer : List ℕ) (p o : ℤ) (e : Error)
    → (assemble_of r log s buffer p o).answer ≡ Err e → (assemble_of r log s buffer p o).buffer ≡ buffer
unfolding assemble_of
refused-keeps r log s buffer p o e h = go (assemble_verdict (reading r) log (length buffer) (word p) (word o)) h
  where
    joined_keeps : (at n part : ℕ) (body : List ℕ) (x : Joining) → assembled_by at n part x ≡ Err e → buffer_by buffer body x ≡ buffer
    joined_keeps at n part body Through h = refl
    joined_keeps at n part body Ignore h = refl
    joined_keeps at n part body Full h = refl
    joined_keeps at n part body (TooLong k) h = refl
    joined_keeps at n part body (Join k from) h = absurd (let z : ◌≡◌ {A = ℕ} 0 1 = cc in omega arith)
    joined_keeps at n part body (Complete k from) h = absurd (let z : ◌≡◌ {A = ℕ} 0 1 = cc in omega arith)

    go : (x : Result ⊤ Error) → (assemble_by s buffer (drop (word p * (reading r).term + word o) log) (word o) x).answer ≡ Err e → (assemble_by s buffer (drop (word p * (reading r).term + word o) log) (word o) x).buffer ≡ buffer
    go (Err y) h = refl
    go (Ok _) h =
        let frame = drop (word p * (reading r).term + word o) log in
        joined_keeps (word o + 32) (u32 frame - 32) (length buffer / 16) _ (joining s (i32 (drop 12 frame)) (flags_at frame) (u32 frame - 32) (length buffer / 16)) h

-- ---- the poll's answer

module _ (r : LogRecord) (log : List ℕ) (s : ReplayState) (n m : ℕ) where
  abbrev P : ℕ
  P = long s.image.position

  abbrev Term : ℕ
  Term = (reading r).term

  pub turn-fragment : ¬ (m ≡ 0)
      → fragment_turn (partition_of P Term * Term) s (assembled_to (poll_one r log s.image).next (assemble_one r log s)) (assemble_one r log s).answer ≡ turn_said r log s (Ok (record { fragments = n; entries = m }))
  turn-fragment e = sym (eq_no m 0 _ _ e)

  pub turn-quiet : m ≡ 0 → long (poll_one r log s.image).next.position ≡ P → stops s (Ok End) ≡ turn_said r log s (Ok (record { fragments = n; entries = m }))
  turn-quiet e q = sym (eq_yes m 0 _ _ e ∙ eq_yes (long (poll_one r log s.image).next.position) P _ _ q)

  pub turn-padding : m ≡ 0 → ¬ (long (poll_one r log s.image).next.position ≡ P)
      → goes_on (record { image = (poll_one r log s.image).next; sessions = s.sessions; buffer = s.buffer }) ≡ turn_said r log s (Ok (record { fragments = n; entries = m }))
  turn-padding e q = sym (eq_yes m 0 _ _ e ∙ eq_no (long (poll_one r log s.image).next.position) P _ _ q)

  -- the fragment that came, by the code's own numbers
  pub fragment-one : (i : Image) (k : ℕ) (entry : ℤ) → i ≡ (poll_one r log s.image).next → k ≡ partition_of P Term → entry ≡ get_or (poll_one r log s.image).slots 0 (pos 0)
      → fragment_given r log s i k entry
      ≡ fragment_turn (partition_of P Term * Term) s (assembled_to (poll_one r log s.image).next (assemble_one r log s)) (assemble_one r log s).answer
  fragment-one i k entry ei ek ee =
      ap (λ (x : Image). fragment_given r log s x k entry) ei
      ∙ ap₂ (λ (x : ℕ) (y : ℤ). fragment_given r log s (poll_one r log s.image).next x y) ek ee

-- ---- a body that passes through lies in the log

pass-through : (a n part at m : ℕ) (x : Joining) → assembled_by a n part x ≡ Ok (Fragment at m) → a ≡ at
pass-through a n part at m Through h = ap offset h
  where
    offset : Result Assembled Error → ℕ
    offset (Ok (Fragment i j)) = i
    offset (Ok Nothing) = 0
    offset (Ok (Message i j)) = 0
    offset (Err e) = 0
pass-through a n part at m Ignore h = absurd (let x : ◌≡◌ {A = ℕ} 0 1 = cc in omega arith)
pass-through a n part at m Full h = absurd (let x : ◌≡◌ {A = ℕ} 0 1 = cc in omega arith)
pass-through a n part at m (TooLong k) h = absurd (let x : ◌≡◌ {A = ℕ} 0 1 = cc in omega arith)
pass-through a n part at m (Join k from) h = absurd (let x : ◌≡◌ {A = ℕ} 0 1 = cc in omega arith)
pass-through a n part at m (Complete k from) h = absurd (let x : ◌≡◌ {A = ℕ} 0 1 = cc in omega arith)

passes : (s : Sessions) (buffer frame : List ℕ) (o at n : ℕ) → (assemble_by s buffer frame o (Ok tt)).answer ≡ Ok (Fragment at n) → o + 32 ≡ at
passes s buffer frame o at n h =
    pass-through (o + 32) (u32 frame - 32) (length buffer / 16) at n (joining s (i32 (drop 12 frame)) (flags_at frame) (u32 frame - 32) (length buffer / 16)) h

pub fragment-in : (r : LogRecord) (log : List ℕ) (s : Sessions) (buffer : List ℕ) (k o at n : ℕ) → (assemble_of r log s buffer (pos k) (pos o)).answer ≡ Ok (Fragment at n)
    → k * (reading r).term + at ≤ length log
unfolding assemble_of
fragment-in r log s buffer k o at n h = go (assemble_verdict (reading r) log (length buffer) k o) refl h
  where
    go : (x : Result ⊤ Error) → assemble_verdict (reading r) log (length buffer) k o ≡ x → (assemble_by s buffer (drop (k * (reading r).term + o) log) o x).answer ≡ Ok (Fragment at n)
        → k * (reading r).term + at ≤ length log
    go (Err e) q h = absurd (let x : ◌≡◌ {A = ℕ} 0 1 = cc in omega arith)
    go (Ok _) q h =
        let f = verdict-passed (reading r) log (length buffer) k o q in
        omega (arith, passes s buffer (drop (k * (reading r).term + o) log) o at n h, f.header, f.whole)

-- ---- a turn, and what follows it

abbrev follow_by : Option (Result Replayed Error) → ReplayState → (ReplayState → NextReply) → NextReply
follow_by None s go = go s
follow_by (Some a) s go = giving s a

abbrev follow : Turned → (ReplayState → NextReply) → NextReply
follow t go = follow_by t.answer t.next go

-- a choice between turns is followed as the turn chosen is
follow-cond : (b : Bool) (x y : Turned) (p q : NextReply) (go : ReplayState → NextReply) → p ≡ follow x go → q ≡ follow y go → cond b p q ≡ follow (cond b x y) go
follow-cond true x y p q go e f = e
follow-cond false x y p q go e f = f

follow-fragment : (base : ℕ) (s t : ReplayState) (a : Result Assembled Error) (go : ReplayState → NextReply) → given_by base s t a go ≡ follow (fragment_turn base s t a) go
follow-fragment base s t (Ok Nothing) go = refl
follow-fragment base s t (Ok (Fragment at n)) go = refl
follow-fragment base s t (Ok (Message at n)) go = refl
follow-fragment base s t (Err e) go = refl

turn-follow : (r : LogRecord) (log : List ℕ) (s : ReplayState) (x : Result Polled Error) (go : ReplayState → NextReply) → turn_by r log s x go ≡ follow (turn_said r log s x) go
turn-follow r log s (Err e) go = refl
turn-follow r log s (Ok polled) go =
    follow-cond (eqb polled.entries 0) _ _ _ _ go
    (follow-cond (eqb (long (poll_one r log s.image).next.position) (long s.image.position)) (stops s (Ok End)) (goes_on (record { image = (poll_one r log s.image).next; sessions = s.sessions; buffer = s.buffer })) (giving s (Ok End)) _ go refl refl)
    (follow-fragment (partition_of (long s.image.position) (reading r).term * (reading r).term) s (assembled_to (poll_one r log s.image).next (assemble_one r log s)) (assemble_one r log s).answer go)

module _ (r : LogRecord) (log : List ℕ) (s : ReplayState) where
  pub next-none : (left : ℕ) → left ≡ 0 → giving s (Ok End) ≡ next_from left r log s
  unfolding next_from
  next-none left e = sym (ap (λ (n : ℕ). next_from n r log s) e)

  next-turn : (n : ℕ) → next_from (suc n) r log s ≡ follow (turn_of r log s) (λ (t : ReplayState). next_from n r log t)
  unfolding next_from
  next-turn n =
      follow-cond (is_over r log s.image.position) (stops s (Ok End)) (turn_said r log s (poll_one r log s.image).answer) (giving s (Ok End)) _ (λ (t : ReplayState). next_from n r log t) refl
      (turn-follow r log s (poll_one r log s.image).answer (λ (t : ReplayState). next_from n r log t))

  module _ (t : Turned) (e : t ≡ turn_of r log s) (left : ℕ) (h : 0 < left) where
    turns : follow t (λ (u : ReplayState). next_from (left - 1) r log u) ≡ next_from left r log s
    turns =
        let l : suc (left - 1) ≡ left = omega arith in
        ap (λ (x : Turned). follow x (λ (u : ReplayState). next_from (left - 1) r log u)) e ∙ sym (next-turn (left - 1)) ∙ ap (λ (n : ℕ). next_from n r log s) l

    pub next-stops : (a : Result Replayed Error) → t.answer ≡ Some a → giving t.next a ≡ next_from left r log s
    next-stops a f = sym (ap (λ (x : Option (Result Replayed Error)). follow_by x t.next (λ (u : ReplayState). next_from (left - 1) r log u)) f) ∙ turns

    pub next-goes : t.answer ≡ None → next_from (left - 1) r log t.next ≡ next_from left r log s
    next-goes f = sym (ap (λ (x : Option (Result Replayed Error)). follow_by x t.next (λ (u : ReplayState). next_from (left - 1) r log u)) f) ∙ turns

  -- row 1, and then the turns
  pub next-refused : 2147483647 < length s.buffer → giving s (Err IllegalArgument) ≡ next_of r log s
  unfolding next_of
  next-refused h = sym (le-no (length s.buffer) 2147483647 (next_from (suc (3 * (reading r).term)) r log s) (giving s (Err IllegalArgument)) h)

  pub next-from : length s.buffer ≤ 2147483647 → next_from (suc (3 * (reading r).term)) r log s ≡ next_of r log s
  unfolding next_of
  next-from h = sym (le_yes (length s.buffer) 2147483647 (next_from (suc (3 * (reading r).term)) r log s) (giving s (Err IllegalArgument)) h)

  pub next-starts : (w : ℕ) → w ≡ word r.term_length → length s.buffer ≤ 2147483647 → next_from (3 * w + 1) r log s ≡ next_of r log s
  unfolding reading_of
  next-starts w e h =
      ap (λ (n : ℕ). next_from n r log s) (let x : 3 * w + 1 ≡ suc (3 * word r.term_length) = omega (arith, e) in x) ∙ next-from h

-- ---- a whole log, counted

module _ (r : LogRecord) (log : List ℕ) (s : ReplayState) (messages bytes : ℕ) where
  pub count_none : (left : ℕ) → left ≡ 0 → ◌≡◌ {A = Tally} (record { answer = Ok (record { messages = messages; bytes = bytes }); buffer = s.buffer }) (count_from left r log s messages bytes)
  unfolding count_from
  count_none left e = sym (ap (λ (n : ℕ). count_from n r log s messages bytes) e)

  -- one reply more
  module _ (left : ℕ) (h : 0 < left) (y : NextReply) (e : y ≡ next_of r log s) where
    counts : cond (gives_by y.answer) (count_from (left - 1) r log y.next (messages + 1) (added_to bytes (length_by y.answer)))
        (record { answer = counted_by y.answer messages bytes; buffer = y.next.buffer })
        ≡ count_from left r log s messages bytes
    unfolding count_from
    counts =
        let l : suc (left - 1) ≡ left = omega arith in
        ap (λ (x : NextReply). cond (gives_by x.answer) (count_from (left - 1) r log x.next (messages + 1) (added_to bytes (length_by x.answer))) (record { answer = counted_by x.answer messages bytes; buffer = x.next.buffer })) e
        ∙ ap (λ (n : ℕ). count_from n r log s messages bytes) l

    pub count-stops : gives_by y.answer ≡ false → ◌≡◌ {A = Tally} (record { answer = counted_by y.answer messages bytes; buffer = y.next.buffer }) (count_from left r log s messages bytes)
    count-stops f = sym (cond-false (gives_by y.answer) (count_from (left - 1) r log y.next (messages + 1) (added_to bytes (length_by y.answer))) _ f) ∙ counts

    pub count-goes : gives_by y.answer ≡ true → count_from (left - 1) r log y.next (messages + 1) (added_to bytes (length_by y.answer)) ≡ count_from left r log s messages bytes
    count-goes f = sym (cond-true (gives_by y.answer) _ (record { answer = counted_by y.answer messages bytes; buffer = y.next.buffer }) f) ∙ counts

pub count-starts : (r : LogRecord) (log : List ℕ) (p : Replay) (from session : ℤ) (buffer : List ℕ) (w : ℕ)
    → image_state p.image ≡ new_image from session → sessions_of p.assembler ≡ fresh → w ≡ word r.term_length
    → count_from (3 * w + 1 - 0) r log (state_of p buffer) 0 0 ≡ count_of r log from session buffer
unfolding reading_of
count-starts r log p from session buffer w ei es ew =
    let n : 3 * w + 1 - 0 ≡ 3 * word r.term_length + 1 = omega (arith, ew) in
    ap (λ (m : ℕ). count_from m r log (state_of p buffer) 0 0) n
    ∙ ap₂ (λ (i : Image) (s : Sessions). count_from (3 * word r.term_length + 1) r log (record { image = i; sessions = s; buffer = buffer }) 0 0) ei es
