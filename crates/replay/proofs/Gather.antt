-- Data frames taken as they lie, step by step; and a replay goes on behind them as from the first of them.
use Rattle.std.specs.Prelude.{Result, Ok, Err}
use Rattle.model.specs.declared.Error.{Error}
use Prim.Native.Nat.{ℕ, zero, suc, ◌+◌, ◌-◌, ◌*◌, ◌<◌}
use mathlib.Core.Path.{◌≡◌, refl, sym, ap, ap₂, subst, ◌∙◌}
use mathlib.Core.Bool.{Bool, true, false, cond, not, ◌&&◌}
use mathlib.Core.List.{List, []}
use native.Mathlib.Omega.{arith}
use lib.Dec.{eqb, leb}
use lib.IntN.{ℤ, pos}
use lib.ListN.{length}
use mir.Syntax.{w64}
use mir.Val.{to_z, SFits}
use mir.Facts.{to_z-of_z, to_z_pos}
use Rattle.model.specs.declared.LogRecord.{LogRecord}
use Rattle.model.specs.declared.Reading.{Reading}
use Rattle.model.specs.declared.Polled.{Polled}
use Rattle.model.specs.declared.ReadVerdict.{ReadVerdict}
use Rattle.model.specs.declared.ReadVerdict.TheVariants.{Read, Closed}
use Rattle.model.specs.declared.Assembled.{Assembled}
use Rattle.model.specs.declared.Assembled.TheVariants.{Nothing, Fragment, Message}
use Rattle.model.specs.declared.Replayed.{Replayed}
use Rattle.model.specs.declared.Replayed.TheVariants.{End}
use Rattle.model.specs.Bytes.{long}
use Rattle.model.specs.FrameDescriptor.{align}
use Rattle.model.specs.LogBufferDescriptor.{reading, partition_of, sound}
use Rattle.model.specs.TermReader.{good_entries}
use Rattle.model.specs.Image.{Image, moved_to, image_by, walk_at, poll_verdict, poll_of}
use Rattle.model.specs.FragmentAssembler.{Sessions, Assembly}
use Rattle.model.specs.Replay.{ReplayState, NextReply, giving, given_by, assembled_to, poll_one, assemble_one, is_over, turn_by, next_from, next_of}
use Rattle.model.proofs.Choice.{cond-case, cond-true, cond-false, eq_yes, eq_no}
use Rattle.model.proofs.Sound.{sound-true}
use Rattle.replay.specs.InPlace.{stop_at, index_at, data_at, open_term, replied_by, is_refused}
use Rattle.replay.specs.Replays.{elsewhere_on, stops, goes_on, turn_of}
use Rattle.replay.specs.Gather.{Gathering, joined_here, led_by, gather_from, is_end}
use Rattle.replay.proofs.Turns.{next-stops, next-goes}
use Rattle.replay.proofs.InPlace.{DataAt, Open, data-found, data-lies, open-found, open-moved, stop-high, given-turn, given-long, given-ids, refused-left, placed_turn, placed-refused, placed-stops, placed_on, refusal-of}

-- ---- one frame

-- what is led to, by its parts
abbrev pub led_to : ℕ → ℕ → Sessions → List ℕ → Result Replayed Error → Gathering
led_to left p s buffer answer = record { left = left; position = p; sessions = s; buffer = buffer; answer = answer }

-- a reply is told where a frame gave one
replied-so : (p n : ℕ) (a : Result Assembled Error) → elsewhere_on a ≡ false → is_end (replied_by p n a) ≡ false
replied-so p n (Ok Nothing) h = absurd (let z : ◌≡◌ {A = ℕ} 0 1 = cc in omega arith)
replied-so p n (Ok (Fragment at m)) h = refl
replied-so p n (Ok (Message at m)) h = refl
replied-so p n (Err e) h = refl

refused-off : (a : Result Assembled Error) → is_refused a ≡ true → elsewhere_on a ≡ false
refused-off (Ok Nothing) h = absurd (let z : ◌≡◌ {A = ℕ} 0 1 = cc in omega arith)
refused-off (Ok (Fragment at m)) h = refl
refused-off (Ok (Message at m)) h = refl
refused-off (Err e) h = refl

nothing_ends : (p n : ℕ) (a : Result Assembled Error) → elsewhere_on a ≡ true → is_end (replied_by p n a) ≡ true
nothing_ends p n (Ok Nothing) h = refl
nothing_ends p n (Ok (Fragment at m)) h = absurd (let z : ◌≡◌ {A = ℕ} 0 1 = cc in omega arith)
nothing_ends p n (Ok (Message at m)) h = absurd (let z : ◌≡◌ {A = ℕ} 0 1 = cc in omega arith)
nothing_ends p n (Err e) h = absurd (let z : ◌≡◌ {A = ℕ} 0 1 = cc in omega arith)

-- where it comes to from there: it goes on if nothing came of the frames so far
abbrev pub gone_on : List ℕ → ℕ → ℕ → Gathering → Gathering
gone_on log term stop g = cond (is_end g.answer) (gather_from g.left log term stop g.position g.sessions g.buffer) g

module _ (log : List ℕ) (term stop p : ℕ) (s : Sessions) (buffer : List ℕ) (left : ℕ) where
  abbrev J : Assembly
  J = joined_here log term p s buffer

  pub gather_none : left ≡ 0 → led_to left p s buffer (Ok End) ≡ gather_from left log term stop p s buffer
  unfolding gather_from
  gather_none e = ap (λ (x : ℕ). led_to x p s buffer (Ok End)) e ∙ sym (ap (λ (x : ℕ). gather_from x log term stop p s buffer) e)

  -- a data frame of so many bytes, or none
  module _ (h : 0 < left) (n : ℕ) (is : n ≡ data_at log term stop p) where
    abbrev onward : ℕ → ℕ → Gathering
    onward n m = gather_from m log term stop (p + align n) J.next J.buffer

    -- a step, by its tests
    abbrev tested : ℕ → ℕ → Gathering
    tested n m =
        cond (is_refused J.answer) (led_to (suc m) p s J.buffer (replied_by (index_at term p) n J.answer))
        (cond (elsewhere_on J.answer) (onward n m) (led_to m (p + align n) J.next J.buffer (replied_by (index_at term p) n J.answer)))

    abbrev step_by : ℕ → ℕ → Gathering
    step_by n m = cond (eqb n 0) (led_to (suc m) p s buffer (Ok End)) (tested n m)

    back : suc (left - 1) ≡ left
    back = omega arith

    step : step_by n (left - 1) ≡ gather_from left log term stop p s buffer
    unfolding gather_from
    step = ap (λ (x : ℕ). step_by x (left - 1)) is ∙ ap (λ (x : ℕ). gather_from x log term stop p s buffer) back

    pub gather-stays : n ≡ 0 → led_to left p s buffer (Ok End) ≡ gather_from left log term stop p s buffer
    gather-stays e = ap (λ (x : ℕ). led_to x p s buffer (Ok End)) (sym back) ∙ sym (eq_yes n 0 (led_to (suc (left - 1)) p s buffer (Ok End)) (tested n (left - 1)) e) ∙ step

    module _ (some : ¬ (n ≡ 0)) where
      taken : tested n (left - 1) ≡ gather_from left log term stop p s buffer
      taken = sym (eq_no n 0 (led_to (suc (left - 1)) p s buffer (Ok End)) (tested n (left - 1)) some) ∙ step

      pub gather-refused : is_refused J.answer ≡ true → led_to left p s J.buffer (replied_by (index_at term p) n J.answer) ≡ gather_from left log term stop p s buffer
      gather-refused e =
          ap (λ (x : ℕ). led_to x p s J.buffer (replied_by (index_at term p) n J.answer)) (sym back) ∙ sym (cond-true (is_refused J.answer) _ _ e) ∙ taken

      pub gather-goes : is_refused J.answer ≡ false → elsewhere_on J.answer ≡ true → onward n (left - 1) ≡ gather_from left log term stop p s buffer
      gather-goes e f = sym (cond-false (is_refused J.answer) _ _ e ∙ cond-true (elsewhere_on J.answer) _ _ f) ∙ taken

      pub gather-stops : is_refused J.answer ≡ false → elsewhere_on J.answer ≡ false
          → led_to (left - 1) (p + align n) J.next J.buffer (replied_by (index_at term p) n J.answer) ≡ gather_from left log term stop p s buffer
      gather-stops e f = sym (cond-false (is_refused J.answer) _ _ e ∙ cond-false (elsewhere_on J.answer) _ _ f) ∙ taken

      -- where it leads by itself, and on from there
      pub led_on : gone_on log term stop (led_by left p n (index_at term p) s J) ≡ gather_from left log term stop p s buffer
      led_on = go (is_refused J.answer) (elsewhere_on J.answer) refl refl
        where
          go : (b c : Bool) → is_refused J.answer ≡ b → elsewhere_on J.answer ≡ c → gone_on log term stop (led_by left p n (index_at term p) s J) ≡ gather_from left log term stop p s buffer
          go true c e f =
              ap (gone_on log term stop) (cond-true (is_refused J.answer) _ (led_to (left - 1) (p + align n) J.next J.buffer (replied_by (index_at term p) n J.answer)) e)
              ∙ cond-false (is_end (replied_by (index_at term p) n J.answer)) _ _ (replied-so (index_at term p) n J.answer (refused-off J.answer e)) ∙ gather-refused e
          go false true e f =
              ap (gone_on log term stop) (cond-false (is_refused J.answer) (led_to left p s J.buffer (replied_by (index_at term p) n J.answer)) _ e)
              ∙ cond-true (is_end (replied_by (index_at term p) n J.answer)) _ _ (nothing_ends (index_at term p) n J.answer f) ∙ gather-goes e f
          go false false e f =
              ap (gone_on log term stop) (cond-false (is_refused J.answer) (led_to left p s J.buffer (replied_by (index_at term p) n J.answer)) _ e)
              ∙ cond-false (is_end (replied_by (index_at term p) n J.answer)) _ _ (replied-so (index_at term p) n J.answer f) ∙ gather-stops e f

-- one that goes on has taken a turn
pub led-left : (left p n i : ℕ) (s : Sessions) (a : Assembly) → is_end (led_by left p n i s a).answer ≡ true → (led_by left p n i s a).left ≡ left - 1
led-left left p n i s a h = go (is_refused a.answer) refl
  where
    go : (b : Bool) → is_refused a.answer ≡ b → (led_by left p n i s a).left ≡ left - 1
    go true e =
        absurd (let x = sym h ∙ ap (λ (g : Gathering). is_end g.answer) (cond-true (is_refused a.answer) (led_to left p s a.buffer (replied_by i n a.answer)) _ e) ∙ replied-so i n a.answer (refused-off a.answer e) in
        let z : ◌≡◌ {A = ℕ} 0 1 = cc in omega arith)
    go false e = ap (λ (g : Gathering). g.left) (cond-false (is_refused a.answer) _ (led_to (left - 1) (p + align n) a.next a.buffer (replied_by i n a.answer)) e)

-- a frame that is taken: the reply that it gives is the last, or the frames behind it follow
module _ (log : List ℕ) (term stop p : ℕ) (s : Sessions) (buffer : List ℕ) (left : ℕ) (h : 0 < left) (n : ℕ) (is : n ≡ data_at log term stop p) (some : ¬ (n ≡ 0))
    (g : Gathering) (e : g ≡ led_by left p n (index_at term p) s (joined_here log term p s buffer)) where
  on : gone_on log term stop g ≡ gather_from left log term stop p s buffer
  on = ap (gone_on log term stop) e ∙ led_on log term stop p s buffer left h n is some

  pub taken_last : is_end g.answer ≡ false → g ≡ gather_from left log term stop p s buffer
  taken_last f = sym (cond-false (is_end g.answer) (gather_from g.left log term stop g.position g.sessions g.buffer) g f) ∙ on

  pub taken_on : (less : ℕ) → less ≡ left - 1 → is_end g.answer ≡ true → gather_from less log term stop g.position g.sessions g.buffer ≡ gather_from left log term stop p s buffer
  taken_on less one f =
      let one_less : g.left ≡ left - 1 = ap (λ (x : Gathering). x.left) e
      ∙ led-left left p n (index_at term p) s (joined_here log term p s buffer) (sym (ap (λ (x : Gathering). is_end x.answer) e) ∙ f) in
      ap (λ (k : ℕ). gather_from k log term stop g.position g.sessions g.buffer) (one ∙ sym one_less)
      ∙ sym (cond-true (is_end g.answer) (gather_from g.left log term stop g.position g.sessions g.buffer) g f) ∙ on

-- ---- from the first frame on

module _ (r : LogRecord) (log : List ℕ) where
  -- where it stands behind them
  abbrev pub behind : Image → Gathering → ReplayState
  behind i g = record { image = moved_to i (to_z w64 g.position); sessions = g.sessions; buffer = g.buffer }

  -- and what it then answers
  abbrev pub resumed : Image → Gathering → NextReply
  resumed i g = cond (is_end g.answer) (next_from g.left r log (behind i g)) (giving (behind i g) g.answer)

  abbrev stop : ℕ
  stop = stop_at (reading r)

  abbrev from : ℕ → ℕ → ReplayState → Gathering
  from left term s = gather_from left log term stop (long s.image.position) s.sessions s.buffer

  -- no frame passed
  stays : (left : ℕ) (s : ReplayState) → SFits w64 s.image.position → resumed s.image (led_to left (long s.image.position) s.sessions s.buffer (Ok End)) ≡ next_from left r log s
  stays left s f = ap (λ (z : ℤ). next_from left r log (record { image = moved_to s.image z; sessions = s.sessions; buffer = s.buffer })) (to_z-of_z f)

  -- a reply by a frame
  replies : (left : ℕ) (i : Image) (p n x : ℕ) (z : ℤ) (t : Sessions) (b c : List ℕ) (a : Result Assembled Error) → elsewhere_on a ≡ false → to_z w64 p ≡ z → b ≡ c
      → resumed i (led_to left p t b (replied_by x n a)) ≡ giving (record { image = moved_to i z; sessions = t; buffer = c }) (replied_by x n a)
  replies left i p n x z t b c a h e f =
      cond-false (is_end (replied_by x n a)) _ _ (replied-so x n a h)
      ∙ ap₂ (λ (y : ℤ) (d : List ℕ). giving (record { image = moved_to i y; sessions = t; buffer = d }) (replied_by x n a)) e f

  -- at a data frame, with what follows it
  module _ (s : ReplayState) (term : ℕ) (t : term ≡ open_term s.image (reading r) (length log) (length s.buffer)) (ids : length s.sessions.ids ≡ 16) (f : SFits w64 s.image.position)
      (n : ℕ) (e : data_at log term stop (long s.image.position) ≡ n) (some : 0 < n) (left : ℕ) where
    abbrev p : ℕ
    p = long s.image.position

    abbrev T : ℕ
    T = (reading r).term

    there : DataAt log term stop p n
    there = data-found log term stop p n e some

    opens : Open s.image (reading r) (length log) (length s.buffer) term
    opens = open-found _ _ _ _ term (sym t) there.some

    here : DataAt log T stop p n
    here = subst (λ (x : ℕ). DataAt log x stop p n) (sym opens.term_is) there

    is : n ≡ data_at log T stop p
    is = sym e ∙ ap (λ (x : ℕ). data_at log x stop p) (sym opens.term_is)

    none : ¬ (n ≡ 0)
    none q = omega (arith, some, q)

    abbrev X : ℕ
    X = index_at T p

    abbrev A : Assembly
    A = joined_here log T p s.sessions s.buffer

    abbrev moved : ReplayState
    moved = assembled_to (moved_to s.image (pos (p + align n))) A

    near : p + align n < 9223372036854775808
    near =
        let k = sound-true _ _ opens.sound-so in
        let y = data-lies _ _ _ _ _ here in
        omega (arith, here.below, stop-high (reading r), k.term-high, y.small)

    -- the next frame may be taken as it lies too
    next-opens : T ≡ open_term moved.image (reading r) (length log) (length moved.buffer)
    next-opens =
        opens.term_is ∙ t ∙ sym (open-moved s.image (pos (p + align n)) (reading r) (length log) (length s.buffer))
        ∙ ap (open_term (moved_to s.image (pos (p + align n))) (reading r) (length log)) (sym (given-long r log s n opens.sound-so opens.is_open opens.lent-so here ids))

    next-ids : length moved.sessions.ids ≡ 16
    next-ids = given-ids r log s n opens.sound-so opens.is_open opens.lent-so here ids

    turn_is : turn_of r log s ≡ placed_turn s moved X n A.answer
    turn_is = given-turn r log s n opens.sound-so opens.is_open opens.lent-so here ids A.answer refl

    one : suc left - 1 ≡ left
    one = omega arith

    by : (b c : Bool) → is_refused A.answer ≡ b → elsewhere_on A.answer ≡ c → resumed moved.image (from left T moved) ≡ next_from left r log moved
        → resumed s.image (from (suc left) T s) ≡ next_from (suc left) r log s
    by true c eb ec ih =
        let x = refusal-of A.answer eb in
        ap (resumed s.image) (sym (gather-refused log T stop p s.sessions s.buffer (suc left) (omega arith) n is none eb))
        ∙ replies (suc left) s.image p n X s.image.position s.sessions A.buffer s.buffer A.answer (refused-off A.answer eb) (to_z-of_z f)
        (refused-left r log s n opens.sound-so opens.is_open opens.lent-so here ids x.0 x.1)
        ∙ next-stops r log s (stops s (replied_by X n A.answer)) (sym (turn_is ∙ placed-refused s moved X n A.answer eb)) (suc left) (omega arith) (replied_by X n A.answer) refl
    by false true eb ec ih =
        ap (resumed s.image) (sym (gather-goes log T stop p s.sessions s.buffer (suc left) (omega arith) n is none eb ec))
        ∙ ap (λ (m : ℕ). resumed s.image (from m T moved)) one ∙ ih ∙ ap (λ (m : ℕ). next_from m r log moved) (sym one)
        ∙ next-goes r log s (goes_on moved) (sym (turn_is ∙ placed_on s moved X n A.answer ec)) (suc left) (omega arith) refl
    by false false eb ec ih =
        ap (resumed s.image) (sym (gather-stops log T stop p s.sessions s.buffer (suc left) (omega arith) n is none eb ec))
        ∙ replies (suc left - 1) s.image (p + align n) n X (pos (p + align n)) A.next A.buffer A.buffer A.answer ec (to_z_pos w64 near) refl
        ∙ next-stops r log s (stops moved (replied_by X n A.answer)) (sym (turn_is ∙ placed-stops s moved X n A.answer eb ec)) (suc left) (omega arith) (replied_by X n A.answer) refl

    passes : resumed moved.image (from left T moved) ≡ next_from left r log moved → resumed s.image (from (suc left) term s) ≡ next_from (suc left) r log s
    passes ih = ap (λ (x : ℕ). resumed s.image (from (suc left) x s)) (sym opens.term_is) ∙ by (is_refused A.answer) (elsewhere_on A.answer) refl refl ih

  pub gather-next : (left : ℕ) (s : ReplayState) (term : ℕ) → term ≡ open_term s.image (reading r) (length log) (length s.buffer) → length s.sessions.ids ≡ 16 → SFits w64 s.image.position
      → resumed s.image (from left term s) ≡ next_from left r log s
  gather-next zero s term t ids f = ap (resumed s.image) (sym (gather_none log term stop (long s.image.position) s.sessions s.buffer zero refl)) ∙ stays zero s f
  gather-next (suc left) s term t ids f = go (λ u. gather-next left u (reading r).term) (data_at log term stop (long s.image.position)) refl
    where
      go : ((u : ReplayState) → (reading r).term ≡ open_term u.image (reading r) (length log) (length u.buffer) → length u.sessions.ids ≡ 16 → SFits w64 u.image.position
          → resumed u.image (from left (reading r).term u) ≡ next_from left r log u)
          → (n : ℕ) → data_at log term stop (long s.image.position) ≡ n → resumed s.image (from (suc left) term s) ≡ next_from (suc left) r log s
      go ih zero e =
          ap (resumed s.image) (sym (gather-stays log term stop (long s.image.position) s.sessions s.buffer (suc left) (omega arith) 0 (sym e) refl)) ∙ stays (suc left) s f
      go ih (suc m) e =
          passes s term t ids f (suc m) e (omega arith) left
          (ih (moved s term t ids f (suc m) e (omega arith) left) (next-opens s term t ids f (suc m) e (omega arith) left) (next-ids s term t ids f (suc m) e (omega arith) left)
          (record { sfits = near s term t ids f (suc m) e (omega arith) left }))

-- ---- an image that is open stays open

image-closed : (i : Image) (n : ℕ) (x : Result ReadVerdict Error) → (image_by i n x).closed ≡ i.closed
image-closed i n (Ok Read) = refl
image-closed i n (Ok Closed) = refl
image-closed i n (Err e) = refl

module _ (r : LogRecord) (log : List ℕ) where
  poll-closed : (i : Image) → (poll_one r log i).next.closed ≡ i.closed
  unfolding poll_of
  poll-closed i =
      image-closed i (walk_at (reading r) log (long i.position) (reading r).term 1 []).moved (poll_verdict (reading r) log i (good_entries 2 1) (reading r).term 1)

  given-closed : (base : ℕ) (s t : ReplayState) (a : Result Assembled Error) (go : ReplayState → NextReply) → t.image.closed ≡ s.image.closed → (go t).next.image.closed ≡ s.image.closed
      → (given_by base s t a go).next.image.closed ≡ s.image.closed
  given-closed base s t (Ok Nothing) go e f = f
  given-closed base s t (Ok (Fragment at n)) go e f = e
  given-closed base s t (Ok (Message at n)) go e f = e
  given-closed base s t (Err x) go e f = refl

  turn-closed : (s : ReplayState) (x : Result Polled Error) (go : ReplayState → NextReply) → ((t : ReplayState) → (go t).next.image.closed ≡ t.image.closed) → (turn_by r log s x go).next.image.closed ≡ s.image.closed
  turn-closed s (Err e) go k = refl
  turn-closed s (Ok polled) go k =
      cond-case (λ (y : NextReply). y.next.image.closed ≡ s.image.closed) (eqb polled.entries 0) _ _
      (λ _. cond-case (λ (y : NextReply). y.next.image.closed ≡ s.image.closed) (eqb (long (poll_one r log s.image).next.position) (long s.image.position)) (giving s (Ok End)) _ (λ _. refl) (λ _. k _ ∙ poll-closed s.image))
      (λ _. given-closed (partition_of (long s.image.position) (reading r).term * (reading r).term) s (assembled_to (poll_one r log s.image).next (assemble_one r log s)) (assemble_one r log s).answer go (poll-closed s.image) (k _ ∙ poll-closed s.image))

  from-closed : (fuel : ℕ) (s : ReplayState) → (next_from fuel r log s).next.image.closed ≡ s.image.closed
  unfolding next_from
  from-closed zero s = refl
  from-closed (suc fuel) s =
      cond-case (λ (y : NextReply). y.next.image.closed ≡ s.image.closed) (is_over r log s.image.position) (giving s (Ok End)) _ (λ _. refl)
      (λ _. turn-closed s (poll_one r log s.image).answer (λ t. next_from fuel r log t) (from-closed fuel))

  -- so the term may be kept from one reply to the next
  pub open_kept : (s : ReplayState) (y : NextReply) (v : Reading) (n lent : ℕ) → y ≡ next_of r log s → open_term y.next.image v n lent ≡ open_term s.image v n lent
  unfolding next_of open_term
  open_kept s y v n lent e =
      ap (λ (c : Bool). cond (leb lent 2147483647 && (not c && sound v n)) v.term 0)
      (ap (λ (x : NextReply). x.next.image.closed) e
      ∙ cond-case (λ (x : NextReply). x.next.image.closed ≡ s.image.closed) (leb (length s.buffer) 2147483647) _ _ (λ _. from-closed (suc (3 * (reading r).term)) s) (λ _. refl))
