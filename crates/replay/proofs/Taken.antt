-- The batches of a replay give what its replies give: each lays some of the messages that are left, and leaves a replay that gives the rest.
use Rattle.std.specs.Prelude.{Result, Ok, Err}
use Rattle.model.specs.declared.Error.{Error}
use Prim.Native.Nat.{ℕ, zero, suc, ◌+◌, ◌*◌, ◌/◌, ◌≤◌, ◌<◌}
use mathlib.Core.Path.{◌≡◌, refl, sym, ap, ap₂, ◌∙◌, subst}
use mathlib.Core.Bool.{cond}
use mathlib.Core.Logic.{◌⊎◌, inl, inr, ⊎_elim}
use mathlib.Core.List.{List, [], ◌∷◌, ◌++◌, append_assoc, append-nil}
use native.Mathlib.Omega.{arith}
use lib.Dec.{eqb}
use lib.ListN.{length, take, drop, get_or, set, length-set, length-append}
use lib.Seq.{get_or-set_same, get_or-set_other}
use lib.IntN.{ℤ, pos}
use Rattle.model.specs.declared.LogRecord.{LogRecord}
use Rattle.model.specs.declared.Error.TheVariants.{IllegalArgument}
use Rattle.model.specs.declared.Replayed.{Replayed}
use Rattle.model.specs.declared.Replayed.TheVariants.{InLog, InBuffer, End}
use Rattle.model.specs.Bytes.{long}
use Rattle.model.specs.Image.{Image, new_image}
use Rattle.model.specs.FragmentAssembler.{Sessions, fresh}
use Rattle.model.specs.Replay.{ReplayState, NextReply, from_start, next_of, standing, message_by, replayed}
use Rattle.model.specs.Demand.{GivesAll}
use Rattle.model.proofs.Choice.{split, same?}
use Rattle.replay.specs.declared.Replay.{Replay}
use Rattle.replay.specs.Replays.{state_of}
use Rattle.replay.specs.Batches.{Batch, laid_at, batch_reply_of, batch_by, batch_from, batch_of}
use Rattle.replay.specs.History.{Batching, laid_by, laid_out, taken}
use Rattle.replay.proofs.Turns.{next-refused}
use Rattle.replay.proofs.Batching.{batch-starts}

-- ---- four numbers in a lent slice

module _ (slots : List ℕ) (i place from n position : ℕ) (h : 4 * i + 4 ≤ length slots) where
  abbrev one : List ℕ
  one = set slots (4 * i) place

  abbrev two : List ℕ
  two = set one (4 * i + 1) from

  abbrev three : List ℕ
  three = set two (4 * i + 2) n

  laid-long : length (laid_at slots i place from n position) ≡ length slots
  laid-long = simp length-set

  laid-place : get_or (laid_at slots i place from n position) (4 * i) 0 ≡ place
  laid-place =
      get_or-set_other three (4 * i + 3) (4 * i) position 0 (λ e. omega arith) ∙ get_or-set_other two (4 * i + 2) (4 * i) n 0 (λ e. omega arith)
      ∙ get_or-set_other one (4 * i + 1) (4 * i) from 0 (λ e. omega arith) ∙ get_or-set_same slots (4 * i) place 0 (omega arith)

  laid_from : get_or (laid_at slots i place from n position) (4 * i + 1) 0 ≡ from
  laid_from =
      get_or-set_other three (4 * i + 3) (4 * i + 1) position 0 (λ e. omega arith) ∙ get_or-set_other two (4 * i + 2) (4 * i + 1) n 0 (λ e. omega arith)
      ∙ get_or-set_same one (4 * i + 1) from 0 (omega (arith, length-set slots (4 * i) place))

  laid-length : get_or (laid_at slots i place from n position) (4 * i + 2) 0 ≡ n
  laid-length =
      get_or-set_other three (4 * i + 3) (4 * i + 2) position 0 (λ e. omega arith)
      ∙ get_or-set_same two (4 * i + 2) n 0 (omega (arith, length-set slots (4 * i) place, length-set one (4 * i + 1) from))

  laid-else : (j : ℕ) → j < 4 * i → get_or (laid_at slots i place from n position) j 0 ≡ get_or slots j 0
  laid-else j l =
      get_or-set_other three (4 * i + 3) j position 0 (λ e. omega arith) ∙ get_or-set_other two (4 * i + 2) j n 0 (λ e. omega arith)
      ∙ get_or-set_other one (4 * i + 1) j from 0 (λ e. omega arith) ∙ get_or-set_other slots (4 * i) j place 0 (λ e. omega arith)

abbrev message : List ℕ → List ℕ → ℕ → ℕ → ℕ → List ℕ
message log buffer place from n = take n (drop from (cond (eqb place 1) log buffer))

message-as : (log buffer : List ℕ) (p p' f f' n n' : ℕ) → p ≡ p' → f ≡ f' → n ≡ n' → message log buffer p f n ≡ message log buffer p' f' n'
message-as log buffer p p' f f' n n' a b c = ap (λ (x : ℕ). message log buffer x f n) a ∙ ap₂ (message log buffer p') b c

long-out : (log buffer numbers : List ℕ) (i n : ℕ) → length (laid_out log buffer numbers i n) ≡ n
unfolding laid_out
long-out log buffer numbers i zero = refl
long-out log buffer numbers i (suc n) = ap suc (long-out log buffer numbers (i + 1) n)

no_length : (ms : List (List ℕ)) → length ms ≡ 0 → ms ≡ []
no_length [] h = refl
no_length (m ∷ ms) h = absurd (omega arith)

-- ---- replies, one after another

module _ (r : LogRecord) (log : List ℕ) where
  -- from a state the replies give these messages, and then the end at every call
  record Gives (s : ReplayState) (ms : List (List ℕ)) : Type 0 where
    each : (most : ℕ) → length ms < most → replayed most r log s ≡ ms
    ended : (n : ℕ) → length ms ≤ n → (next_of r log (standing n r log s)).answer ≡ Ok End

  -- one reply and the state that it leaves
  record More (t : ReplayState) (m : List ℕ) (ms : List (List ℕ)) : Type 0 where
    rest : List (List ℕ)
    is : ms ≡ m ∷ rest
    after : Gives t rest

  abbrev Step : ReplayState → List (List ℕ) → Result Replayed Error → Type 0
  Step t ms (Ok (InLog from n)) = More t (take n (drop from log)) ms
  Step t ms (Ok (InBuffer at n)) = More t (take n (drop at t.buffer)) ms
  Step t ms (Ok End) = (ms ≡ []) × Gives t []
  Step t ms (Err e) = ⊥

  module _ (s : ReplayState) (ms : List (List ℕ)) (g : Gives s ms) where
    abbrev t· : ReplayState
    t· = (next_of r log s).next

    all : (a : Result Replayed Error) → (next_of r log s).answer ≡ a → (most : ℕ) → length ms ≤ most → message_by log t· a (replayed most r log t·) ≡ ms
    unfolding replayed
    all a e most h = ap (λ (x : Result Replayed Error). message_by log t· x (replayed most r log t·)) (sym e) ∙ g.each (suc most) (omega arith)

    later : (n : ℕ) → length ms ≤ suc n → (next_of r log (standing n r log t·)).answer ≡ Ok End
    unfolding standing
    later n h = g.ended (suc n) h

    now-ended : ms ≡ [] → (next_of r log s).answer ≡ Ok End
    unfolding standing
    now-ended e = g.ended 0 (omega (arith, ap length e))

    one_more : (m : List ℕ) → ((most : ℕ) → length ms ≤ most → m ∷ replayed most r log t· ≡ ms) → More t· m ms
    one_more m f =
        let e : ms ≡ m ∷ replayed (length ms) r log t· = sym (f (length ms) (omega arith)) in
        record {
          rest = replayed (length ms) r log t·;
          is = e;
          after = record {
            each = λ most h. let q : m ∷ replayed most r log t· ≡ m ∷ replayed (length ms) r log t· = f most (omega (arith, ap length e)) ∙ e in cc;
            ended = λ n h. later n (omega (arith, ap length e));
          };
        }

    step : (a : Result Replayed Error) → (next_of r log s).answer ≡ a → Step t· ms a
    unfolding replayed standing
    step (Ok (InLog from n)) e = one_more (take n (drop from log)) (all (Ok (InLog from n)) e)
    step (Ok (InBuffer at n)) e = one_more (take n (drop at t·.buffer)) (all (Ok (InBuffer at n)) e)
    step (Ok End) e = (none, record { each = λ most h. ends most h; ended = λ n h. later n (omega (arith, ap length none)) })
      where
        none : ms ≡ []
        none = sym (all (Ok End) e (length ms) (omega arith))

        ends : (most : ℕ) → 0 < most → replayed most r log t· ≡ []
        ends zero h = absurd (omega arith)
        ends (suc most) h = ap (λ (x : Result Replayed Error). message_by log (next_of r log t·).next x (replayed most r log (next_of r log t·).next)) (later 0 (omega (arith, ap length none)))
    step (Err x) e =
        let q = now-ended (sym (all (Err x) e (length ms) (omega arith))) in
        let z : ◌≡◌ {A = ℕ} 0 1 = cc in omega arith

    -- row 1 let the lent buffer pass
    passed : length s.buffer ≤ 2147483647
    passed =
        split (length s.buffer) 2147483647 (λ h. h)
        (λ h. absurd (step (Err IllegalArgument) (sym (ap (λ (y : NextReply). y.answer) (next-refused r log s h)))))

  -- ---- one batch

  -- what so many replies lay from message i on
  record Lays (left : ℕ) (slots : List ℕ) (i : ℕ) (ms : List (List ℕ)) (b : Batch) : Type 0 where
    many : ℕ
    rest : List (List ℕ)
    answer : b.answer ≡ Ok (i + many)
    cut : ms ≡ laid_out log b.next.buffer b.numbers i many ++ rest
    after : Gives b.next rest
    kept : (j : ℕ) → j < 4 * i → get_or b.numbers j 0 ≡ get_or slots j 0
    some : 0 < left → many ≡ 0 → ms ≡ []

  by-reply : (left : ℕ) (t : ReplayState) (slots : List ℕ) (i : ℕ) (ms : List (List ℕ)) (go : List ℕ → Batch) → 4 * (i + suc left) ≤ length slots
      → ((out : List ℕ) (rest : List (List ℕ)) → Gives t rest → 4 * (i + 1 + left) ≤ length out → Lays left out (i + 1) rest (go out))
      → (a : Result Replayed Error) → Step t ms a → Lays (suc left) slots i ms (batch_by t slots i a go)
  unfolding laid_out
  by-reply left t slots i ms go h ih (Ok (InLog from n)) x =
      let p = long t.image.position in
      let out = laid_at slots i 1 from n p in
      let l : 4 * i + 4 ≤ length slots = omega arith in
      let y = ih out x.rest x.after (omega (arith, laid-long slots i 1 from n p l)) in
      let b = go out in
      record {
        many = suc y.many;
        rest = y.rest;
        answer = y.answer ∙ ap Ok (let e : i + 1 + y.many ≡ i + suc y.many = omega arith in e);
        cut = x.is
            ∙ ap₂ (λ (m : List ℕ) (rest : List (List ℕ)). m ∷ rest)
            (message-as log b.next.buffer 1 (get_or b.numbers (4 * i) 0) from (get_or b.numbers (4 * i + 1) 0) n (get_or b.numbers (4 * i + 2) 0)
            (sym (y.kept (4 * i) (omega arith) ∙ laid-place slots i 1 from n p l))
            (sym (y.kept (4 * i + 1) (omega arith) ∙ laid_from slots i 1 from n p l))
            (sym (y.kept (4 * i + 2) (omega arith) ∙ laid-length slots i 1 from n p l)))
            y.cut;
        after = y.after;
        kept = λ j k. y.kept j (omega arith) ∙ laid-else slots i 1 from n p l j k;
        some = λ _ z. absurd (omega arith);
      }
  by-reply left t slots i ms go h ih (Ok (InBuffer at n)) x =
      let p = long t.image.position in
      let l : 4 * i + 4 ≤ length slots = omega arith in
      record {
        many = 1;
        rest = x.rest;
        answer = refl;
        cut = x.is
            ∙ ap (λ (m : List ℕ). m ∷ x.rest)
            (message-as log t.buffer 2 (get_or (laid_at slots i 2 at n p) (4 * i) 0) at (get_or (laid_at slots i 2 at n p) (4 * i + 1) 0) n (get_or (laid_at slots i 2 at n p) (4 * i + 2) 0)
            (sym (laid-place slots i 2 at n p l)) (sym (laid_from slots i 2 at n p l)) (sym (laid-length slots i 2 at n p l)));
        after = x.after;
        kept = λ j k. laid-else slots i 2 at n p l j k;
        some = λ _ z. absurd (omega arith);
      }
  by-reply left t slots i ms go h ih (Ok End) x =
      record {
        many = 0;
        rest = [];
        answer = ap Ok (let e : i ≡ i + 0 = omega arith in e);
        cut = x.0;
        after = x.1;
        kept = λ j k. refl;
        some = λ _ z. x.0;
      }
  by-reply left t slots i ms go h ih (Err e) x = absurd x

  lays : (left : ℕ) (s : ReplayState) (slots : List ℕ) (i : ℕ) (ms : List (List ℕ)) → Gives s ms → 4 * (i + left) ≤ length slots → Lays left slots i ms (batch_from left r log s slots i)
  unfolding batch_from laid_out
  lays zero s slots i ms g h =
      record {
        many = 0;
        rest = ms;
        answer = ap Ok (let e : i ≡ i + 0 = omega arith in e);
        cut = refl;
        after = g;
        kept = λ j k. refl;
        some = λ l z. absurd (omega arith);
      }
  lays (suc left) s slots i ms g h =
      by-reply left (next_of r log s).next slots i ms (λ out. batch_from left r log (next_of r log s).next out (i + 1)) h
      (λ out rest g· l. lays left (next_of r log s).next out (i + 1) rest g· l) (next_of r log s).answer (step s ms g (next_of r log s).answer refl)

  batch-lays : (s : ReplayState) (slots : List ℕ) (ms : List (List ℕ)) → Gives s ms → length slots ≤ 2147483647 → Lays (length slots / 4) slots 0 ms (batch_of r log s slots)
  batch-lays s slots ms g h =
      subst (Lays (length slots / 4) slots 0 ms) (batch-starts r log s slots (passed s ms g) h) (lays (length slots / 4) s slots 0 ms g (omega arith))

  -- ---- batch after batch

  module _ (from : ℕ) (session : ℤ) (lent : List ℕ) (ms : List (List ℕ)) (g₀ : GivesAll (record { record· = r; log = log }) from session lent ms) (x : Batching r log from session lent) where
    abbrev state : ℕ → ReplayState
    state n = state_of (x.replay n) (x.buffer n)

    begins : state 0 ≡ from_start (pos from) session lent
    begins =
        ap₂ (λ (i : Image) (s : Sessions). like i s (x.buffer 0)) x.made.0 x.made.1
        ∙ ap (like (new_image (pos from) session) fresh) x.first
      where
        like : Image → Sessions → List ℕ → ReplayState
        like i s b = record { image = i; sessions = s; buffer = b }

    -- where so many batches leave it: each laid a message at least, unless all were given
    record At (n : ℕ) : Type 0 where
      rest : List (List ℕ)
      cut : ms ≡ taken x n ++ rest
      gives : Gives (state n) rest
      far : (n ≤ length (taken x n)) ⊎ (rest ≡ [])

    module _ (n : ℕ) (a : At n) where
      batch : Lays (length (x.slots n) / 4) (x.slots n) 0 a.rest (batch_reply_of (x.reply n) (x.buffer (suc n)) (x.numbers n))
      batch = subst (Lays (length (x.slots n) / 4) (x.slots n) 0 a.rest) (sym (x.said n)) (batch-lays (state n) (x.slots n) a.rest a.gives (x.some n).1)

      abbrev out : List (List ℕ)
      out = laid_out log (x.buffer (suc n)) (x.numbers n) 0 batch.many

      long· : length a.rest ≡ batch.many + length batch.rest
      long· = ap length batch.cut ∙ length-append out batch.rest ∙ ap (λ (k : ℕ). k + length batch.rest) (long-out log (x.buffer (suc n)) (x.numbers n) 0 batch.many)

      grown : taken x (suc n) ≡ taken x n ++ out
      unfolding taken
      grown =
          ap (λ (b : Result ℕ Error). taken x n ++ laid_out log (x.buffer (suc n)) (x.numbers n) 0 (laid_by b)) batch.answer
          ∙ ap (λ (k : ℕ). taken x n ++ laid_out log (x.buffer (suc n)) (x.numbers n) 0 k) (let e : 0 + batch.many ≡ batch.many = omega arith in e)

      grown-long : length (taken x (suc n)) ≡ length (taken x n) + batch.many
      grown-long = ap length grown ∙ length-append (taken x n) out ∙ ap (λ (k : ℕ). length (taken x n) + k) (long-out log (x.buffer (suc n)) (x.numbers n) 0 batch.many)

      nothing_left : batch.many ≡ 0 → a.rest ≡ []
      nothing_left z = batch.some (omega (arith, (x.some n).0)) z

      on : At (suc n)
      on =
          record {
            rest = batch.rest;
            cut = a.cut ∙ ap (λ (rest : List (List ℕ)). taken x n ++ rest) batch.cut ∙ sym (append_assoc (taken x n) out batch.rest) ∙ ap (λ (f : List (List ℕ)). f ++ batch.rest) (sym grown);
            gives = subst (λ (p : Replay). Gives (state_of p (x.buffer (suc n))) batch.rest) (sym (x.on n)) batch.after;
            far = same? batch.many 0
                (λ z. inr (no_length batch.rest (omega (arith, long·, ap length (nothing_left z)))))
                (λ z. ⊎_elim (λ h. inl (omega (arith, grown-long))) (λ h. inr (no_length batch.rest (omega (arith, long·, ap length h)))) a.far);
          }

    at : (n : ℕ) → At n
    unfolding taken
    at zero =
        record {
          rest = ms;
          cut = refl;
          gives = subst (λ (s : ReplayState). Gives s ms) (sym begins) (record { each = g₀.each; ended = g₀.ended });
          far = inl (omega arith);
        }
    at (suc n) = on n (at n)

    long-cut : (n : ℕ) → length ms ≡ length (taken x n) + length (at n).rest
    long-cut n = ap length (at n).cut ∙ length-append (taken x n) (at n).rest

    all-out : (n : ℕ) → (at n).rest ≡ [] → taken x n ≡ ms
    all-out n e = sym ((at n).cut ∙ ap (λ (rest : List (List ℕ)). taken x n ++ rest) e ∙ append-nil (taken x n))

    pub all-taken : (n : ℕ) → length ms ≤ n → taken x n ≡ ms
    all-taken n h = all-out n (⊎_elim (λ k. no_length (at n).rest (omega (arith, long-cut n))) (λ e. e) (at n).far)

    pub none-laid : (n : ℕ) → taken x n ≡ ms → (x.reply n).answer ≡ Ok 0
    none-laid n e =
        (batch n (at n)).answer ∙ ap Ok (let z : 0 + (batch n (at n)).many ≡ 0 = omega (arith, long-cut n, ap length e, long· n (at n)) in z)

    pub laid_none : (n : ℕ) → (x.reply n).answer ≡ Ok 0 → taken x n ≡ ms
    laid_none n e =
        let q : Ok (0 + (batch n (at n)).many) ≡ Ok 0 = sym (batch n (at n)).answer ∙ e in
        let z : 0 + (batch n (at n)).many ≡ 0 = cc in
        all-out n (nothing_left n (at n) (omega arith))
