-- What callers see of the running functions is what the definitions say, call after call; so the season's theorem and demand 3 hold of them.
use Rattle.std.specs.Prelude.{Result, Ok}
use Rattle.model.specs.declared.Error.{Error}
use Prim.Native.Nat.{ℕ, zero, suc, ◌+◌, ◌-◌, ◌*◌}
use mathlib.Core.Path.{◌≡◌, refl, sym, ap, ap₂, ◌∙◌, subst}
use mathlib.Core.Bool.{Bool, true, false, cond}
use mathlib.Core.Logic.{◌⊎◌, inl, inr, ⊎_elim}
use mathlib.Core.List.{List, [], ◌∷◌, ◌++◌}
use native.Mathlib.Omega.{arith}
use lib.ListN.{drop, get_or}
use lib.IntN.{ℤ, pos}
use Rattle.model.specs.declared.LogRecord.{LogRecord}
use Rattle.model.specs.declared.Assembled.{Assembled}
use Rattle.model.specs.declared.RecordReply.{RecordReply}
use Rattle.model.specs.declared.OfferReply.{OfferReply}
use Rattle.model.specs.declared.ClaimReply.{ClaimReply}
use Rattle.model.specs.Bytes.{long}
use Rattle.model.specs.LogBufferDescriptor.{reading, partition_of}
use Rattle.model.specs.Publication.{open_of}
use Rattle.model.specs.TermReader.{natural}
use Rattle.model.specs.Image.{Image, new_image, poll_of}
use Rattle.model.specs.FragmentAssembler.{Sessions, Assembly, fresh, assemble_of}
use Rattle.model.specs.History.{Call, Answer, offered, claimed, outcome, World, step, answers, left, Shape, messages, learn, Terms, no_terms, tell_terms, AllGiven}
use Rattle.model.specs.Rule.{is_trip}
use Rattle.model.specs.Replay.{Replaying, Polls, handed_out, entries_of, feed, feed_all, round, start, is_below, turn, rounds, QuietPoll, free_rounds, ReplayState, NextReply, from_start, next_of, standing, message_by, replayed}
use Rattle.model.specs.Demand.{Season, Demand3, Replayed, ReplayedFree, GivesAll, Start, from, opened, shape, history}
use Rattle.model.proofs.Season.{season, demand3, Few, few-messages}
use Rattle.model.proofs.Choice.{cond-true, cond-false}
use Rattle.image.specs.declared.Image.{Image as CodeImage}
use Rattle.image.specs.declared.PollReply.{PollReply as CodePoll}
use Rattle.image.specs.Images.{state_of as image_state, image_of, poll_reply_of}
use Rattle.logbuffer.specs.declared.fragment_assembler.FragmentAssembler.{FragmentAssembler}
use Rattle.logbuffer.specs.Assembler.{sessions_of}
use Rattle.replay.specs.declared.Replay.{Replay}
use Rattle.replay.specs.Replays.{state_of}
use Rattle.replay.specs.History.{Opened, by-opening, Called, by-offer, by-claim, by-write, by-commit, by-abort, by-limit, by-close, by-clear, by-raise, Wrote, none, more, AllAnswered, Fed, fed-none, fed-more, Polling, Still, while_below, wherever, Ran, gathered, Replays, Polls0, Upheld, ReplaysHistory}
use Rattle.replay.proofs.Counting.{counts_all}
use Rattle.replay.proofs.Taken.{all-taken, none-laid, laid_none}

-- ---- the writing side

abbrev with-log : LogRecord → List ℕ → World
with-log r log = record { record· = r; log = log }

called_is : {w v : World} {x : Call} {a : Answer} → Called w x a v → (a ≡ (step w x).answer) × (v ≡ (step w x).next)
unfolding step
called_is (by-offer e f) = (ap (λ (r : OfferReply). offered (is_trip r.rule) r.answer) e, ap₂ (λ (r : OfferReply) (l : List ℕ). with-log r.next l) e f)
called_is (by-claim e f) = (ap (λ (r : ClaimReply). claimed (is_trip r.rule) r.answer) e, ap₂ (λ (r : ClaimReply) (l : List ℕ). with-log r.next l) e f)
called_is {w} (by-write e f) = (ap outcome e, ap (with-log w.record·) f)
called_is {w} (by-commit e f) = (ap outcome e, ap (with-log w.record·) f)
called_is {w} (by-abort e f) = (ap outcome e, ap (with-log w.record·) f)
called_is {w} (by-limit e) = (ap (λ (r : RecordReply). outcome r.answer) e, ap (λ (r : RecordReply). with-log r.next w.log) e)
called_is {w} (by-close e) = (ap (λ (r : RecordReply). outcome r.answer) e, ap (λ (r : RecordReply). with-log r.next w.log) e)
called_is (by-clear e f) = (ap (λ (r : RecordReply). outcome r.answer) e, ap₂ (λ (r : RecordReply) (l : List ℕ). with-log r.next l) e f)
called_is {w} (by-raise e) = (ap (λ (r : RecordReply). outcome r.answer) e, ap (λ (r : RecordReply). with-log r.next w.log) e)

-- the calls of a list with their answers
unfoldable calls_of : List (Call × Answer) → List Call
calls_of [] = []
calls_of (t ∷ ts) = t.0 ∷ calls_of ts

wrote-is : {w u : World} {ts : List (Call × Answer)} → Wrote w ts u → (ts ≡ answers w (calls_of ts)) × (u ≡ left w (calls_of ts))
unfolding answers left calls_of
wrote-is none = (refl, refl)
wrote-is {w} (more {v = v} {x = x} {a = a} {ts = ts} c ws) =
    let s = called_is c in
    let t = wrote-is ws in (
      ap₂ (λ (b : Answer) (bs : List (Call × Answer)). (x, b) ∷ bs) s.0 (t.0 ∙ ap (λ (z : World). answers z (calls_of ts)) s.1),
      t.1 ∙ ap (λ (z : World). left z (calls_of ts)) s.1,
    )

given_is : (c : Shape) (ks : _) (s : Terms) (w : World) (xs : List Call) → AllAnswered c ks s (answers w xs) → AllGiven c ks s w xs
unfolding AllAnswered AllGiven answers
given_is c ks s w [] g = tt
given_is c ks s w (x ∷ xs) g = (g.0, given_is c (learn ks (step w x).answer) (tell_terms s x (step w x).answer) (step w x).next xs g.1)

opened-is : {lent : List ℕ} {term mtu initial session stream : ℤ} {w : World} → Opened lent term mtu initial session stream w
    → (w ≡ opened lent term mtu initial session stream) × ((open_of lent term mtu initial session stream).answer ≡ Ok tt)
opened-is (by-opening e d f) = (ap₂ (λ (r : RecordReply) (l : List ℕ). with-log r.next l) e f, sym (ap (λ (r : RecordReply). r.answer) e) ∙ d)

-- ---- polls

module _ (r : LogRecord) (log : List ℕ) where
  abbrev Asm : ℤ → Sessions → List ℕ → ℕ → Assembly
  Asm entry s b k = assemble_of r log s b (pos k) (pos (natural entry - 32))

  abbrev at : Image → Sessions → List ℕ → List (List ℕ) → Replaying
  at i s b out = record { image = i; sessions = s; buffer = b; out = out }

  fed-is : {k n : ℕ} {slots : List ℤ} {a a' : FragmentAssembler} {b b' : List ℕ} {out out' : List (List ℕ)} (i : Image) → Fed r log k n slots a b out a' b' out'
      → feed_all r log k n slots (at i (sessions_of a) b out) ≡ at i (sessions_of a') b' out'
  unfolding feed_all feed
  fed-is i fed-none = refl
  fed-is {k} {n = suc n} {slots} {a} {b = b} {out = out} i (fed-more reply left ea es eb f) =
      let x = Asm (get_or slots 0 (pos 0)) (sessions_of a) b k in
      let one : at i x.next x.buffer (out ++ handed_out log (k * (reading r).term) x.buffer x.answer)
      ≡ at i (sessions_of reply.next) left (out ++ handed_out log (k * (reading r).term) left reply.answer) =
      sym (ap₂ (λ (s : Sessions) (l : List ℕ). at i s l (out ++ handed_out log (k * (reading r).term) l reply.answer)) es eb
      ∙ ap (λ (y : Result Assembled Error). at i x.next x.buffer (out ++ handed_out log (k * (reading r).term) x.buffer y)) ea) in
      ap (feed_all r log k n (drop 2 slots)) one ∙ fed-is i f

  -- the rounds of polls that go where they are told to
  unfoldable pub rounds_by : (ℤ → Bool) → Polls → Replaying → ℕ → Replaying
  rounds_by goes ps p zero = p
  rounds_by goes ps p (suc n) =
      cond (goes (rounds_by goes ps p n).image.position) (round r log (ps.limit n) (ps.slots n) (rounds_by goes ps p n)) (rounds_by goes ps p n)

  -- those of a season, and those of demand 3
  below-rounds : (ps : Polls) (p : Replaying) (n : ℕ) → rounds_by (while_below r) ps p n ≡ rounds r log ps p n
  unfolding rounds_by rounds turn
  below-rounds ps p zero = refl
  below-rounds ps p (suc n) = ap (λ (q : Replaying). cond (is_below r q.image.position) (round r log (ps.limit n) (ps.slots n) q) q) (below-rounds ps p n)

  free-rounds : (ps : Polls) (p : Replaying) (n : ℕ) → rounds_by wherever ps p n ≡ free_rounds r log ps p n
  unfolding rounds_by free_rounds
  free-rounds ps p zero = refl
  free-rounds ps p (suc n) = ap (round r log (ps.limit n) (ps.slots n)) (free-rounds ps p n)

  module _ (goes : ℤ → Bool) (from : ℕ) (session : ℤ) (lent : List ℕ) (ps : Polls) (x : Polling r log goes from session lent ps) where
    abbrev here : ℕ → Replaying
    here n = at (image_state (x.image n)) (sessions_of (x.assembler n)) (x.buffer n) (x.out n)

    abbrev there : ℕ → Replaying
    there n = rounds_by goes ps (start from session lent) n

    begins : here 0 ≡ start from session lent
    begins =
        ap₂ (λ (i : CodeImage) (s : Sessions). at (image_state i) s (x.buffer 0) (x.out 0)) x.made.0 x.made.1
        ∙ ap₂ (at (new_image (pos from) session) fresh) x.first.0 x.first.1

    turns : (n : ℕ) → goes (x.image n).position ≡ true → here (suc n) ≡ round r log (ps.limit n) (ps.slots n) (here n)
    unfolding round
    turns n g =
        let y = poll_of r log (image_state (x.image n)) (ps.slots n) (ps.limit n) in
        let k = partition_of (long (x.image n).position) (reading r).term in
        let polled : image_state (x.image (suc n)) ≡ y.next = ap image_state (x.on n g ∙ ap (λ (z : CodePoll). z.next) (x.said n)) in
        sym (fed-is (image_state (x.image (suc n))) (x.fed n g))
        ∙ ap (λ (i : Image). feed_all r log k (entries_of (x.reply n).answer) (x.slots n) (at i (sessions_of (x.assembler n)) (x.buffer n) (x.out n))) polled
        ∙ ap₂ (λ (z : CodePoll) (l : List ℤ). feed_all r log k (entries_of z.answer) l (at y.next (sessions_of (x.assembler n)) (x.buffer n) (x.out n))) (x.said n) (x.written n)

    rests : (n : ℕ) → goes (x.image n).position ≡ false → here (suc n) ≡ here n
    rests n g =
        let q = x.stays n g in
        ap₂ (λ (i : CodeImage) (a : FragmentAssembler). at (image_state i) (sessions_of a) (x.buffer (suc n)) (x.out (suc n))) q.0.0 q.0.1
        ∙ ap₂ (at (image_state (x.image n)) (sessions_of (x.assembler n))) q.1.0 q.1.1

    pub polls : (n : ℕ) → here n ≡ there n
    unfolding rounds_by
    polls zero = begins
    polls (suc n) = by (goes (x.image n).position) refl ∙ ap (λ (q : Replaying). cond (goes q.image.position) (round r log (ps.limit n) (ps.slots n) q) q) (polls n)
      where
        by : (b : Bool) → goes (x.image n).position ≡ b → here (suc n) ≡ cond (goes (x.image n).position) (round r log (ps.limit n) (ps.slots n) (here n)) (here n)
        by true g = turns n g ∙ sym (cond-true (goes (x.image n).position) _ (here n) g)
        by false g = rests n g ∙ sym (cond-false (goes (x.image n).position) (round r log (ps.limit n) (ps.slots n) (here n)) _ g)

    image-is : (n : ℕ) → image_state (x.image n) ≡ (there n).image
    image-is n = ap (λ (p : Replaying). p.image) (polls n)

    goes-is : (n : ℕ) → goes (x.image n).position ≡ goes (there n).image.position
    goes-is n = ap (λ (p : Replaying). goes p.image.position) (polls n)

    -- the reply that a caller sees is that of the rounds' image
    said-is : (n : ℕ) → x.reply n ≡ poll_reply_of (poll_of r log (there n).image (ps.slots n) (ps.limit n))
    said-is n = x.said n ∙ ap (λ (i : Image). poll_reply_of (poll_of r log i (ps.slots n) (ps.limit n))) (image-is n)

    pub still-is : (n : ℕ) → Still x n → (goes (there n).image.position ≡ false) ⊎ QuietPoll r log ps (there n) n
    still-is n (inl g) = inl (sym (goes-is n) ∙ g)
    still-is n (inr h) =
        inr (record {
          comes = sym (ap (λ (y : CodePoll). y.answer) (said-is n)) ∙ h.0;
          moves = sym (ap (λ (y : CodePoll). image_state y.next) (said-is n)) ∙ ap image_state h.1 ∙ image-is n;
        })

    pub quiet_is : (n : ℕ) → (goes (there n).image.position ≡ false) ⊎ QuietPoll r log ps (there n) n → Still x n
    quiet_is n (inl g) = inl (goes-is n ∙ g)
    quiet_is n (inr q) = inr (
      ap (λ (y : CodePoll). y.answer) (said-is n) ∙ q.comes,
      ap (λ (y : CodePoll). y.next) (said-is n) ∙ ap image_of (q.moves ∙ sym (image-is n)),
    )

    pub out-is : (n : ℕ) → x.out n ≡ (there n).out
    out-is n = ap (λ (p : Replaying). p.out) (polls n)

-- ---- message by message

module _ {r : LogRecord} {log : List ℕ} {from : ℕ} {session : ℤ} {lent : List ℕ} (x : Ran r log from session lent) where
  abbrev state : ℕ → ReplayState
  state i = state_of (x.replay i) (x.buffer i)

  next-is : (i : ℕ) → (next_of r log (state i)).next ≡ state (suc i)
  next-is i = ap (λ (y : NextReply). y.next) (sym (x.said i)) ∙ ap (λ (p : Replay). state_of p (x.buffer (suc i))) (sym (x.on i))

  pub runs : (most i : ℕ) → gathered x most i ≡ replayed most r log (state i)
  unfolding gathered replayed
  runs zero i = refl
  runs (suc most) i =
      ap (message_by log (state (suc i)) (x.reply i).answer) (runs most (suc i))
      ∙ ap₂ (λ (s : ReplayState) (y : NextReply). message_by log s y.answer (replayed most r log s)) (sym (next-is i)) (x.said i)

  stands : (n i : ℕ) → standing n r log (state i) ≡ state (n + i)
  unfolding standing
  stands zero i = let e : i ≡ 0 + i = omega arith in ap state e
  stands (suc n) i = let e : n + suc i ≡ suc n + i = omega arith in ap (standing n r log) (next-is i) ∙ stands n (suc i) ∙ ap state e

  pub begins-at : state 0 ≡ from_start (pos from) session lent
  begins-at =
      ap₂ (λ (i : Image) (s : Sessions). like i s (x.buffer 0)) x.made.0 x.made.1
      ∙ ap (like (new_image (pos from) session) fresh) x.first
    where
      like : Image → Sessions → List ℕ → ReplayState
      like i s b = record { image = i; sessions = s; buffer = b }

  pub answer-is : (n : ℕ) → (x.reply n).answer ≡ (next_of r log (standing n r log (from_start (pos from) session lent))).answer
  answer-is n =
      let e : n ≡ n + 0 = omega arith in
      ap (λ (y : NextReply). y.answer) (x.said n)
      ∙ ap (λ (s : ReplayState). (next_of r log s).answer) (ap state e ∙ sym (stands n 0) ∙ ap (standing n r log) begins-at)

-- ---- the season, and demand 3

-- a replay of the definitions, as callers see it
module _ (w : World) (p : ℕ) (session : ℤ) (lent : List ℕ) (ms : List (List ℕ)) where
  abbrev r· : LogRecord
  r· = w.record·

  abbrev l· : List ℕ
  l· = w.log

  abbrev start· : Replaying
  start· = start p session lent

  seen : Replayed w p session lent ms → GivesAll w p session lent ms → Few w.record· ms → Replays w.record· w.log p session lent ms
  seen d g f =
      record {
        polls-end = λ ps al x.
            let q = d.finish ps al in
            (q.0, quiet_is r· l· (while_below r·) p session lent ps x q.0 (subst (λ (y : Replaying). (is_below r· y.image.position ≡ false) ⊎ QuietPoll r· l· ps y q.0) (sym (below-rounds r· l· ps start· q.0)) q.1));
        polls-give = λ ps al x n st.
            out-is r· l· (while_below r·) p session lent ps x n ∙ ap (λ (y : Replaying). y.out) (below-rounds r· l· ps start· n)
            ∙ d.exact ps al n (subst (λ (y : Replaying). (is_below r· y.image.position ≡ false) ⊎ QuietPoll r· l· ps y n) (below-rounds r· l· ps start· n) (still-is r· l· (while_below r·) p session lent ps x n st));
        gives = λ x most h. runs x most 0 ∙ ap (replayed most r· l·) (begins-at x) ∙ g.each most h;
        ends = λ x n h. answer-is x n ∙ g.ended n h;
        batches-give = λ x n h. all-taken r· l· p session lent ms g x n h;
        batches-end = λ x n h. none-laid r· l· p session lent ms g x n h;
        batches-only = λ x n h. laid_none r· l· p session lent ms g x n h;
        counts = λ a e. e ∙ counts_all w p session lent ms g f;
      }

seen-free : (w : World) (session : ℤ) (lent : List ℕ) (ms : List (List ℕ)) → ReplayedFree w 0 session lent ms → Polls0 w.record· w.log session lent ms
seen-free w session lent ms d =
    let r = w.record· in
    let l = w.log in
    let s = start 0 session lent in
    record {
      polls-end = λ ps al x.
          let q = d.finish ps al in
          (q.0, quiet_is r l wherever 0 session lent ps x q.0 (inr (subst (λ (y : Replaying). QuietPoll r l ps y q.0) (sym (free-rounds r l ps s q.0)) q.1)));
      polls-give = λ ps al x n st.
          out-is r l wherever 0 session lent ps x n ∙ ap (λ (y : Replaying). y.out) (free-rounds r l ps s n)
          ∙ d.exact ps al n (subst (λ (y : Replaying). QuietPoll r l ps y n) (free-rounds r l ps s n)
          (⊎_elim (λ e. absurd (let z : ◌≡◌ {A = ℕ} 0 1 = cc in omega arith)) (λ q. q) (still-is r l wherever 0 session lent ps x n st)));
    }

module _ (lent : List ℕ) (term mtu initial session stream : ℤ) (done : (open_of lent term mtu initial session stream).answer ≡ Ok tt) where
  abbrev w₀ : World
  w₀ = opened lent term mtu initial session stream

  by-definitions : (xs : List Call) → AllAnswered (shape w₀) [] no_terms (answers w₀ xs) → Upheld w₀ (answers w₀ xs) (left w₀ xs)
  unfolding Season Demand3
  by-definitions xs given =
      let g = given_is (shape w₀) [] no_terms w₀ xs given in
      let d = season lent term mtu initial session stream done xs g in
      let u = left w₀ xs in
      let h = history w₀ xs in
      record {
        replays = λ p b s l small holds.
            let st : Start w₀ xs p = record { told = b.told; kept = b.kept } in
            seen u p s l (messages (from (shape w₀) p h)) (d.replayed p st s l small holds) (d.gives p st s l small holds)
            (few-messages lent term mtu initial session stream done xs g p st);
        short = λ none e s l small holds. seen-free u s l (messages h) ((demand3 lent term mtu initial session stream done xs g none e).replayed s l small holds);
        adds-up = d.adds-up;
        ends = d.ends;
      }

  -- the same of worlds and answers that are known to be those
  by-callers : (w u : World) (ts : List (Call × Answer)) (xs : List Call) → w ≡ w₀ → ts ≡ answers w xs → u ≡ left w xs → AllAnswered (shape w) [] no_terms ts → Upheld w ts u
  by-callers w u ts xs ew ea eu given =
      let et : ts ≡ answers w₀ xs = ea ∙ ap (λ (z : World). answers z xs) ew in
      let el : u ≡ left w₀ xs = eu ∙ ap (λ (z : World). left z xs) ew in
      let g : AllAnswered (shape w₀) [] no_terms (answers w₀ xs) = subst (λ (z : World). AllAnswered (shape z) [] no_terms (answers w₀ xs)) ew (subst (AllAnswered (shape w) [] no_terms) et given) in
      subst (λ (z : World). Upheld z ts u) (sym ew)
      (subst (λ (bs : List (Call × Answer)). Upheld w₀ bs u) (sym et)
      (subst (λ (z : World). Upheld w₀ (answers w₀ xs) z) (sym el) (by-definitions xs g)))

pub replays-history : ReplaysHistory
unfolding ReplaysHistory
replays-history lent term mtu initial session stream w u ts o ws given =
    let a = wrote-is ws in
    let p = opened-is o in
    by-callers lent term mtu initial session stream p.1 w u ts (calls_of ts) p.0 a.0 a.1 given
