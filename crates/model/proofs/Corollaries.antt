-- The theorems of specs/Corollaries.antt.
use Rattle.std.specs.Prelude.{Result, Ok, Err, ⊤}
use mathlib.Core.Path.{◌≡◌, refl, sym, ap, ◌∙◌, subst}
use mathlib.Core.Bool.{Bool, true, false, cond, not}
use mathlib.Core.Logic.{inl, inr}
use Prim.Native.Nat.{ℕ, zero, suc, ◌+◌, ◌-◌, ◌*◌, ◌%◌}
use mathlib.Core.List.{List, [], ◌∷◌}
use native.Mathlib.Omega.{arith}
use lib.ListN.{length, drop}
use lib.IntN.{ℤ, pos}
use Rattle.model.specs.declared.Polled.{Polled}
use Rattle.model.specs.declared.LogRecord.{LogRecord}
use Rattle.model.specs.declared.RecordReply.{RecordReply}
use Rattle.model.specs.declared.Reading.{Reading}
use Rattle.model.specs.declared.Error.{Error}
use Rattle.model.specs.declared.Error.TheVariants.{IllegalRecord}
use Rattle.model.specs.declared.ReadVerdict.{ReadVerdict}
use Rattle.model.specs.declared.ReadVerdict.TheVariants.{Read, Closed}
use Rattle.model.specs.declared.Span.{Span}
use Rattle.model.specs.declared.Frame.{Frame}
use Rattle.model.specs.declared.Frame.TheVariants.{Absent, Unsound, Padding, Data}
use Rattle.model.specs.Bytes.{word, long}
use Rattle.model.specs.FrameDescriptor.{align, space, frame_at, flags_at, ends}
use Rattle.model.specs.LogBufferDescriptor.{partition_of, reading, active, sound_record, with_limit, with_closed, with_mark, with_slowest, is_ready}
use Rattle.model.specs.BufferClaim.{claim_check, write_span, write_outcome, write_over, outcome_of, commit_of, changed_by, commit_bytes, abort_bytes}
use Rattle.model.specs.Publication.{change_of, reply_by, raise_verdict, raise_of, clear_verdict, clear_of, cleared_by, clear_bytes, place, fits, trip_error, need_of, offer_verdict, offered_by, next_by, log_by, offer_of, offer_bytes, claim_verdict, claimed_by, claim_of, claim_bytes}
use Rattle.model.specs.TermAppender.{claim_record}
use Rattle.model.specs.TermReader.{Walked, still, over, walk, natural, good_entries, numbers, laid}
use Rattle.model.specs.Image.{Image, poll_verdict, poll_reply, PollReply, poll_of}
use Rattle.model.specs.History.{offer, claim, fill, commit, abort, set_limit, close, clear, raise, World, step}
use Rattle.model.specs.Corollaries.{NoTwoAlike, NothingRare, RefusalsChangeNothing, LieTo, bodies_of, PollPassed, PollsCountFrames, NeedArithmetic}
use Rattle.model.proofs.Cut.{need-sum}
use Rattle.model.proofs.RuleLaws.{trips_by, offer-trips, claim-trips}
use Rattle.model.proofs.Choice.{le-case, ok-same}
use Rattle.model.proofs.Season as Season
use Rattle.model.proofs.Rising.{clash}

pub no-two-alike : NoTwoAlike
unfolding NoTwoAlike
no-two-alike log term mtu initial session stream fresh calls = Season.no-two-alike log term mtu initial session stream fresh calls

pub nothing-rare : NothingRare
unfolding NothingRare
nothing-rare log term mtu initial session stream fresh calls given = Season.usual log term mtu initial session stream fresh calls given

-- ---- refusals change nothing

module _ (w : World) where
  abbrev r : LogRecord
  r = w.record·

  abbrev v : Reading
  v = reading w.record·

  abbrev Same : LogRecord → List ℕ → Type 0
  Same next log = ◌≡◌ {A = World} (record { record· = next; log = log }) w

  offer-same : (needed : ℕ) (new : List ℕ) (x : Result ⊤ Error) (e : Error) → trips_by v needed x ≡ false → offered_by r v needed x ≡ Err e → Same (next_by r v needed x) (log_by r v w.log new needed x)
  offer-same needed new (Err q) e t h = refl
  offer-same needed new (Ok _) e t h = go (fits v needed) refl
    where
      go : (b : Bool) → fits v needed ≡ b → Same (next_by r v needed (Ok tt)) (log_by r v w.log new needed (Ok tt))
      go true f = let z : Ok _ ≡ Err e = sym (ap (λ (b : Bool). cond b (Ok (pos (place v + needed))) (Err (trip_error v (is_ready r)))) f) ∙ h in absurd (let y : ◌≡◌ {A = ℕ} 0 1 = cc in omega arith)
      go false f = clash (not (fits v needed)) (ap not f) t

  claim-same : (m : ℕ) (new : List ℕ) (x : Result ⊤ Error) (e : Error) → trips_by v (space m) x ≡ false → claimed_by r v m x ≡ Err e → Same (next_by r v (space m) x) (log_by r v w.log new (space m) x)
  claim-same m new (Err q) e t h = refl
  claim-same m new (Ok _) e t h = go (fits v (space m)) refl
    where
      go : (b : Bool) → fits v (space m) ≡ b → Same (next_by r v (space m) (Ok tt)) (log_by r v w.log new (space m) (Ok tt))
      go true f = let z : Ok (record { position = _; claim = _ }) ≡ Err e = sym (ap (λ (b : Bool). cond b (Ok (record { position = pos (place v + space m); claim = claim_record v (active r) m })) (Err (trip_error v (is_ready r)))) f) ∙ h in absurd (let y : ◌≡◌ {A = ℕ} 0 1 = cc in omega arith)
      go false f = clash (not (fits v (space m))) (ap not f) t

  clear-same : (k : ℕ) (x : Result ⊤ Error) (e : Error) → (reply_by r (with_mark r k true) x).answer ≡ Err e → Same (reply_by r (with_mark r k true) x).next (cleared_by v w.log k x)
  clear-same k (Ok _) e h = absurd (let z : ◌≡◌ {A = ℕ} 0 1 = cc in omega arith)
  clear-same k (Err q) e h = refl

  raise-same : (p : ℤ) (x : Result ⊤ Error) (e : Error) → (reply_by r (with_slowest r p) x).answer ≡ Err e → Same (reply_by r (with_slowest r p) x).next w.log
  raise-same p (Ok _) e h = absurd (let z : ◌≡◌ {A = ℕ} 0 1 = cc in omega arith)
  raise-same p (Err q) e h = refl

  check-same : (new : List ℕ) (x : Result ⊤ Error) (e : Error) → outcome_of x ≡ Err e → Same r (changed_by w.log new x)
  check-same new (Err q) e h = refl
  check-same new (Ok _) e h = absurd (let z : ◌≡◌ {A = ℕ} 0 1 = cc in omega arith)

  fill-same : (b : List ℕ) (x : Result Span Error) (e : Error) → write_outcome x ≡ Err e → Same r (write_over w.log b x)
  fill-same b (Ok span) e h = absurd (let z : ◌≡◌ {A = ℕ} 0 1 = cc in omega arith)
  fill-same b (Err q) e h = refl

  change-same : (next : LogRecord) (b : Bool) (e : Error) → (cond {A = RecordReply} b (record { next = next; answer = Ok tt }) (record { next = r; answer = Err IllegalRecord })).answer ≡ Err e
      → Same (cond {A = RecordReply} b (record { next = next; answer = Ok tt }) (record { next = r; answer = Err IllegalRecord })).next w.log
  change-same next true e h = absurd (let z : ◌≡◌ {A = ℕ} 0 1 = cc in omega arith)
  change-same next false e h = refl

pub refusals-change-nothing : RefusalsChangeNothing
unfolding RefusalsChangeNothing step offer_of offer_bytes claim_of claim_bytes clear_of clear_bytes raise_of commit_of commit_bytes abort_bytes change_of
refusals-change-nothing w (offer m re) e h =
    let v = reading w.record· in
    offer-same w (need_of v (length m)) _ (offer_verdict v (length w.log) (length m)) e (sym (offer-trips v (is_ready w.record·) (length w.log) (length m)) ∙ h.0) h.1
refusals-change-nothing w (claim n) e h =
    let v = reading w.record· in
    claim-same w (word n) _ (claim_verdict v (length w.log) (word n)) e (sym (claim-trips v (is_ready w.record·) (length w.log) (word n)) ∙ h.0) h.1
refusals-change-nothing w (fill k b) e h = fill-same w b (write_span w.record· w.log k (length b)) e h
refusals-change-nothing w (commit k) e h = check-same w _ (claim_check w.record· w.log k) e h
refusals-change-nothing w (abort k) e h = check-same w _ (claim_check w.record· w.log k) e h
refusals-change-nothing w (set_limit n) e h = change-same w (with_limit w.record· n) (sound_record (reading (with_limit w.record· n))) e h
refusals-change-nothing w close e h = change-same w (with_closed w.record·) (sound_record (reading (with_closed w.record·))) e h
refusals-change-nothing w (clear k) e h = clear-same w (word k) (clear_verdict (reading w.record·) (length w.log) (word k)) e h
refusals-change-nothing w (raise p) e h = raise-same w p (raise_verdict (reading w.record·) (long p)) e h

-- ---- polls count frames

module _ (log : List ℕ) (base term end : ℕ) where
  -- a walk has passed frames
  record Passes (at : ℕ) (w : Walked) : Type 0 where
    frames : List Frame
    lie : LieTo log base term at frames (at + w.moved)
    entries : w.entries ≡ bodies_of at frames
    fragments : w.fragments ≡ length (bodies_of at frames)

  none : (at : ℕ) → Passes at still
  unfolding LieTo bodies_of
  none at = record { frames = []; lie = omega arith; entries = refl; fragments = refl }

  passes_over : (at limit fuel : ℕ) (whole : Bool) (x : Frame) → frame_at (drop (base + at) log) (term - at) ≡ x
      → ((a l : ℕ) → Passes a (walk fuel log base term end a l [])) → Passes at (over x whole at limit [] (λ a l more. walk fuel log base term end a l more))
  unfolding LieTo bodies_of
  passes_over at limit fuel whole Absent e ih = none at
  passes_over at limit fuel whole (Unsound n) e ih = none at
  passes_over at limit fuel whole (Padding n) e ih =
      let p = ih (at + align n) (suc limit) in
      record {
        frames = Padding n ∷ p.frames;
        lie = (e, subst (LieTo log base term (at + align n) p.frames) (omega arith) p.lie);
        entries = p.entries;
        fragments = p.fragments;
      }
  passes_over at limit fuel whole (Data n) e ih =
      let p = ih (at + align n) limit in
      record {
        frames = Data n ∷ p.frames;
        lie = (e, subst (LieTo log base term (at + align n) p.frames) (omega arith) p.lie);
        entries = ap (λ (l : List (ℕ × ℕ)). (at + 32, n - 32) ∷ l) p.entries;
        fragments = ap suc p.fragments;
      }

  passes : (fuel at limit : ℕ) → Passes at (walk fuel log base term end at limit [])
  unfolding walk
  passes zero at limit = none at
  passes (suc fuel) at zero = none at
  passes (suc fuel) at (suc limit) =
      le-case (Passes at) end at still _ (λ l. none at)
      (λ l. passes_over at limit fuel (ends (flags_at (drop (base + at) log))) (frame_at (drop (base + at) log) (term - at)) refl (λ a m. passes fuel a m))

module _ (r : LogRecord) (log : List ℕ) (i : Image) (slots : List ℤ) (limit : ℤ) where
  abbrev T : ℕ
  T = (reading r).term

  abbrev p· : ℕ
  p· = long i.position

  abbrev w· : Walked
  w· = walk T log (partition_of p· T * T) T T (p· % T) (natural limit) []

  laid_none : laid slots [] ≡ slots
  unfolding laid numbers
  laid_none = refl

  -- a closed image
  quiet : (n m : ℕ) → (poll_of r log i slots limit).slots ≡ slots → (poll_of r log i slots limit).next ≡ i → ◌≡◌ {A = ℕ} 0 n → ◌≡◌ {A = ℕ} 0 m → PollPassed r log i slots limit n m
  unfolding LieTo bodies_of
  quiet n m s q a b =
      record { frames = []; moved = 0; lie = omega arith; fragments = sym a; entries = sym b ∙ a; written = s ∙ sym laid_none; next = inr (q, refl) }

  -- by what the poll is let do
  counts : (x : Result ReadVerdict Error) (n m : ℕ) → poll_of r log i slots limit ≡ poll_reply i slots w· x → (poll_reply i slots w· x).answer ≡ Ok (record { fragments = n; entries = m }) → PollPassed r log i slots limit n m
  counts (Ok Read) n m q h =
      let g = passes log (partition_of p· T * T) T T T (p· % T) (natural limit) in
      let same = ok-same h in
      let a : w·.fragments ≡ n = ap (λ (y : Polled). y.fragments) same in
      let b : length w·.entries ≡ m = ap (λ (y : Polled). y.entries) same in
      record {
        frames = g.frames;
        moved = w·.moved;
        lie = g.lie;
        fragments = sym a ∙ g.fragments;
        entries = sym b ∙ ap length g.entries ∙ sym g.fragments ∙ a;
        written = ap (λ (y : PollReply). y.slots) q ∙ ap (laid slots) g.entries;
        next = inl (ap (λ (y : PollReply). y.next) q);
      }
  counts (Ok Closed) n m q h = quiet n m (ap (λ (y : PollReply). y.slots) q) (ap (λ (y : PollReply). y.next) q) (ap (λ (y : Polled). y.fragments) (ok-same h)) (ap (λ (y : Polled). y.entries) (ok-same h))
  counts (Err e) n m q h = absurd (let z : ◌≡◌ {A = ℕ} 0 1 = cc in omega arith)

pub polls-count-frames : PollsCountFrames
unfolding PollsCountFrames poll_of
polls-count-frames r log i slots limit n m h =
    counts r log i slots limit (poll_verdict (reading r) log i (good_entries (length slots) (natural limit)) (reading r).term (natural limit)) n m refl h

pub need-arithmetic : NeedArithmetic
unfolding NeedArithmetic
need-arithmetic payload n some small low even = need-sum payload n some low even
