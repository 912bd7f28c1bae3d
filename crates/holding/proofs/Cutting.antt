-- The messages are just those whose frames lie one behind the other among the walked ones, and come by position.
use mathlib.Core.Path.{◌≡◌, refl, sym, ap, ap₂, ◌∙◌, subst}
use mathlib.Core.Bool.{Bool, true, false, cond}
use mathlib.Core.List.{List, [], ◌∷◌, ◌++◌, append_assoc}
use Prim.Native.Nat.{ℕ, zero, suc, ◌+◌, ◌-◌, ◌≤◌, ◌<◌}
use native.Mathlib.Omega.{arith}
use borrow.Author.Tests.{eqb-true, eqb-false}
use lib.Dec.{eqb}
use lib.ListN.{take, drop}
use Rattle.model.specs.declared.Frame.{Frame}
use Rattle.model.specs.declared.Frame.TheVariants.{Absent, Unsound, Padding, Data}
use Rattle.model.specs.FrameDescriptor.{flags_at, begins, ends}
use Rattle.model.proofs.Both.{test}
use Rattle.tally.specs.Walk.{Stream, bytes_at, size, met, Passed, walked}
use Rattle.tally.proofs.Steps.{stepped, no_fuel, stops, goes}
use Rattle.holding.specs.Messages.{Message, Run, idle, running, joined, grown, told, messages}
use Rattle.holding.specs.Theorems.{Piece, Opened, begun, went_on, Frames, unfragmented, run_of, Among, here, there, Lies, JustThose, Rising, none_left, behind-it, ByPosition}
use Rattle.holding.proofs.Turning.{no_frames, cut-closed, cut-open}

-- ---- each message has its frames

-- what is open before a frame, and its frames
data Before (s : Stream) : List Passed → Run → Type 0 where
  none : Before s [] idle
  some : {fs : List Passed} {b : List ℕ} → Opened s fs b → Before s fs (running b)

-- the run with a frame whose begin flag is given
abbrev grown_by : List ℕ → Frame → Bool → Run → Run
grown_by bytes Absent b r = idle
grown_by bytes (Unsound n) b r = idle
grown_by bytes (Padding n) b r = idle
grown_by bytes (Data n) b r = joined b (take (n - 32) (drop 32 bytes)) r

grown-by : (bytes : List ℕ) (x : Frame) (r : Run) → grown bytes x r ≡ grown_by bytes x (begins (flags_at bytes)) r
grown-by bytes Absent r = refl
grown-by bytes (Unsound n) r = refl
grown-by bytes (Padding n) r = refl
grown-by bytes (Data n) r = refl

no_more : {m : Message} {ms : List Message} → Among m ms → ms ≡ [] → ⊥
no_more (here e) z = let q : ◌≡◌ {A = ℕ} 0 1 = cc in absurd (omega arith)
no_more (there a) z = let q : ◌≡◌ {A = ℕ} 0 1 = cc in absurd (omega arith)

module _ (s : Stream) (m : Message) where
  -- a frame that is no part of it lies before it
  passed : (before pre : List Passed) (f : Passed) (fs : List Passed) → Lies s ((before ++ (pre ++ (f ∷ []))) ++ fs) m → Lies s (before ++ (pre ++ (f ∷ fs))) m
  passed before pre f fs l =
      subst (λ (x : List Passed). Lies s x m) (append_assoc before (pre ++ (f ∷ [])) fs ∙ ap (λ (x : List Passed). before ++ x) (append_assoc pre (f ∷ []) fs)) l

  -- one frame, by its kind, its flags and the run before it; `later` has what lies in the frames after it
  one : (before : List Passed) {pre : List Passed} {r : Run} → Before s pre r → (f : Passed) (fs : List Passed)
      → ((before' pre' : List Passed) (r' : Run) → Before s pre' r' → Among m (messages s r' fs) → Lies s (before' ++ (pre' ++ fs)) m)
      → (x : Frame) → f.frame ≡ x → (b e : Bool) → begins (flags_at (bytes_at s f.at)) ≡ b → ends (flags_at (bytes_at s f.at)) ≡ e
      → Among m (cond e (told (f.at + size f.frame) (grown_by (bytes_at s f.at) x b r) (messages s idle fs)) (messages s (grown_by (bytes_at s f.at) x b r) fs))
      → Lies s (before ++ (pre ++ (f ∷ fs))) m
  one before {pre} o f fs later Absent ex b true eb ee a = passed before pre f fs (later (before ++ (pre ++ (f ∷ []))) [] idle none a)
  one before {pre} o f fs later Absent ex b false eb ee a = passed before pre f fs (later (before ++ (pre ++ (f ∷ []))) [] idle none a)
  one before {pre} o f fs later (Unsound n) ex b true eb ee a = passed before pre f fs (later (before ++ (pre ++ (f ∷ []))) [] idle none a)
  one before {pre} o f fs later (Unsound n) ex b false eb ee a = passed before pre f fs (later (before ++ (pre ++ (f ∷ []))) [] idle none a)
  one before {pre} o f fs later (Padding n) ex b true eb ee a = passed before pre f fs (later (before ++ (pre ++ (f ∷ []))) [] idle none a)
  one before {pre} o f fs later (Padding n) ex b false eb ee a = passed before pre f fs (later (before ++ (pre ++ (f ∷ []))) [] idle none a)
  one before {pre} o f fs later (Data n) ex true true eb ee (here e) =
      record {
        before = before ++ pre;
        run = f ∷ [];
        after = fs;
        split = sym (append_assoc before pre (f ∷ fs));
        frames = subst (λ (y : Message). Frames s (f ∷ []) y) (sym e) (unfragmented (record { length = n; data-frame = ex; first = eb; last = ee; bytes = refl }));
      }
  one before {pre} o f fs later (Data n) ex true true eb ee (there a) = passed before pre f fs (later (before ++ (pre ++ (f ∷ []))) [] idle none a)
  one before {pre} o f fs later (Data n) ex true false eb ee a =
      subst (λ (x : List Passed). Lies s x m) (append_assoc before pre (f ∷ fs))
      (later (before ++ pre) (f ∷ []) _ (some (begun (record { length = n; data-frame = ex; first = eb; last = ee; bytes = refl }))) a)
  one before none f fs later (Data n) ex false true eb ee a = passed before [] f fs (later (before ++ (f ∷ [])) [] idle none a)
  one before {pre} (some q) f fs later (Data n) ex false true eb ee (here e) =
      record {
        before = before;
        run = pre ++ (f ∷ []);
        after = fs;
        split = ap (λ (x : List Passed). before ++ x) (sym (append_assoc pre (f ∷ []) fs));
        frames = subst (λ (y : Message). Frames s (pre ++ (f ∷ [])) y) (sym e) (run_of q (record { length = n; data-frame = ex; first = eb; last = ee; bytes = refl }));
      }
  one before {pre} (some q) f fs later (Data n) ex false true eb ee (there a) = passed before pre f fs (later (before ++ (pre ++ (f ∷ []))) [] idle none a)
  one before none f fs later (Data n) ex false false eb ee a = passed before [] f fs (later (before ++ (f ∷ [])) [] idle none a)
  one before {pre} (some q) f fs later (Data n) ex false false eb ee a =
      subst (λ (x : List Passed). Lies s x m) (ap (λ (x : List Passed). before ++ x) (append_assoc pre (f ∷ []) fs))
      (later before (pre ++ (f ∷ [])) _ (some (went_on q (record { length = n; data-frame = ex; first = eb; last = ee; bytes = refl }))) a)

  found : (fs : List Passed) (before : List Passed) {pre : List Passed} {r : Run} → Before s pre r → Among m (messages s r fs) → Lies s (before ++ (pre ++ fs)) m
  unfolding messages
  found [] before o a = absurd (no_more a refl)
  found (f ∷ fs) before {pre} {r} o a =
      let bytes = bytes_at s f.at in
      one before o f fs (λ before' pre' r' o' a'. found fs before' o' a') f.frame refl (begins (flags_at bytes)) (ends (flags_at bytes)) refl refl
      (subst (λ (g : Run). Among m (cond (ends (flags_at bytes)) (told (f.at + size f.frame) g (messages s idle fs)) (messages s g fs))) (grown-by bytes f.frame r) a)

-- ---- and frames that lie so are a message

module _ (s : Stream) where
  piece-grown : {b e : Bool} {f : Passed} {body : List ℕ} → Piece s b e f body → (r : Run) → grown (bytes_at s f.at) f.frame r ≡ joined b body r
  piece-grown {f = f} p r = ap (λ (x : Frame). grown (bytes_at s f.at) x r) p.data-frame ∙ ap₂ (λ (t : Bool) (c : List ℕ). joined t c r) p.first p.bytes

  pub goes_on : {b : Bool} {f : Passed} {body : List ℕ} → Piece s b false f body → (r : Run) (rest : List Passed) → messages s r (f ∷ rest) ≡ messages s (joined b body r) rest
  goes_on {f = f} p r rest = cut-open s r f rest p.last ∙ ap (λ (g : Run). messages s g rest) (piece-grown p r)

  pub closes : {b : Bool} {f : Passed} {body : List ℕ} → Piece s b true f body → (r : Run) (rest : List Passed)
      → messages s r (f ∷ rest) ≡ told (f.at + size f.frame) (joined b body r) (messages s idle rest)
  closes {f = f} p r rest = cut-closed s r f rest p.last ∙ ap (λ (g : Run). told (f.at + size f.frame) g (messages s idle rest)) (piece-grown p r)

  opened : {fs : List Passed} {b : List ℕ} → Opened s fs b → (r : Run) (rest : List Passed) → messages s r (fs ++ rest) ≡ messages s (running b) rest
  opened (begun p) r rest = goes_on p r rest
  opened (went_on {fs} {f} {b} q p) r rest = ap (messages s r) (append_assoc fs (f ∷ []) rest) ∙ opened q r (f ∷ rest) ∙ goes_on p (running b) rest

  closed : {run : List Passed} {m : Message} → Frames s run m → (after : List Passed) (r : Run) → Among m (messages s r (run ++ after))
  closed (unfragmented p) after r = rw (closes p r after) (here refl)
  closed (run_of {fs} {f} {b} q p) after r = rw (ap (messages s r) (append_assoc fs (f ∷ []) after) ∙ opened q r (f ∷ after) ∙ closes p (running b) after) (here refl)

  told-after : {m : Message} {ms : List Message} (end : ℕ) (g : Run) → Among m ms → Among m (told end g ms)
  told-after end idle a = a
  told-after end (running b) a = there a

  -- whatever lies before, and whatever run it leaves open
  behind : (m : Message) (before rest : List Passed) → ((r : Run) → Among m (messages s r rest)) → (r : Run) → Among m (messages s r (before ++ rest))
  behind m [] rest h r = h r
  behind m (f ∷ before) rest h r =
      test (ends (flags_at (bytes_at s f.at)))
      (λ e. rw (cut-closed s r f (before ++ rest) e) (told-after (f.at + size f.frame) (grown (bytes_at s f.at) f.frame r) (behind m before rest h idle)))
      (λ e. rw (cut-open s r f (before ++ rest) e) (behind m before rest h (grown (bytes_at s f.at) f.frame r)))

pub just-those : JustThose
just-those s fs m =
    (found s m fs [] none, λ l. rw l.split (behind s m l.before (l.run ++ l.after) (closed s l.frames l.after) idle))

-- ---- they come by position

lower : {p q : ℕ} {ms : List Message} → p ≤ q → Rising q ms → Rising p ms
lower h none_left = none_left
lower {p} h (behind-it {m = m} k r) = let l : p < m.end = omega arith in behind-it l r

told-rising : {p q : ℕ} {ms : List Message} (g : Run) → p < q → Rising q ms → Rising p (told q g ms)
told-rising idle h r = lower (omega arith) r
told-rising (running b) h r = behind-it h r

rising : (fuel : ℕ) (s : Stream) (to p : ℕ) (r : Run) → Rising p (messages s r (walked fuel s to p))
rising zero s to p r = rw (no_fuel s p to, no_frames s r) none_left
rising (suc fuel) s to p r =
    test (eqb (size (met s to p)) 0)
    (λ e. rw (stops s p (suc fuel) to (eqb-true (size (met s to p)) 0 e), no_frames s r) none_left)
    (λ e.
    let n = eqb-false (size (met s to p)) 0 e in
    let f : Passed = record { at = p; frame = met s to p } in
    let q = p + size (met s to p) in
    let rest = walked fuel s to q in
    let h : p < q = omega (arith, (stepped s p to n).some) in
    rw (goes s p fuel to n)
    (test (ends (flags_at (bytes_at s p)))
    (λ c. rw (cut-closed s r f rest c) (told-rising (grown (bytes_at s p) (met s to p) r) h (rising fuel s to q idle)))
    (λ c. rw (cut-open s r f rest c) (lower (omega arith) (rising fuel s to q (grown (bytes_at s p) (met s to p) r))))))

pub by-position : ByPosition
by-position s from to = rising (to - from) s to from idle
