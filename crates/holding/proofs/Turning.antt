-- What the loop over frames keeps: the cards so far and those of the walk from here, with the run that is open here, are the whole walk's.
use mathlib.Core.Path.{◌≡◌, refl, sym, ap, ◌∙◌}
use mathlib.Core.Bool.{Bool, true, false, cond}
use mathlib.Core.List.{List, [], ◌∷◌, ◌++◌, append-nil, append_assoc}
use Prim.Native.Nat.{ℕ, zero, suc, ◌+◌, ◌-◌, ◌*◌, ◌/◌, ◌%◌, ◌≤◌}
use native.Mathlib.Nat.{mul-le-mul_right}
use native.Mathlib.Omega.{arith}
use Rattle.model.specs.declared.Frame.{Frame}
use Rattle.model.specs.FrameDescriptor.{flags_at, ends}
use Rattle.card.specs.Card.{decode}
use Rattle.tally.specs.Walk.{Stream, place_at, bytes_at, size, met, Passed, walked, between, end_of}
use Rattle.tally.proofs.Steps.{stepped, stops, goes}
use Rattle.tally.proofs.Adding.{end_none, end_more}
use Rattle.holding.specs.Messages.{Message, Run, idle, running, grown, told, messages}
use Rattle.holding.specs.Holding.{Found, of_find, cards, cards_in}
use Rattle.holding.specs.Within.{capped, Laid, laid_run}
use Rattle.holding.proofs.Capped.{grown-capped, laid-capped}
use Rattle.holding.proofs.Latest.{all_held, laid_more}

-- the cards of a closed run
abbrev of_run : ℕ → ℕ → Run → List Found
of_run find end idle = []
of_run find end (running b) = of_find find end (decode b)

cards-told : (find end : ℕ) (r : Run) (ms : List Message) → cards find (told end r ms) ≡ of_run find end r ++ cards find ms
unfolding cards
cards-told find end idle ms = refl
cards-told find end (running b) ms = refl

run-laid : (find end : ℕ) (r : Run) (fs : List Found) → laid_run find end r (all_held fs) ≡ all_held (fs ++ of_run find end r)
run-laid find end idle fs = ap all_held (sym (append-nil fs))
run-laid find end (running b) fs = laid_more find end (decode b) fs

pub no_frames : (s : Stream) (r : Run) → messages s r [] ≡ []
unfolding messages
no_frames s r = refl

none_left : (s : Stream) (find : ℕ) (r : Run) → cards find (messages s r []) ≡ []
unfolding cards
none_left s find r = ap (cards find) (no_frames s r)

module _ (s : Stream) (r : Run) (f : Passed) (fs : List Passed) where
  abbrev pub grows : Run
  grows = grown (bytes_at s f.at) f.frame r

  pub cut-closed : ends (flags_at (bytes_at s f.at)) ≡ true → messages s r (f ∷ fs) ≡ told (f.at + size f.frame) grows (messages s idle fs)
  unfolding messages
  cut-closed e = rw e

  pub cut-open : ends (flags_at (bytes_at s f.at)) ≡ false → messages s r (f ∷ fs) ≡ messages s grows fs
  unfolding messages
  cut-open e = rw e

module _ (s : Stream) (find from to : ℕ) where
  pub record Turning (l : Laid) (r : Run) (p : ℕ) : Type 0 where
    pub fuel : ℕ
    pub enough : to - p ≤ fuel
    pub done : List Found
    pub whole : Run
    pub short : r ≡ capped whole
    pub held : l ≡ all_held done
    pub rest : done ++ cards find (messages s whole (walked fuel s to p)) ≡ cards_in s find from to
    pub end : end_of p (walked fuel s to p) ≡ end_of from (between s from to)

  pub begins : (l : Laid) → l ≡ all_held [] → Turning l idle from
  begins l e = record { fuel = to - from; enough = omega arith; done = []; whole = idle; short = refl; held = e; rest = refl; end = refl }

  -- where nothing is met, it is done
  pub ended : (l : Laid) (r : Run) (p : ℕ) → Turning l r p → size (met s to p) ≡ 0 → (l ≡ all_held (cards_in s find from to)) × (p ≡ end_of from (between s from to))
  ended l r p t z =
      let e = stops s p t.fuel to z in
      let n : cards find (messages s t.whole (walked t.fuel s to p)) ≡ [] = ap (λ (x : List Passed). cards find (messages s t.whole x)) e ∙ none_left s find t.whole in (
        t.held ∙ ap all_held (sym (append-nil t.done) ∙ ap (λ (x : List Found). t.done ++ x) (sym n) ∙ t.rest),
        sym (ap (end_of p) e ∙ end_none p) ∙ t.end,
      )

  module _ (l : Laid) (r : Run) (p : ℕ) (t : Turning l r p) (n : size (met s to p) ≡ 0 → ⊥) where
    abbrev q : ℕ
    q = p + size (met s to p)

    abbrev here : Passed
    here = record { at = p; frame = met s to p }

    -- the run with this frame, as the code keeps it
    abbrev grew : Run
    grew = capped (grown (bytes_at s p) (met s to p) r)

    grew-is : grew ≡ capped (grows s t.whole here [])
    grew-is = ap (λ (x : Run). capped (grown (bytes_at s p) (met s to p) x)) t.short ∙ grown-capped (bytes_at s p) (met s to p) t.whole

    turn_by : (f : ℕ) → t.fuel ≡ f → (b : Bool) → ends (flags_at (bytes_at s p)) ≡ b → Turning (cond b (laid_run find q grew l) l) (cond b idle grew) q
    turn_by zero ef b eb = absurd (let k = stepped s p to n in omega (arith, k.some, k.before, t.enough))
    turn_by (suc f) ef true eb =
        let w = grows s t.whole here [] in
        let rest = walked f s to q in
        let e : walked t.fuel s to p ≡ (here ∷ rest) = ap (λ (y : ℕ). walked y s to p) ef ∙ goes s p f to n in
        record {
          fuel = f;
          enough = omega (arith, (stepped s p to n).some, t.enough);
          done = t.done ++ of_run find q w;
          whole = idle;
          short = refl;
          held = ap (λ (x : Run). laid_run find q x l) grew-is ∙ laid-capped find q w l ∙ ap (laid_run find q w) t.held ∙ run-laid find q w t.done;
          rest =
              append_assoc t.done (of_run find q w) (cards find (messages s idle rest))
              ∙ ap (λ (x : List Found). t.done ++ x) (sym (ap (λ (x : List Passed). cards find (messages s t.whole x)) e ∙ ap (cards find) (cut-closed s t.whole here rest eb) ∙ cards-told find q w (messages s idle rest)))
              ∙ t.rest;
          end = sym (ap (end_of p) e ∙ end_more p here rest) ∙ t.end;
        }
    turn_by (suc f) ef false eb =
        let w = grows s t.whole here [] in
        let rest = walked f s to q in
        let e : walked t.fuel s to p ≡ (here ∷ rest) = ap (λ (y : ℕ). walked y s to p) ef ∙ goes s p f to n in
        record {
          fuel = f;
          enough = omega (arith, (stepped s p to n).some, t.enough);
          done = t.done;
          whole = w;
          short = grew-is;
          held = t.held;
          rest = ap (λ (x : List Found). t.done ++ x) (sym (ap (λ (x : List Passed). cards find (messages s t.whole x)) e ∙ ap (cards find) (cut-open s t.whole here rest eb))) ∙ t.rest;
          end = sym (ap (end_of p) e ∙ end_more p here rest) ∙ t.end;
        }

    pub turned : Turning (cond (ends (flags_at (bytes_at s p))) (laid_run find q grew l) l) (cond (ends (flags_at (bytes_at s p))) idle grew) q
    turned = turn_by t.fuel refl (ends (flags_at (bytes_at s p))) refl

    -- the same by what the code worked out: the frame's bytes, the frame and what it takes, whether it closes, the run, what is held, the run that is left
    pub turned_by : (closed : Bool) (bytes : List ℕ) (frame : Frame) (m : ℕ) (g : Run) (l' : Laid) (r' : Run) → bytes ≡ bytes_at s p → frame ≡ met s to p → m ≡ size (met s to p)
        → closed ≡ ends (flags_at bytes) → g ≡ capped (grown bytes frame r) → l' ≡ cond closed (laid_run find (p + m) g l) l → r' ≡ cond closed idle g → Turning l' r' (p + m)
    turned_by closed bytes frame m g l' r' eb ef em ec eg el er = rw (el, er, ec, eg, eb, ef, em) turned

-- a frame that is passed lies in the log
pub place_inside : (t p n m len : ℕ) → p % t + n ≤ t → m ≤ n → 3 * t ≤ len → place_at t p + m ≤ len
place_inside t p n m len h k e =
    let c : p / t % 3 ≤ 2 = omega arith in
    let q : p / t % 3 * t ≤ 2 * t = mul-le-mul_right t c in
    omega (arith, q)
