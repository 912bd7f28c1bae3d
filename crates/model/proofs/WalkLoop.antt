-- A loop over frames against the definition of the walk: `Going` is what it keeps, with the fuel and the entries hidden; one law for each
-- way that a turn goes, and one for each way out.
use mathlib.Core.Path.{◌≡◌, refl, sym, ap, ap₂, ◌∙◌, subst}
use mathlib.Core.Logic.{◌⊎◌, inl, inr, ⊎_elim}
use Prim.Native.Nat.{ℕ, zero, suc, ◌+◌, ◌-◌, ◌*◌, ◌≤◌, ◌<◌}
use mathlib.Core.Bool.{Bool, true, false, cond}
use mathlib.Core.List.{List, [], ◌∷◌, ◌++◌, append-nil}
use native.Mathlib.Omega.{arith}
use native.Mathlib.Numerals.{add-one}
use borrow.Author.Tests.{le-ltb, lt-ltb, ne_eqb}
use lib.Dec.{eqb, ltb}
use lib.ListN.{length, drop, set, length-append}
use lib.IntN.{ℤ, pos}
use Rattle.model.specs.declared.Frame.{Frame}
use Rattle.model.specs.declared.Frame.TheVariants.{Absent, Unsound, Padding, Data}
use Rattle.model.specs.declared.Walk.{Walk}
use Rattle.model.specs.FrameDescriptor.{align, frame_at, is_unsound, flags_at, ends}
use Rattle.model.specs.TermReader.{Walked, still, handed, handed_by, next_action, rest_actions, over, walk, walk_of, first_unsound, laid}
use Rattle.model.proofs.FrameLaws.{Lies, lies}
use Rattle.model.proofs.WalkLaws.{joined, joined-none, joined-passed, joined-handed, walk-full, walk_end, walk-stop, walk_turn, laid_none, laid_more}
use Rattle.model.proofs.Both.{and-false}

-- Where the loop stands: the lent slice holds the entries so far; what is done joined with the walk from here is the whole walk; and it
-- is still at its first frame, or that one is not unsound.
pub record Going (log : List ℕ) (base term end at limit : ℕ) (acts : List ℕ) (slots out : List ℤ) (offset settled count : ℕ) : Type 0 where
  pub es : List (ℕ × ℕ)
  pub fuel : ℕ
  pub counted : count ≡ length es
  pub below : count ≤ limit
  pub written : out ≡ laid slots es
  pub later : at ≤ offset
  pub enough : end - offset ≤ fuel
  pub same : walk term log base term end at limit acts ≡ joined es (offset - at) settled (walk fuel log base term end offset (limit - count) (drop count acts))
  pub first : ((offset ≡ at) × (count ≡ 0)) ⊎ (first_unsound log base term end at limit ≡ false)

-- What it comes to: the numbers of the walk, and its entries in the lent slice.
pub record Came (log : List ℕ) (base term end at limit : ℕ) (acts : List ℕ) (slots out : List ℤ) (w : Walk) : Type 0 where
  pub numbers : w ≡ walk_of (walk term log base term end at limit acts)
  pub written : out ≡ laid slots (walk term log base term end at limit acts).entries
  pub first : first_unsound log base term end at limit ≡ false

-- the four numbers
abbrev pub walk_by : ℕ → ℕ → ℕ → ℕ → Walk
walk_by e f m s = record { entries = e; fragments = f; moved = m; settled = s }

same-walk : (a b m s a' b' m' s' : ℕ) → a ≡ a' → b ≡ b' → m ≡ m' → s ≡ s' → walk_by a b m s ≡ walk_by a' b' m' s'
same-walk a b m s a' b' m' s' e1 e2 e3 e4 = cc

-- one entry more in the lent slice
abbrev pub entered : List ℤ → ℕ → ℕ → ℕ → List ℤ
entered out count offset n = set (set out (2 * count) (pos (offset + 32))) (2 * count + 1) (pos (n - 32))

rest-drop : (acts : List ℕ) (k : ℕ) → rest_actions (drop k acts) ≡ drop (suc k) acts
rest-drop [] zero = refl
rest-drop [] (suc k) = refl
rest-drop (a ∷ acts) zero = refl
rest-drop (a ∷ acts) (suc k) = rest-drop acts k

module _ (log : List ℕ) (base term end at limit : ℕ) (acts : List ℕ) (slots : List ℤ) where
  abbrev whole : Walked
  whole = walk term log base term end at limit acts

  abbrev seen : ℕ → Frame
  seen offset = frame_at (drop (base + offset) log) (term - offset)

  -- it ends with these entries, and a last walk that moved nothing
  ended : (es : List (ℕ × ℕ)) (m s c : ℕ) (out : List ℤ) → c ≡ length es → out ≡ laid slots es → whole ≡ joined es m s still
      → first_unsound log base term end at limit ≡ false → Came log base term end at limit acts slots out (walk_by c c m s)
  ended es m s c out e o q f =
      let n : es ++ [] ≡ es = append-nil es in
      record {
        numbers = same-walk _ _ _ _ _ _ _ _ (e ∙ ap length (sym n)) (omega arith) (omega arith) refl ∙ ap walk_of (sym q);
        written = o ∙ ap (laid slots) (sym n ∙ ap (λ (w : Walked). w.entries) (sym q));
        first = f;
      }

  pub start : end ≤ term → Going log base term end at limit acts slots slots at 0 0
  start h =
      let l : limit ≡ limit - 0 = omega arith in
      record {
        es = [];
        fuel = term;
        counted = refl;
        below = omega arith;
        written = sym (laid_none slots);
        later = omega arith;
        enough = omega arith;
        same = sym (joined-none (at - at) whole (omega arith)) ∙ ap (λ (n : ℕ). joined [] (at - at) 0 (walk term log base term end at n acts)) l;
        first = inl (refl, refl);
      }

  -- a frame that is not unsound was seen, so the first one is not
  first-seen : (offset count : ℕ) (x : Frame) → ((offset ≡ at) × (count ≡ 0)) ⊎ (first_unsound log base term end at limit ≡ false) → seen offset ≡ x → is_unsound x ≡ false
      → first_unsound log base term end at limit ≡ false
  first-seen offset count x (inr f) e h = f
  first-seen offset count x (inl p) e h =
      let q : is_unsound (seen at) ≡ false = ap (λ (o : ℕ). is_unsound (seen o)) (sym p.0) ∙ ap is_unsound e ∙ h in
      rw q (rw (and-false (ltb 0 limit)) (and-false (ltb at end)))

  -- ---- ways out that look at no frame

  pub full : (out : List ℤ) (offset settled count : ℕ) → Going log base term end at limit acts slots out offset settled count → limit ≤ count
      → Came log base term end at limit acts slots out (walk_by count count (offset - at) settled)
  full out offset settled count g h =
      let z : limit - count ≡ 0 = omega arith in
      ended g.es (offset - at) settled count out g.counted g.written
      (g.same ∙ ap (λ (n : ℕ). joined g.es (offset - at) settled (walk g.fuel log base term end offset n (drop count acts))) z
      ∙ ap (joined g.es (offset - at) settled) (walk-full log base term end g.fuel offset (drop count acts)))
      (none g.first)
    where
      none : ((offset ≡ at) × (count ≡ 0)) ⊎ (first_unsound log base term end at limit ≡ false) → first_unsound log base term end at limit ≡ false
      none (inr f) = f
      none (inl p) = rw (le-ltb 0 limit (omega arith)) (and-false (ltb at end))

  pub past : (out : List ℤ) (offset settled count : ℕ) → Going log base term end at limit acts slots out offset settled count → end ≤ offset
      → Came log base term end at limit acts slots out (walk_by count count (offset - at) settled)
  past out offset settled count g h =
      ended g.es (offset - at) settled count out g.counted g.written
      (g.same ∙ ap (joined g.es (offset - at) settled) (walk_end log base term end g.fuel offset (limit - count) (drop count acts) h))
      (none g.first)
    where
      none : ((offset ≡ at) × (count ≡ 0)) ⊎ (first_unsound log base term end at limit ≡ false) → first_unsound log base term end at limit ≡ false
      none (inr f) = f
      none (inl p) = rw (le-ltb at end (omega arith))

  -- ---- ways out at a frame

  pub absent : (out : List ℤ) (offset settled count : ℕ) → Going log base term end at limit acts slots out offset settled count → seen offset ≡ Absent
      → Came log base term end at limit acts slots out (walk_by count count (offset - at) settled)
  absent out offset settled count g e =
      ended g.es (offset - at) settled count out g.counted g.written
      (g.same ∙ ap (joined g.es (offset - at) settled) (walk-stop log base term end g.fuel offset (limit - count) (drop count acts) Absent e (λ whole l go. refl)))
      (first-seen offset count Absent g.first e refl)

  -- past the first frame
  pub unsound : (out : List ℤ) (offset settled count m : ℕ) → Going log base term end at limit acts slots out offset settled count → seen offset ≡ Unsound m
      → (offset ≡ at → ⊥) → Came log base term end at limit acts slots out (walk_by count count (offset - at) settled)
  unsound out offset settled count m g e n =
      ended g.es (offset - at) settled count out g.counted g.written
      (g.same ∙ ap (joined g.es (offset - at) settled) (walk-stop log base term end g.fuel offset (limit - count) (drop count acts) (Unsound m) e (λ whole l go. refl)))
      (⊎_elim (λ (p : (offset ≡ at) × (count ≡ 0)). absurd (n p.0)) (λ (f : first_unsound log base term end at limit ≡ false). f) g.first)

  -- at the first frame
  first-is : (offset count m : ℕ) → offset ≡ at → offset < end → count < limit → seen offset ≡ Unsound m → first_unsound log base term end at limit ≡ true
  first-is offset count m p h l e =
      let q : seen at ≡ Unsound m = ap seen (sym p) ∙ e in
      rw (lt-ltb at end (omega arith), lt-ltb 0 limit (omega arith), q)

  pub unsound-first : (out : List ℤ) (offset settled count m : ℕ) → Going log base term end at limit acts slots out offset settled count → offset ≡ at → offset < end
      → count < limit → seen offset ≡ Unsound m → (first_unsound log base term end at limit ≡ true) × (out ≡ slots)
  unsound-first out offset settled count m g p h l e =
      let t = first-is offset count m p h l e in
      (t, untouched t g.first)
    where
      no-entries : (es : List (ℕ × ℕ)) → length es ≡ 0 → laid slots es ≡ slots
      no-entries [] z = laid_none slots
      no-entries (x ∷ xs) z = absurd (omega arith)

      untouched : first_unsound log base term end at limit ≡ true → ((offset ≡ at) × (count ≡ 0)) ⊎ (first_unsound log base term end at limit ≡ false) → out ≡ slots
      untouched t (inl q) = g.written ∙ no-entries g.es (omega (arith, g.counted))
      untouched t (inr f) = let z : true ≡ false = sym t ∙ f in absurd (let y : ◌≡◌ {A = ℕ} 0 1 = cc in omega arith)

  -- ---- turns

  -- the walk from here, at a frame x: fuel and limit are what is left after it
  turned : (fuel offset count : ℕ) (x : Frame) → end - offset ≤ suc fuel → offset < end → count < limit → seen offset ≡ x
      → walk (suc fuel) log base term end offset (limit - count) (drop count acts)
      ≡ over x (ends (flags_at (drop (base + offset) log))) offset (limit - (count + 1)) (drop count acts) (λ a l more. walk fuel log base term end a l more)
  turned fuel offset count x en h l e =
      let q : limit - count ≡ suc (limit - (count + 1)) = omega arith in
      rw q (walk_turn log base term end fuel offset (limit - (count + 1)) (drop count acts) x h e)

  padding-from : (f : ℕ) (out : List ℤ) (offset settled count n : ℕ) (g : Going log base term end at limit acts slots out offset settled count) → g.fuel ≡ f
      → offset < end → count < limit → seen offset ≡ Padding n
      → Going log base term end at limit acts slots out (offset + align n) (offset + align n - at) count
  padding-from zero out offset settled count n g ef h l e = absurd (omega (arith, g.enough))
  padding-from (suc f) out offset settled count n g ef h l e =
      let k : Lies n (term - offset) = lies (drop (base + offset) log) (term - offset) (Padding n) e refl in
      let m : offset - at + align n ≡ offset + align n - at = omega (arith, g.later) in
      let q : suc (limit - (count + 1)) ≡ limit - count = omega arith in
      let rest : ℕ → Walked = λ (j : ℕ). walk f log base term end (offset + align n) j (drop count acts) in
      record {
        es = g.es;
        fuel = f;
        counted = g.counted;
        below = g.below;
        written = g.written;
        later = omega (arith, g.later);
        enough = omega (arith, g.enough, k.header);
        same =
            g.same
            ∙ ap (λ (y : ℕ). joined g.es (offset - at) settled (walk y log base term end offset (limit - count) (drop count acts))) ef
            ∙ ap (joined g.es (offset - at) settled) (turned f offset count (Padding n) (omega (arith, g.enough)) h l e)
            ∙ joined-passed g.es (align n) (offset - at) settled (rest (suc (limit - (count + 1)))) (omega (arith, k.header))
            ∙ ap₂ (λ (x j : ℕ). joined g.es x x (rest j)) m q;
        first = inr (first-seen offset count (Padding n) g.first e refl);
      }

  pub padding : (out : List ℤ) (offset settled count n : ℕ) → Going log base term end at limit acts slots out offset settled count
      → offset < end → count < limit → seen offset ≡ Padding n
      → Going log base term end at limit acts slots out (offset + align n) (offset + align n - at) count
  padding out offset settled count n g h l e = padding-from g.fuel out offset settled count n g refl h l e

  -- a data frame of length n is seen: its entry is written, and the action decides
  module _ (out : List ℤ) (offset settled count n : ℕ) (g : Going log base term end at limit acts slots out offset settled count) (h : offset < end) (l : count < limit)
      (e : seen offset ≡ Data n) (room : 2 * limit ≤ length slots) where
    abbrev es' : List (ℕ × ℕ)
    es' = g.es ++ ((offset + 32, n - 32) ∷ [])

    abbrev complete : Bool
    complete = ends (flags_at (drop (base + offset) log))

    long : Lies n (term - offset)
    long = lies (drop (base + offset) log) (term - offset) (Data n) e refl

    more-counted : count + 1 ≡ length es'
    more-counted = omega (arith, g.counted, length-append g.es ((offset + 32, n - 32) ∷ []))

    more-written : entered out count offset n ≡ laid slots es'
    more-written = ap (λ (o : List ℤ). entered o count offset n) g.written ∙ laid_more slots g.es count (offset + 32) (n - 32) g.counted (omega arith)

    step : (f : ℕ) → g.fuel ≡ suc f
        → whole ≡ joined g.es (offset - at) settled (handed_by (next_action (drop count acts)) offset n complete (walk f log base term end (offset + align n) (limit - (count + 1)) (drop (count + 1) acts)))
    step f ef =
        let q : rest_actions (drop count acts) ≡ drop (count + 1) acts = rest-drop acts count ∙ ap (λ (k : ℕ). drop k acts) (sym (add-one count)) in
        g.same
        ∙ ap (λ (y : ℕ). joined g.es (offset - at) settled (walk y log base term end offset (limit - count) (drop count acts))) ef
        ∙ ap (joined g.es (offset - at) settled) (turned f offset count (Data n) (omega (arith, g.enough)) h l e)
        ∙ ap (λ (r : List ℕ). joined g.es (offset - at) settled (handed_by (next_action (drop count acts)) offset n complete (walk f log base term end (offset + align n) (limit - (count + 1)) r))) q

    handed-on : (w : Walked) → joined g.es (offset - at) settled (handed offset n complete w) ≡ joined es' (offset + align n - at) (cond complete (offset + align n - at) settled) w
    handed-on w =
        let m : offset - at + align n ≡ offset + align n - at = omega (arith, g.later) in
        joined-handed g.es (offset - at) settled offset n complete w (omega (arith, long.header)) ∙ ap (λ (x : ℕ). joined es' x (cond complete x settled) w) m

    data-from : (f action : ℕ) → g.fuel ≡ f → action ≡ next_action (drop count acts) → (action ≡ 1 → ⊥) → (action ≡ 2 → ⊥)
        → Going log base term end at limit acts slots (entered out count offset n) (offset + align n) (cond complete (offset + align n - at) settled) (count + 1)
    data-from zero action ef ea n1 n2 = absurd (omega (arith, g.enough))
    data-from (suc f) action ef ea n1 n2 =
        let w = walk f log base term end (offset + align n) (limit - (count + 1)) (drop (count + 1) acts) in
        let b1 : eqb action 1 ≡ false = ne_eqb action 1 n1 in
        let b2 : eqb action 2 ≡ false = ne_eqb action 2 n2 in
        let t : handed_by action offset n complete w ≡ handed offset n complete w = rw (b1, b2) in
        record {
          es = es';
          fuel = f;
          counted = more-counted;
          below = omega arith;
          written = more-written;
          later = omega (arith, g.later);
          enough = omega (arith, g.enough, long.header);
          same = step f ef ∙ ap (λ (a : ℕ). joined g.es (offset - at) settled (handed_by a offset n complete w)) (sym ea) ∙ ap (joined g.es (offset - at) settled) t ∙ handed-on w;
          first = inr (first-seen offset count (Data n) g.first e refl);
        }

    -- continue or commit
    pub goes_on : (action : ℕ) → action ≡ next_action (drop count acts) → (action ≡ 1 → ⊥) → (action ≡ 2 → ⊥)
        → Going log base term end at limit acts slots (entered out count offset n) (offset + align n) (cond complete (offset + align n - at) settled) (count + 1)
    goes_on action ea n1 n2 = data-from g.fuel action refl ea n1 n2

    broken-from : (f action : ℕ) → g.fuel ≡ f → action ≡ next_action (drop count acts) → action ≡ 2
        → Came log base term end at limit acts slots (entered out count offset n) (walk_by (count + 1) (count + 1) (offset + align n - at) (cond complete (offset + align n - at) settled))
    broken-from zero action ef ea b = absurd (omega (arith, g.enough))
    broken-from (suc f) action ef ea b =
        let w = walk f log base term end (offset + align n) (limit - (count + 1)) (drop (count + 1) acts) in
        ended es' (offset + align n - at) (cond complete (offset + align n - at) settled) (count + 1) (entered out count offset n) more-counted more-written
        (step f ef ∙ ap (λ (a : ℕ). joined g.es (offset - at) settled (handed_by a offset n complete w)) (sym ea ∙ b) ∙ handed-on still)
        (first-seen offset count (Data n) g.first e refl)

    -- break
    pub broken : (action : ℕ) → action ≡ next_action (drop count acts) → action ≡ 2
        → Came log base term end at limit acts slots (entered out count offset n) (walk_by (count + 1) (count + 1) (offset + align n - at) (cond complete (offset + align n - at) settled))
    broken action ea b = broken-from g.fuel action refl ea b

    aborted-from : (f action : ℕ) → g.fuel ≡ f → action ≡ next_action (drop count acts) → action ≡ 1
        → Came log base term end at limit acts slots (entered out count offset n) (walk_by (count + 1) count (offset - at) settled)
    aborted-from zero action ef ea b = absurd (omega (arith, g.enough))
    aborted-from (suc f) action ef ea b =
        let w = walk f log base term end (offset + align n) (limit - (count + 1)) (drop (count + 1) acts) in
        let q = step f ef ∙ ap (λ (a : ℕ). joined g.es (offset - at) settled (handed_by a offset n complete w)) (sym ea ∙ b) in
        record {
          numbers = same-walk _ _ _ _ _ _ _ _ more-counted (omega (arith, g.counted)) (omega arith) refl ∙ ap walk_of (sym q);
          written = more-written ∙ ap (laid slots) (ap (λ (z : Walked). z.entries) (sym q));
          first = first-seen offset count (Data n) g.first e refl;
        }

    -- abort
    pub aborted : (action : ℕ) → action ≡ next_action (drop count acts) → action ≡ 1
        → Came log base term end at limit acts slots (entered out count offset n) (walk_by (count + 1) count (offset - at) settled)
    aborted action ea b = aborted-from g.fuel action refl ea b

    -- ---- the same with the numbers as a loop has them: the entry's two, whether the frame ends a message, the bytes settled then

    module _ (whole' : Bool) (settled' : ℕ) (a b : ℤ) (ew : whole' ≡ complete) (es : settled' ≡ cond whole' (offset + align n - at) settled) (pa : a ≡ pos (offset + 32)) (pb : b ≡ pos (n - 32)) where
      same-settled : cond complete (offset + align n - at) settled ≡ settled'
      same-settled = ap (λ (t : Bool). cond t (offset + align n - at) settled) (sym ew) ∙ sym es

      same-entered : entered out count offset n ≡ set (set out (2 * count) a) (2 * count + 1) b
      same-entered = ap₂ (λ (x y : ℤ). set (set out (2 * count) x) (2 * count + 1) y) (sym pa) (sym pb)

      pub turn_on : (action : ℕ) → action ≡ next_action (drop count acts) → (action ≡ 1 → ⊥) → (action ≡ 2 → ⊥)
          → Going log base term end at limit acts slots (set (set out (2 * count) a) (2 * count + 1) b) (offset + align n) settled' (count + 1)
      turn_on action ea n1 n2 =
          subst (λ (s : ℕ). Going log base term end at limit acts slots (set (set out (2 * count) a) (2 * count + 1) b) (offset + align n) s (count + 1)) same-settled
          (subst (λ (o : List ℤ). Going log base term end at limit acts slots o (offset + align n) (cond complete (offset + align n - at) settled) (count + 1)) same-entered
          (goes_on action ea n1 n2))

      pub turn-broken : (action : ℕ) → action ≡ next_action (drop count acts) → action ≡ 2
          → Came log base term end at limit acts slots (set (set out (2 * count) a) (2 * count + 1) b) (walk_by (count + 1) (count + 1) (offset + align n - at) settled')
      turn-broken action ea k =
          subst (λ (s : ℕ). Came log base term end at limit acts slots (set (set out (2 * count) a) (2 * count + 1) b) (walk_by (count + 1) (count + 1) (offset + align n - at) s)) same-settled
          (subst (λ (o : List ℤ). Came log base term end at limit acts slots o (walk_by (count + 1) (count + 1) (offset + align n - at) (cond complete (offset + align n - at) settled))) same-entered
          (broken action ea k))

    pub turn-aborted : (a b : ℤ) → a ≡ pos (offset + 32) → b ≡ pos (n - 32) → (action moved : ℕ) → action ≡ next_action (drop count acts) → action ≡ 1 → moved ≡ offset - at
        → Came log base term end at limit acts slots (set (set out (2 * count) a) (2 * count + 1) b) (walk_by (count + 1) count moved settled)
    turn-aborted a b pa pb action moved ea k em =
        let q : entered out count offset n ≡ set (set out (2 * count) a) (2 * count + 1) b = ap₂ (λ (x y : ℤ). set (set out (2 * count) x) (2 * count + 1) y) (sym pa) (sym pb) in
        subst (λ (m : ℕ). Came log base term end at limit acts slots (set (set out (2 * count) a) (2 * count + 1) b) (walk_by (count + 1) count m settled)) (sym em)
        (subst (λ (o : List ℤ). Came log base term end at limit acts slots o (walk_by (count + 1) count (offset - at) settled)) q (aborted action ea k))
