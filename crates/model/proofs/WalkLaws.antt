-- The walk over frames, turn by turn: what is done so far joined with what the walk from here gives is the whole walk. A loop that
-- keeps `Going` and stops where the walk stops has met the definition.
use mathlib.Core.Path.{◌≡◌, refl, sym, ap, ap₂, ◌∙◌}
use Prim.Native.Nat.{ℕ, zero, suc, ◌+◌, ◌-◌, ◌*◌, ◌≤◌, ◌<◌}
use mathlib.Core.Bool.{Bool, true, false, cond, ◌||◌}
use mathlib.Core.List.{List, [], ◌∷◌, ◌++◌, append_assoc}
use native.Mathlib.Omega.{arith}
use borrow.Author.Tests.{ltb-false, lt-ltb, le-leb, lt-leb}
use lib.Dec.{leb, ltb}
use lib.ListN.{length, drop, set, get_or, length-append}
use lib.Seq.{drop-cons, set_at}
use lib.IntN.{ℤ, pos}
use Rattle.model.specs.declared.Frame.{Frame}
use Rattle.model.specs.FrameDescriptor.{align, frame_at, flags_at, ends}
use Rattle.model.specs.TermReader.{Walked, still, passed, handed, over, walk, numbers, laid}

-- ---- the entries in the lent slice

numbers-length : (es : List (ℕ × ℕ)) → length (numbers es) ≡ 2 * length es
unfolding numbers
numbers-length [] = refl
numbers-length (e ∷ es) = omega (arith, numbers-length es)

numbers_more : (es : List (ℕ × ℕ)) (a b : ℕ) → numbers (es ++ ((a, b) ∷ [])) ≡ numbers es ++ (pos a ∷ pos b ∷ [])
unfolding numbers
numbers_more [] a b = refl
numbers_more (e ∷ es) a b = ap (λ (l : List ℤ). pos e.0 ∷ pos e.1 ∷ l) (numbers_more es a b)

pub laid_none : (slots : List ℤ) → laid slots [] ≡ slots
unfolding laid numbers
laid_none slots = refl

-- one entry more, written behind the others
pub laid_more : (slots : List ℤ) (es : List (ℕ × ℕ)) (n a b : ℕ) → n ≡ length es → 2 * n + 2 ≤ length slots
    → set (set (laid slots es) (2 * n) (pos a)) (2 * n + 1) (pos b) ≡ laid slots (es ++ ((a, b) ∷ []))
unfolding laid
laid_more slots es n a b e h =
    let p = numbers es in
    let q = drop (2 * length es) slots in
    let z = pos 0 in
    let l0 : length p ≡ 2 * n = omega (arith, numbers-length es) in
    let i0 : 2 * length es < length slots = omega arith in
    let i1 : suc (2 * length es) < length slots = omega arith in
    let c0 = drop-cons slots (2 * length es) z i0 in
    let c1 = drop-cons slots (suc (2 * length es)) z i1 in
    let rest = drop (suc (suc (2 * length es))) slots in
    let y0 = get_or slots (2 * length es) z in
    let y1 = get_or slots (suc (2 * length es)) z in
    let s0 : p ++ q ≡ p ++ (y0 ∷ (y1 ∷ rest)) = ap (λ (l : List ℤ). p ++ l) (c0 ∙ ap (λ (l : List ℤ). y0 ∷ l) c1) in
    let s1 : set (p ++ q) (2 * n) (pos a) ≡ p ++ (pos a ∷ (y1 ∷ rest)) = ap (λ (l : List ℤ). set l (2 * n) (pos a)) s0 ∙ set_at p y0 (y1 ∷ rest) (pos a) (2 * n) l0 in
    let l1 : length (p ++ (pos a ∷ [])) ≡ 2 * n + 1 = omega (arith, length-append p (pos a ∷ [])) in
    let s2 : p ++ (pos a ∷ (y1 ∷ rest)) ≡ (p ++ (pos a ∷ [])) ++ (y1 ∷ rest) = sym (append_assoc p (pos a ∷ []) (y1 ∷ rest)) in
    let s3 : set (set (p ++ q) (2 * n) (pos a)) (2 * n + 1) (pos b) ≡ (p ++ (pos a ∷ [])) ++ (pos b ∷ rest) =
    ap (λ (l : List ℤ). set l (2 * n + 1) (pos b)) (s1 ∙ s2) ∙ set_at (p ++ (pos a ∷ [])) y1 rest (pos b) (2 * n + 1) l1 in
    let d : suc (suc (2 * length es)) ≡ 2 * length (es ++ ((a, b) ∷ [])) = omega (arith, length-append es ((a, b) ∷ [])) in
    s3 ∙ append_assoc p (pos a ∷ []) (pos b ∷ rest) ∙ sym (append_assoc p (pos a ∷ pos b ∷ []) rest)
    ∙ ap₂ (λ (x y : List ℤ). x ++ y) (sym (numbers_more es a b)) (ap (λ (k : ℕ). drop k slots) d)

-- ---- what is done so far, and then a walk

-- these entries, so many bytes moved and settled, and then w
abbrev pub joined : List (ℕ × ℕ) → ℕ → ℕ → Walked → Walked
joined es m s w =
    record {
      entries = es ++ w.entries;
      fragments = length es + w.fragments;
      moved = m + w.moved;
      settled = cond (ltb 0 w.settled) (m + w.settled) s;
    }

same-walked : (es fs : List (ℕ × ℕ)) (a b m n s t : ℕ) → es ≡ fs → a ≡ b → m ≡ n → s ≡ t
    → ◌≡◌ {A = Walked} (record { entries = es; fragments = a; moved = m; settled = s }) (record { entries = fs; fragments = b; moved = n; settled = t })
same-walked es fs a b m n s t e1 e2 e3 e4 = cc

positive : (x : ℕ) → 0 < x → ltb 0 x ≡ true
positive x h = lt-ltb 0 x h

settled-passed : (b : Bool) (a m s x : ℕ) → ltb 0 x ≡ b → 0 < a → cond (ltb 0 (a + x)) (m + (a + x)) s ≡ cond b (m + a + x) (m + a)
settled-passed false a m s x e h = let z : x ≡ 0 = omega (arith, ltb-false 0 x e) in rw (positive (a + x) (omega arith)) (omega arith)
settled-passed true a m s x e h = rw (positive (a + x) (omega arith)) (omega arith)

settled-none : (b : Bool) (m x : ℕ) → ltb 0 x ≡ b → m ≡ 0 → cond b (m + x) 0 ≡ x
settled-none true m x e h = omega arith
settled-none false m x e h = omega (arith, ltb-false 0 x e)

pub joined-none : (m : ℕ) (w : Walked) → m ≡ 0 → joined [] m 0 w ≡ w
joined-none m w h = same-walked _ _ _ _ _ _ _ _ refl (omega arith) (omega arith) (settled-none (ltb 0 w.settled) m w.settled refl h)

pub joined-passed : (es : List (ℕ × ℕ)) (a m s : ℕ) (w : Walked) → 0 < a → joined es m s (passed a w) ≡ joined es (m + a) (m + a) w
joined-passed es a m s w h = same-walked _ _ _ _ _ _ _ _ refl refl (omega arith) (settled-passed (ltb 0 w.settled) a m s w.settled refl h)

settled-handed : (whole b : Bool) (a m s x : ℕ) → ltb 0 x ≡ b → 0 < a
    → cond (ltb 0 (cond (whole || b) (a + x) 0)) (m + cond (whole || b) (a + x) 0) s ≡ cond b (m + a + x) (cond whole (m + a) s)
settled-handed true b a m s x e h = settled-passed b a m s x e h
settled-handed false false a m s x e h = refl
settled-handed false true a m s x e h = settled-passed true a m s x e h

pub joined-handed : (es : List (ℕ × ℕ)) (m s at n : ℕ) (whole : Bool) (w : Walked) → 0 < n
    → joined es m s (handed at n whole w) ≡ joined (es ++ ((at + 32, n - 32) ∷ [])) (m + align n) (cond whole (m + align n) s) w
joined-handed es m s at n whole w h =
    same-walked _ _ _ _ _ _ _ _ (sym (append_assoc es ((at + 32, n - 32) ∷ []) w.entries))
    (omega (arith, length-append es ((at + 32, n - 32) ∷ []))) (omega arith) (settled-handed whole (ltb 0 w.settled) (align n) m s w.settled refl (omega arith))

-- ---- one turn of the walk

module _ (log : List ℕ) (base term end : ℕ) where
  pub walk-full : (fuel at : ℕ) (acts : List ℕ) → walk fuel log base term end at 0 acts ≡ still
  unfolding walk
  walk-full zero at acts = refl
  walk-full (suc fuel) at acts = refl

  pub walk_end : (fuel at limit : ℕ) (acts : List ℕ) → end ≤ at → walk fuel log base term end at limit acts ≡ still
  unfolding walk
  walk_end zero at limit acts h = refl
  walk_end (suc fuel) at zero acts h = refl
  walk_end (suc fuel) at (suc limit) acts h = rw (le-leb end at h)

  either : (b : Bool) (x : Frame) (whole : Bool) (at limit : ℕ) (acts : List ℕ) (go : ℕ → ℕ → List ℕ → Walked) → over x whole at limit acts go ≡ still
      → cond b still (over x whole at limit acts go) ≡ still
  either true x whole at limit acts go h = refl
  either false x whole at limit acts go h = h

  -- a frame at which the walk stops, whatever the fuel
  pub walk-stop : (fuel at limit : ℕ) (acts : List ℕ) (x : Frame) → frame_at (drop (base + at) log) (term - at) ≡ x
      → ((whole : Bool) (l : ℕ) (go : ℕ → ℕ → List ℕ → Walked) → over x whole at l acts go ≡ still) → walk fuel log base term end at limit acts ≡ still
  unfolding walk
  walk-stop zero at limit acts x e h = refl
  walk-stop (suc fuel) at zero acts x e h = refl
  walk-stop (suc fuel) at (suc limit) acts x e h =
      rw e (either (leb end at) x (ends (flags_at (drop (base + at) log))) at limit acts (λ a l more. walk fuel log base term end a l more) (h _ limit _))

  -- a frame that is passed, with fuel for it
  pub walk_turn : (fuel at limit : ℕ) (acts : List ℕ) (x : Frame) → at < end → frame_at (drop (base + at) log) (term - at) ≡ x
      → walk (suc fuel) log base term end at (suc limit) acts
      ≡ over x (ends (flags_at (drop (base + at) log))) at limit acts (λ a l more. walk fuel log base term end a l more)
  unfolding walk
  walk_turn fuel at limit acts x l e = rw (lt-leb end at l, e)
