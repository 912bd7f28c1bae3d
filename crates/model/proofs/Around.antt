-- A history's sizes, and the history around a claim: where a claim's extent begins, what an edit changes there.
use mathlib.Core.Path.{◌≡◌, refl, sym, ap, ap₂, ◌∙◌, subst}
use mathlib.Core.Logic.{◌⊎◌, inl, inr}
use Prim.Native.Nat.{ℕ, zero, ◌+◌, ◌-◌, ◌%◌, ◌≤◌, ◌<◌}
use mathlib.Core.List.{List, [], ◌∷◌, ◌++◌, append_assoc, append-nil}
use native.Mathlib.Omega.{arith}
use lib.ListN.{length}
use Rattle.model.specs.Bytes.{long, zeros}
use Rattle.model.specs.FrameDescriptor.{space}
use Rattle.model.specs.TermAppender.{Fragment, fragment, need, cut}
use Rattle.model.specs.History.{Shape, State, Extent, message, claimed·, padding, size_of, size_all, edit}
use Rattle.model.proofs.Choice.{le_yes, le-no}
use Rattle.model.proofs.Splice.{length-zeros}
use Rattle.model.proofs.Cut.{need-is}
use Rattle.model.specs.TermAppender as TermAppender
use Rattle.model.proofs.Cells.{Cell, flen, fsize, sizes, sizes-append}
use Rattle.model.proofs.OneSession.{cells, frames, flat}

-- ---- sizes

-- paddings are positive multiples of 32
unfoldable pub Pads : List Extent → Type 0
Pads [] = Unit {0}
Pads (message re m ∷ h) = Pads h
Pads (claimed· k b ∷ h) = Pads h
Pads (padding n ∷ h) = (n % 32 ≡ 0) × (32 ≤ n) × Pads h

pub sizes-cells : (fs : List Fragment) → sizes (cells fs) ≡ TermAppender.sizes fs
unfolding sizes cells TermAppender.sizes fsize flen
sizes-cells [] = refl
sizes-cells (fragment fl re b ∷ fs) = ap (λ (n : ℕ). space (length b) + n) (sizes-cells fs)

module _ (c : Shape) (some : zero < c.payload) (even : c.payload % 32 ≡ 0) where
  pub message-size : (re m : _) → sizes (cells (cut c.payload re m)) ≡ need c.payload (length m)
  message-size re m = sizes-cells (cut c.payload re m) ∙ need-is c.payload re m

  pub size-all : (h : List Extent) → Pads h → size_all c h ≡ sizes (flat c h)
  unfolding size_all size_of flat frames sizes Pads fsize flen
  size-all [] p = refl
  size-all (message re m ∷ h) p =
      omega (arith, size-all h p, sizes-append (cells (cut c.payload (long re) m)) (flat c h), message-size (long re) m)
  size-all (claimed· k b ∷ h) p = ap (λ (n : ℕ). space (length b) + n) (size-all h p)
  size-all (padding n ∷ h) p =
      let e : space (length (zeros (n - 32))) ≡ n = omega (arith, length-zeros (n - 32), p.0, p.1) in
      ap₂ ◌+◌ (sym e) (size-all h p.2)

pub pads-snoc : (h : List Extent) (e : Extent) → Pads h → Pads (e ∷ []) → Pads (h ++ (e ∷ []))
unfolding Pads
pads-snoc [] e p q = q
pads-snoc (message re m ∷ h) e p q = pads-snoc h e p q
pads-snoc (claimed· k b ∷ h) e p q = pads-snoc h e p q
pads-snoc (padding n ∷ h) e p q = (p.0, p.1, pads-snoc h e p.2 q)

pub size-snoc : (c : Shape) (h : List Extent) (e : Extent) → size_all c (h ++ (e ∷ [])) ≡ size_all c h + size_of c e
unfolding size_all
size-snoc c [] e = omega arith
size-snoc c (x ∷ h) e = omega (arith, size-snoc c h e)

pub flat_append : (c : Shape) (h g : List Extent) → flat c (h ++ g) ≡ flat c h ++ flat c g
unfolding flat
flat_append c [] g = refl
flat_append c (s ∷ h) g = ap (λ (l : List Cell). frames c s ++ l) (flat_append c h g) ∙ sym (append_assoc (frames c s) (flat c h) (flat c g))

pub flat-snoc : (c : Shape) (h : List Extent) (s : Extent) → flat c (h ++ (s ∷ [])) ≡ flat c h ++ frames c s
unfolding flat
flat-snoc c h s = flat_append c h (s ∷ []) ∙ ap (λ (l : List Cell). flat c h ++ l) (append-nil (frames c s))

-- ---- a claim of n bytes begins at q

unfoldable pub IsClaim : ℕ → Extent → Type 0
IsClaim n (message re b) = ⊥
IsClaim n (claimed· k b) = length b ≡ n
IsClaim n (padding m) = ⊥

unfoldable pub At : Shape → ℕ → ℕ → List Extent → Type 0
At c q n [] = ⊥
At c q n (s ∷ h) = ((q ≡ 0) × IsClaim n s) ⊎ ((size_of c s ≤ q) × At c (q - size_of c s) n h)

pub at-append : (c : Shape) (q n : ℕ) (h g : List Extent) → At c q n h → At c q n (h ++ g)
unfolding At
at-append c q n [] g a = absurd a
at-append c q n (s ∷ h) g (inl a) = inl a
at-append c q n (s ∷ h) g (inr a) = inr (a.0, at-append c (q - size_of c s) n h g a.1)

pub at_new : (c : Shape) (n : ℕ) (h : List Extent) (s : Extent) → IsClaim n s → At c (size_all c h) n (h ++ (s ∷ []))
unfolding At size_all
at_new c n [] s i = inl (refl, i)
at_new c n (x ∷ h) s i = inr (omega arith, subst (λ (q : ℕ). At c q n (h ++ (s ∷ []))) (omega arith) (at_new c n h s i))

-- the history around a claim
pub record Around (c : Shape) (q n : ℕ) (h : List Extent) : Type 0 where
  pub front : List Extent
  pub state : State
  pub body : List ℕ
  pub back : List Extent
  pub is : h ≡ front ++ (claimed· state body ∷ back)
  pub at : size_all c front ≡ q
  pub long : length body ≡ n
  pub edited : (f : Extent → Extent) → edit c f q h ≡ front ++ (f (claimed· state body) ∷ back)

claim-size : (c : Shape) (k : State) (b : List ℕ) → size_of c (claimed· k b) ≡ space (length b)
unfolding size_of
claim-size c k b = refl

-- a claim changed for one of its length
pub at-swap : (c : Shape) (q n : ℕ) (h : List Extent) (k k' : State) (b b' : List ℕ) (g : List Extent) → length b ≡ length b' → At c q n (h ++ (claimed· k b ∷ g)) → At c q n (h ++ (claimed· k' b' ∷ g))
unfolding At IsClaim
at-swap c q n [] k k' b b' g e (inl a) = inl (a.0, sym e ∙ a.1)
at-swap c q n [] k k' b b' g e (inr a) =
    inr (subst (λ (m : ℕ). (m ≤ q) × At c (q - m) n g) (claim-size c k b ∙ ap space e ∙ sym (claim-size c k' b')) a)
at-swap c q n (s ∷ h) k k' b b' g e (inl a) = inl a
at-swap c q n (s ∷ h) k k' b b' g e (inr a) = inr (a.0, at-swap c (q - size_of c s) n h k k' b b' g e a.1)

pub pads-swap : (h : List Extent) (k k' : State) (b b' : List ℕ) (g : List Extent) → Pads (h ++ (claimed· k b ∷ g)) → Pads (h ++ (claimed· k' b' ∷ g))
unfolding Pads
pads-swap [] k k' b b' g p = p
pads-swap (message re m ∷ h) k k' b b' g p = pads-swap h k k' b b' g p
pads-swap (claimed· s m ∷ h) k k' b b' g p = pads-swap h k k' b b' g p
pads-swap (padding n ∷ h) k k' b b' g p = (p.0, p.1, pads-swap h k k' b b' g p.2)

pub pads-front : (h g : List Extent) → Pads (h ++ g) → Pads h
unfolding Pads
pads-front [] g p = tt
pads-front (message re m ∷ h) g p = pads-front h g p
pads-front (claimed· s m ∷ h) g p = pads-front h g p
pads-front (padding n ∷ h) g p = (p.0, p.1, pads-front h g p.2)

around_here : (c : Shape) (q n : ℕ) (s : Extent) (h : List Extent) → q ≡ 0 → IsClaim n s → Around c q n (s ∷ h)
unfolding IsClaim edit size_all
around_here c q n (message re b) h e i = absurd i
around_here c q n (claimed· k b) h e i =
    record {
      front = [];
      state = k;
      body = b;
      back = h;
      is = refl;
      at = sym e;
      long = i;
      edited = λ f. le-no (size_of c (claimed· k b)) q _ _ (omega (arith, claim-size c k b));
    }
around_here c q n (padding m) h e i = absurd i

pub around : (c : Shape) (q n : ℕ) (h : List Extent) → At c q n h → Around c q n h
unfolding At edit size_all
around c q n [] a = absurd a
around c q n (s ∷ h) (inl a) = around_here c q n s h a.0 a.1
around c q n (s ∷ h) (inr a) =
    let r = around c (q - size_of c s) n h a.1 in
    record {
      front = s ∷ r.front;
      state = r.state;
      body = r.body;
      back = r.back;
      is = ap (λ (l : List Extent). s ∷ l) r.is;
      at = omega (arith, r.at, a.0);
      long = r.long;
      edited = λ f. le_yes (size_of c s) q _ _ a.0 ∙ ap (λ (l : List Extent). s ∷ l) (r.edited f);
    }
