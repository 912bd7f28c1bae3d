-- The assembler's bookkeeping: looking for a session's place, and a part of the lent buffer lies in it.
use Rattle.std.proofs.Common.{◌≡◌, ℕ, suc, ◌+◌, ◌*◌, ◌/◌, ◌<◌, ◌≤◌, min, Bool, true, false, cond, ◌&&◌, ◌||◌, eqb, ltb, leb, List, length, get_or, drop, set, ℤ, pos, sym, ap, ◌∙◌, ap₂, mul-le-mul_right, add-one, arith, drop-cons, drop_of_length-le, le-ltb, lt-ltb, eq-eqb, ne_eqb}
use borrow.Author.Tests.{lt-leb}
use Rattle.model.specs.Bytes.{word}
use Rattle.model.specs.FrameDescriptor.{begins, ends}
use Rattle.model.specs.declared.Joining.{Joining}
use Rattle.model.specs.declared.Joining.TheVariants.{Through, Ignore, Full, TooLong, Join, Complete}
use Rattle.model.specs.FragmentAssembler.{Sessions, entered, place_in, place_of, holding, joining}
use Rattle.model.proofs.Choice.{cond-true, cond-false}
use Rattle.model.proofs.Both.{both_true}
use Rattle.logbuffer.specs.Assembler.{entered_with, held_at}

-- part k of 16 lies in the buffer
pub part_in : (k part n : ℕ) → part ≡ n / 16 → k < 16 → k * part + part ≤ n
part_in k part n e h =
    let l : (k + 1) * part ≤ 16 * part = mul-le-mul_right part (omega arith) in
    omega arith

-- the place among the ids, where none before i is the session's
abbrev pub Left : List ℤ → ℤ → ℕ → Type 0
Left ids z i = place_in ids z ≡ i + place_in (drop i ids) z

module _ (ids : List ℤ) (z : ℤ) (i : ℕ) where
  -- the id at i, and those after it
  here : i < length ids → place_in (drop i ids) z ≡ cond (eqb (word (get_or ids i (pos 0))) (word z)) 0 (suc (place_in (drop (i + 1) ids) z))
  unfolding place_in
  here h = rw (add-one, drop-cons ids i (pos 0))

  pub left_here : i < length ids → word (get_or ids i (pos 0)) ≡ word z → Left ids z i → place_in ids z ≡ i
  left_here h e r = r ∙ ap (λ (k : ℕ). i + k) (here h ∙ ap (λ (b : Bool). cond b 0 (suc (place_in (drop (i + 1) ids) z))) (eq-eqb (word (get_or ids i (pos 0))) (word z) e)) ∙ omega arith

  pub left-on : i < length ids → ¬ (word (get_or ids i (pos 0)) ≡ word z) → Left ids z i → Left ids z (i + 1)
  left-on h e r = r ∙ ap (λ (k : ℕ). i + k) (here h ∙ ap (λ (b : Bool). cond b 0 (suc (place_in (drop (i + 1) ids) z))) (ne_eqb (word (get_or ids i (pos 0))) (word z) e)) ∙ omega arith

  pub left-none : length ids ≤ i → Left ids z i → place_in ids z ≡ i
  unfolding place_in
  left-none h r = r ∙ ap (λ (x : List ℤ). i + place_in x z) (drop_of_length-le ids h) ∙ omega arith

-- ---- a session entered at a place

module _ (m count k : ℕ) (e : m ≡ min count 16) where
  pub entered-before : k < m → m ≡ entered_with count k
  entered-before h = e ∙ sym (cond-true (ltb k (min count 16)) _ _ (lt-ltb k (min count 16) (omega arith)))

  pub entered-new : m ≤ k → k < 16 → k + 1 ≡ entered_with count k
  entered-new h l = sym (cond-false (ltb k (min count 16)) _ _ (le-ltb k (min count 16) (omega arith)) ∙ cond-true (ltb k 16) _ _ (lt-ltb k 16 l))

pub held_in : (s : Sessions) (k : ℕ) (z : ℤ) (n : ℕ) → k < 16 → held_at s k z n ≡ holding s k z n
held_in s k z n h = cond-true (ltb k 16) (holding s k z n) s (lt-ltb k 16 h)

pub held_by : (s : Sessions) (k : ℕ) (z : ℤ) (n m : ℕ) → k < 16 → m ≡ entered_with s.count k
    → ◌≡◌ {A = Sessions} (record { count = m; ids = set s.ids k z; held = set s.held k n }) (held_at s k z n)
unfolding holding
held_by s k z n m h e =
    let o : cond (ltb k 16) (k + 1) (entered s) ≡ suc k = cond-true (ltb k 16) (k + 1) (entered s) (lt-ltb k 16 h) ∙ add-one k in
    ap {B = Sessions} (λ (c : ℕ). record { count = c; ids = set s.ids k z; held = set s.held k n }) (e ∙ ap (λ (x : ℕ). cond (ltb k (entered s)) (entered s) x) o)
    ∙ sym (held_in s k z n h)

pub held_none : (s : Sessions) (k : ℕ) (z : ℤ) (n : ℕ) → 16 ≤ k → s ≡ held_at s k z n
held_none s k z n h = sym (cond-false (ltb k 16) (holding s k z n) s (le-ltb k 16 h))

-- ---- what is done with a frame

-- a begin frame of a body of n bytes, for a session at place k
abbrev pub Begun : ℕ → ℕ → ℕ → Joining
Begun k n part = cond (leb 16 k) Full (cond (ltb part n) (TooLong k) (Join k 0))

-- a frame that neither begins nor passes through, for a session at place k that holds `from` bytes
module _ (k entered from n part : ℕ) (ends : Bool) where
  abbrev pub More : Joining
  More = cond (leb entered k || eqb from 0) Ignore (cond (ltb part (from + n)) (TooLong k) (cond ends (Complete k from) (Join k from)))

  pub more_by : k < entered → ¬ (from ≡ 0) → cond (ltb part (from + n)) (TooLong k) (cond ends (Complete k from) (Join k from)) ≡ More
  more_by h e = sym (cond-false (leb entered k || eqb from 0) Ignore _ (ap₂ ◌||◌ (lt-leb entered k h) (ne_eqb from 0 e)))

module _ (s : Sessions) (z : ℤ) (flags n part : ℕ) where
  pub join-through : begins flags ≡ true → ends flags ≡ true → Through ≡ joining s z flags n part
  unfolding joining
  join-through b e = sym (cond-true (begins flags && ends flags) Through _ (both_true b e))

  pub join-begun : begins flags ≡ true → ends flags ≡ false → Begun (place_of s z) n part ≡ joining s z flags n part
  unfolding joining
  join-begun b e =
      sym (cond-false (begins flags && ends flags) Through _ (ap₂ ◌&&◌ b e) ∙ cond-true (begins flags) _ _ b)

  pub join_more : begins flags ≡ false
      → More (place_of s z) (entered s) (get_or s.held (place_of s z) 0) n part (ends flags)
      ≡ joining s z flags n part
  unfolding joining
  join_more b = sym (cond-false (begins flags && ends flags) Through _ (ap (λ (x : Bool). x && ends flags) b) ∙ cond-false (begins flags) _ _ b)
