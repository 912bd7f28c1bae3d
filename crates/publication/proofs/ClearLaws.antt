-- A raise of the slowest reader and a clearing, by the numbers that the code has.
use Rattle.std.specs.Prelude.{Result, Ok, Err, ⊤}
use Rattle.model.specs.declared.Error.{Error}
use mathlib.Core.Path.{◌≡◌, refl, sym, ap, ap₂, ◌∙◌}
use mathlib.Core.Bool.{Bool, true, false, not}
use mathlib.Core.List.{List, ◌++◌}
use Prim.Native.Nat.{ℕ, ◌+◌, ◌-◌, ◌*◌, ◌≤◌, ◌<◌}
use native.Mathlib.Omega.{arith}
use borrow.Author.Tests.{le-leb, lt-leb, leb-true, eq-eqb, ne_eqb}
use borrow.Rule.Slice.PartMut.{mid_of, post_of, put_mid, mid_len, Post-is}
use lib.Dec.{ltb}
use lib.ListN.{length, take, drop}
use lib.IntN.{ℤ}
use Rattle.model.specs.declared.LogRecord.{LogRecord}
use Rattle.model.specs.declared.Reading.{Reading}
use Rattle.model.specs.declared.Error.TheVariants.{IllegalArgument, IllegalRecord, PositionOutOfRange, NewPositionOutOfRange, NotDue}
use Rattle.model.specs.Bytes.{word, long, zeros, splice}
use Rattle.model.specs.LogBufferDescriptor.{reading, sound_record, sound, good_position, good_partition, first_rows, due, with_slowest, with_mark}
use Rattle.model.specs.Publication.{refuse_if, reply_by, raise_verdict, raise_of, not_due, clear_verdict, clear_of, cleared_by, clear_bytes}
use Rattle.model.proofs.Splice.{length-zeros}

-- ---- the slowest reader

-- the ladder by its tests
pub raise-tests : (v : Reading) (p : ℕ) (a b c : Bool) → sound_record v ≡ a → good_position v p ≡ b → ltb p v.slowest ≡ c
    → refuse_if (not a) IllegalRecord (refuse_if (not b) PositionOutOfRange (refuse_if c NewPositionOutOfRange (Ok tt))) ≡ raise_verdict v p
unfolding raise_verdict
raise-tests v p a b c ea eb ec =
    ap₂ (λ (x y : Bool). refuse_if (not x) IllegalRecord (refuse_if (not y) PositionOutOfRange (refuse_if c NewPositionOutOfRange (Ok tt)))) (sym ea) (sym eb)
    ∙ ap (λ (z : Bool). refuse_if (not (sound_record v)) IllegalRecord (refuse_if (not (good_position v p)) PositionOutOfRange (refuse_if z NewPositionOutOfRange (Ok tt)))) (sym ec)

pub raise-by : (r : LogRecord) (p : ℤ) (v : Reading) (n : ℕ) (x : Result ⊤ Error) → v ≡ reading r → n ≡ long p → x ≡ raise_verdict v n → reply_by r (with_slowest r p) x ≡ raise_of r p
unfolding raise_of
raise-by r p v n x ev en h = ap (reply_by r (with_slowest r p)) (h ∙ ap₂ raise_verdict ev en)

-- ---- whether a partition is due

module _ (v : Reading) (k : ℕ) where
  pub another : (k ≡ due v.count → ⊥) → true ≡ not_due v k
  unfolding not_due
  another h = simp (ne_eqb _ _ h)

  pub early : k ≡ due v.count → v.count < 2 → false ≡ not_due v k
  unfolding not_due
  early e h = simp (eq-eqb _ _ e, lt-leb _ _ h)

  pub later : (end : ℕ) → k ≡ due v.count → 2 ≤ v.count → end ≡ (v.count - 1) * v.term → ltb v.slowest end ≡ not_due v k
  unfolding not_due
  later end e h q = ap (ltb v.slowest) q ∙ simp (eq-eqb _ _ e, le-leb _ _ h)

-- ---- clearing

-- the ladder by its tests
pub clear-tests : (v : Reading) (n k : ℕ) (a b c : Bool) → good_partition k ≡ a → sound v n ≡ b → not_due v k ≡ c → first_rows a b (refuse_if c NotDue (Ok tt)) ≡ clear_verdict v n k
unfolding clear_verdict
clear-tests v n k a b c ea eb ec =
    ap₂ (λ (x y : Bool). first_rows x y (refuse_if c NotDue (Ok tt))) (sym ea) (sym eb) ∙ ap (λ (z : Bool). first_rows (good_partition k) (sound v n) (refuse_if z NotDue (Ok tt))) (sym ec)

-- what a verdict that passes says
pub clear-passed : (v : Reading) (n k : ℕ) → clear_verdict v n k ≡ Ok tt → (k ≤ 2) × (sound v n ≡ true)
clear-passed v n k h = go (good_partition k) (sound v n) refl refl
  where
    go : (a b : Bool) → good_partition k ≡ a → sound v n ≡ b → (k ≤ 2) × (sound v n ≡ true)
    go true true ea eb = (leb-true _ _ ea, eb)
    go true false ea eb = let e : Err IllegalRecord ≡ (Ok tt) = clear-tests v n k true false (not_due v k) ea eb refl ∙ h in absurd (let z : ◌≡◌ {A = ℕ} 0 1 = cc in omega arith)
    go false b ea eb = let e : Err IllegalArgument ≡ (Ok tt) = clear-tests v n k false b (not_due v k) ea eb refl ∙ h in absurd (let z : ◌≡◌ {A = ℕ} 0 1 = cc in omega arith)

module _ (r : LogRecord) (log : List ℕ) (k : ℤ) (v : Reading) (j : ℕ) (x : Result ⊤ Error) (ev : v ≡ reading r) (ek : j ≡ word k) (h : x ≡ clear_verdict v (length log) j) where
  same : x ≡ clear_verdict (reading r) (length log) (word k)
  same = h ∙ ap₂ (λ (u : Reading) (i : ℕ). clear_verdict u (length log) i) ev ek

  pub clear-by : (reply_by r (with_mark r j true) x ≡ clear_of r log k) × (cleared_by v log j x ≡ clear_bytes r log k)
  unfolding clear_of clear_bytes
  clear-by = (
    ap₂ (λ (i : ℕ) (y : Result ⊤ Error). reply_by r (with_mark r i true) y) ek same,
    ap₂ (λ (i : ℕ) (y : Result ⊤ Error). cleared_by v log i y) ek same ∙ ap (λ (u : Reading). cleared_by u log (word k) (clear_verdict (reading r) (length log) (word k))) ev,
  )

-- the log with the part between two places put back as zeros
pub cleared-is : (log out : List ℕ) (from to term : ℕ) → to ≡ from + term → to ≤ length log → out ≡ zeros (length (mid_of from (to - from) log))
    → put_mid from (to - from) log out ≡ splice log from (zeros term)
unfolding splice
cleared-is log out from to term et high eo =
    let n : to - from ≡ term = omega arith in
    let l : length (mid_of from (to - from) log) ≡ term = mid_len from to log high ∙ n in
    let p : post_of from (to - from) log ≡ drop (from + length (zeros term)) log = Post-is from to log (omega arith) ∙ ap (λ (i : ℕ). drop i log) (et ∙ ap (λ (i : ℕ). from + i) (sym (length-zeros term))) in
    ap₂ (λ (x y : List ℕ). take from log ++ (x ++ y)) (eo ∙ ap zeros l) p
