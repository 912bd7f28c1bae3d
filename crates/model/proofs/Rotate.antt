-- Rotation: what `rotate_log` does where it passes, step by step; and that it rotates where a caller hands it the record's own count and
-- term id.
use Rattle.std.specs.Prelude.{Result, Ok, Err, ⊤}
use Rattle.model.specs.declared.Error.{Error}
use mathlib.Core.Path.{◌≡◌, refl, ap, ap₂, ◌∙◌}
use mathlib.Core.Bool.{Bool, true, false, cond}
use Prim.Native.Nat.{ℕ, ◌+◌, ◌%◌, ◌≤◌, ◌<◌}
use native.Mathlib.Omega.{arith}
use borrow.Author.Tests.{eq-eqb, ne_eqb, lt-ltb, le-ltb, eqb-false, ltb-false}
use lib.Dec.{eqb, ltb}
use lib.IntN.{ℤ}
use Rattle.model.specs.declared.LogRecord.{LogRecord}
use Rattle.model.specs.declared.Reading.{Reading}
use Rattle.model.specs.declared.Error.TheVariants.{IllegalArgument, IllegalRecord, LastTerm}
use Rattle.model.specs.Bytes.{word}
use Rattle.model.specs.LogBufferDescriptor.{id_plus, reading_of, reading, sound_record, with_tail, with_count, with_mark, due, next_tail, rotated, last_term, rotate_verdict, rotate_by, rotate_log_of}

-- ---- the next tail

pub next-set : (r : LogRecord) (count id : ℕ) → id_plus (reading_of r ((count + 1) % 3)).id 2 ≡ id → with_mark (with_tail r ((count + 1) % 3) (id_plus id 1) 0) (due count) false ≡ next_tail r count id
unfolding next_tail reading_of
next-set r count id h = simp (eq-eqb _ _ h)

pub next-kept : (r : LogRecord) (count id : ℕ) → (id_plus (reading_of r ((count + 1) % 3)).id 2 ≡ id → ⊥) → with_mark r (due count) false ≡ next_tail r count id
unfolding next_tail reading_of
next-kept r count id h = simp (ne_eqb _ _ h)

-- ---- the verdict

module _ (v : Reading) (count : ℕ) where
  pub rotate-argument : 2147483647 < count → Err IllegalArgument ≡ rotate_verdict v count
  unfolding rotate_verdict
  rotate-argument h = simp (lt-ltb _ _ h)

  pub rotate-record : count ≤ 2147483647 → sound_record v ≡ false → Err IllegalRecord ≡ rotate_verdict v count
  unfolding rotate_verdict
  rotate-record h s = simp (le-ltb _ _ h, s)

  pub rotate-last : count ≤ 2147483647 → sound_record v ≡ true → count ≡ 2147483647 → Err LastTerm ≡ rotate_verdict v count
  unfolding rotate_verdict
  rotate-last h s e = simp (le-ltb _ _ h, s, eq-eqb _ _ e)

  pub rotate-pass : count ≤ 2147483647 → sound_record v ≡ true → (count ≡ 2147483647 → ⊥) → Ok tt ≡ rotate_verdict v count
  unfolding rotate_verdict
  rotate-pass h s e = simp (le-ltb _ _ h, s, ne_eqb _ _ e)

  -- what a pass says
  pub rotate-passed : rotate_verdict v count ≡ Ok tt → count < 2147483647
  unfolding rotate_verdict
  rotate-passed h = go (ltb 2147483647 count) (sound_record v) (eqb count 2147483647) refl refl h
    where
      go : (b1 b2 b3 : Bool) → ltb 2147483647 count ≡ b1 → eqb count 2147483647 ≡ b3
          → ◌≡◌ {A = Result ⊤ Error} (cond b1 (Err IllegalArgument) (cond b2 (cond b3 (Err LastTerm) (Ok tt)) (Err IllegalRecord))) (Ok tt) → count < 2147483647
      go true b2 b3 e1 e3 k = let z : ◌≡◌ {A = ℕ} 0 1 = cc in absurd (omega arith)
      go false false b3 e1 e3 k = let z : ◌≡◌ {A = ℕ} 0 1 = cc in absurd (omega arith)
      go false true true e1 e3 k = let z : ◌≡◌ {A = ℕ} 0 1 = cc in absurd (omega arith)
      go false true false e1 e3 k =
          let l : count ≤ 2147483647 = ltb-false _ _ e1 in
          let n : count ≡ 2147483647 → ⊥ = eqb-false _ _ e3 in
          lt-or l n
        where
          lt-or : count ≤ 2147483647 → (count ≡ 2147483647 → ⊥) → count < 2147483647
          lt-or l n = omega arith

-- ---- the answer, by the numbers that the code has

pub rotate-is : (r : LogRecord) (count id : ℤ) (k t : ℕ) (v : Reading) (x : Result ⊤ Error) → k ≡ word count → t ≡ word id → v ≡ reading r → x ≡ rotate_verdict v k
    → rotate_by r k t x ≡ rotate_log_of r count id
unfolding rotate_log_of
rotate-is r count id k t v x ek et ev ex = cc

pub rotate-risen : (r next : LogRecord) (k t : ℕ) → word r.active_term_count ≡ k → next ≡ with_count (next_tail r k t) (k + 1)
    → record { next = next; answer = Ok tt } ≡ rotate_by r k t (Ok tt)
unfolding rotated
rotate-risen r next k t e n = simp (eq-eqb _ _ e) (ap (λ (x : LogRecord). record { next = x; answer = Ok tt }) n)

pub rotate-kept : (r next : LogRecord) (k t : ℕ) → (word r.active_term_count ≡ k → ⊥) → next ≡ next_tail r k t → record { next = next; answer = Ok tt } ≡ rotate_by r k t (Ok tt)
rotate-kept r next k t e n = simp (ne_eqb _ _ e) (ap (λ (x : LogRecord). record { next = x; answer = Ok tt }) n)

-- handed the record's own count, which is not the last, and a term id: the record is rotated
pub rotate-own : (r : LogRecord) (count id : ℤ) (k t : ℕ) → word count ≡ k → word r.active_term_count ≡ k → word id ≡ t → sound_record (reading r) ≡ true
    → k ≤ 2147483647 → last_term k ≡ false → rotate_log_of r count id ≡ record { next = rotated r k t; answer = Ok tt }
unfolding rotate_log_of rotate_verdict
rotate-own r count id k t ek er et s h l =
    ap₂ (λ (x y : ℕ). rotate_by r x y (cond (ltb 2147483647 x) (Err IllegalArgument) (cond (sound_record (reading r)) (cond (last_term x) (Err LastTerm) (Ok tt)) (Err IllegalRecord)))) ek et
    ∙ simp (le-ltb _ _ h, s, l, eq-eqb _ _ er)
