-- Position, limit and window: the ladder that they share, and the position as the code computes it.
use Rattle.std.specs.Prelude.{Result, Ok, Err, ⊤}
use Rattle.model.specs.declared.Error.{Error}
use mathlib.Core.Path.{◌≡◌, refl, sym, ap, ap₂, subst, ◌∙◌}
use mathlib.Core.Bool.{Bool, true, false, cond}
use Prim.Native.Nat.{ℕ, ◌*◌, ◌%◌, ◌^◌, ◌≤◌, ◌<◌, min}
use native.Mathlib.Nat.{mul-le-mul}
use native.Mathlib.Omega.{arith}
use borrow.Author.Tests.{le-ltb}
use lib.Count.{count_trailing_zeros}
use lib.IntN.{ℤ, pos, negsuc, nat_abs, neg_ℤ, ◌-ℤ◌, ◌*ℤ◌}
use mir.Syntax.{w32, w64}
use mir.Val.{SFits, to_z, of_z}
use mir.Facts.{Fits-of_z, sfits_to_z}
use Rattle.model.specs.declared.LogRecord.{LogRecord}
use Rattle.model.specs.declared.Reading.{Reading}
use Rattle.model.specs.declared.Error.TheVariants.{IllegalRecord, PublicationClosed}
use Rattle.model.specs.Bytes.{word}
use Rattle.model.specs.LogBufferDescriptor.{id_minus, position_of, id_of, offset_of, term_id_of, term_offset_of, tail_of, reading_of, reading, sound_record, Sound, compute_position, publisher_position}
use Rattle.model.specs.Publication.{open_record, change_of}
use Rattle.model.proofs.Moving.{term-id-back}
use Rattle.model.proofs.Power.{shift-high}
use Rattle.logbuffer.proofs.Shifts.{shifted}
use Rattle.logbuffer.proofs.Exact.{near-sum, near-neg, near_times, near-32, near_fits}
use Rattle.publication.specs.Numbers.{number_verdict}

-- ---- 2, 5

module _ (v : Reading) where
  by_tests : (b c : Bool) → sound_record v ≡ b → v.closed ≡ c → number_verdict v ≡ cond b (cond c (Err PublicationClosed) (Ok tt)) (Err IllegalRecord)
  unfolding number_verdict
  by_tests b c eb ec = ap₂ (λ (x y : Bool). cond x (cond y (Err PublicationClosed) (Ok tt)) (Err IllegalRecord)) eb ec

  pub number-2 : sound_record v ≡ false → Err IllegalRecord ≡ number_verdict v
  number-2 h = sym (by_tests false v.closed h refl)

  pub number-5 : sound_record v ≡ true → v.closed ≡ true → Err PublicationClosed ≡ number_verdict v
  number-5 h k = sym (by_tests true true h k)

  pub number-last : sound_record v ≡ true → v.closed ≡ false → Ok tt ≡ number_verdict v
  number-last h k = sym (by_tests true false h k)

  pub number-sound : number_verdict v ≡ Ok tt → sound_record v ≡ true
  number-sound h = go (sound_record v) v.closed refl refl
    where
      go : (b c : Bool) → sound_record v ≡ b → v.closed ≡ c → sound_record v ≡ true
      go true c eb ec = eb
      go false c eb ec = let k : Err IllegalRecord ≡ (Ok tt) = sym (by_tests false c eb ec) ∙ h in absurd (let z : ◌≡◌ {A = ℕ} 0 1 = cc in omega arith)

  -- what the calls answer, by it
  abbrev answered : ℤ → Result ⊤ Error → Result ℤ Error
  answered n (Ok _) = Ok n
  answered n (Err e) = Err e

  pub number_is : (n : ℤ) (x : Result ⊤ Error) → number_verdict v ≡ x → answered n x ≡ open_record v n
  unfolding open_record number_verdict
  number_is n x h = ap (answered n) (sym h) ∙ go (sound_record v) v.closed
    where
      go : (b c : Bool) → answered n (cond b (cond c (Err PublicationClosed) (Ok tt)) (Err IllegalRecord)) ≡ cond b (cond c (Err PublicationClosed) (Ok n)) (Err IllegalRecord)
      go false c = refl
      go true false = refl
      go true true = refl

-- ---- the position

-- a limit that row 2 lets pass lies as near to 0 as its bits say
small-limit : (z : ℤ) → SFits w64 z → of_z w64 z ≤ 4611686018427387904 → nat_abs z ≤ 4611686018427387904
small-limit (pos n) f h = omega arith
small-limit (negsuc n) f h = absurd (omega arith)

module _ (r : LogRecord) (v : Reading) (n : ℕ) (ev : v ≡ reading r) (s : Sound v n) where
  own-id : (raw : ℤ) → SFits w64 raw → raw ≡ tail_of r (v.count % 3) → word (term_id_of raw) ≡ v.id
  unfolding reading_of
  own-id raw f er = term-id-back raw f ∙ ap id_of er ∙ sym (ap (λ (x : Reading). x.id) ev ∙ back v.count (ap (λ (x : Reading). x.count) ev))
    where
      back : (k : ℕ) → k ≡ (reading r).count → (reading r).id ≡ id_of (tail_of r (k % 3))
      back k e = ap (λ (j : ℕ). id_of (tail_of r (j % 3))) (sym e)

  own-initial : SFits w32 r.initial_term_id → word r.initial_term_id ≡ v.initial
  unfolding reading_of
  own-initial f = let h : word r.initial_term_id < 4294967296 = (Fits-of_z f).fits in let e : word r.initial_term_id ≡ word r.initial_term_id % 4294967296 = omega arith in e ∙ sym (ap (λ (x : Reading). x.initial) ev)

  pub position-by : (raw initial id : ℤ) (offset bits : ℕ) → SFits w64 raw → raw ≡ tail_of r (v.count % 3) → SFits w32 r.initial_term_id → initial ≡ r.initial_term_id → id ≡ term_id_of raw
      → offset ≡ term_offset_of raw v.term → bits ≡ count_trailing_zeros 32 v.term → compute_position id offset bits initial ≡ Ok (publisher_position v)
  unfolding compute_position reading_of
  position-by raw initial id offset bits f er fi ei ed eo eb =
      let e : 2 ^ bits ≡ v.term = ap (λ (x : ℕ). 2 ^ x) eb ∙ shifted v.term s.term-high s.one_bit in
      let l : bits ≤ 30 = shift-high bits v.term e s.term-high in
      let i : word id ≡ v.id = ap word ed ∙ own-id raw f er in
      let j : word initial ≡ v.initial = ap word ei ∙ own-initial fi in
      let o : offset ≡ min v.offset v.term = eo ∙ ap (λ (x : ℕ). min x v.term) (ap offset_of er ∙ sym (ap (λ (x : Reading). x.offset) ev ∙ ap (λ (j : ℕ). offset_of (tail_of r (j % 3))) (sym (ap (λ (x : Reading). x.count) ev)))) in
      simp (le-ltb 30 bits l) (ap Ok (ap₂ (λ (x y : ℕ). position_of x y (2 ^ bits) offset) i j ∙ ap₂ (λ (x y : ℕ). position_of v.id v.initial x y) e o))

  abbrev count : ℤ
  count = to_z w32 (id_minus v.id v.initial)

  count_fits : SFits w32 count
  count_fits = let l : id_minus v.id v.initial < 4294967296 = omega arith in sfits_to_z {n = id_minus v.id v.initial} (record { fits = l })

  pub position-near : nat_abs (publisher_position v) ≤ 4611686018427387903
  position-near =
      let m : nat_abs count * v.term ≤ 2147483648 * 1073741824 = mul-le-mul (near-32 count count_fits) s.term-high in
      omega (arith, m, near_times count v.term, near-sum (count *ℤ pos v.term) (pos (min v.offset v.term)), s.term-high)

  limit-near : SFits w64 r.publication_limit → nat_abs r.publication_limit ≤ 4611686018427387904
  unfolding reading_of
  limit-near f = small-limit r.publication_limit f (subst (λ (x : ℕ). x ≤ 4611686018427387904) (ap (λ (x : Reading). x.limit) ev) s.limit-high)

  pub position-fits : SFits w64 (publisher_position v)
  position-fits = near_fits (publisher_position v) (omega (arith, position-near))

  pub window-fits : SFits w64 r.publication_limit → SFits w64 (r.publication_limit -ℤ publisher_position v)
  window-fits f =
      near_fits (r.publication_limit -ℤ publisher_position v)
      (omega (arith, near-sum r.publication_limit (neg_ℤ (publisher_position v)), near-neg (publisher_position v), position-near, limit-near f))

-- ---- changes of the record

pub change-no : (r next : LogRecord) → sound_record (reading next) ≡ false → record { next = r; answer = Err IllegalRecord } ≡ change_of r next
unfolding change_of
change-no r next h = simp h

pub change-done : (r next : LogRecord) → sound_record (reading next) ≡ true → record { next = next; answer = Ok tt } ≡ change_of r next
unfolding change_of
change-done r next h = simp h
