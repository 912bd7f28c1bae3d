-- A claim located: where each refusal comes from, what a span says, and what commit, abort and a writing make of it.
use Rattle.std.specs.Prelude.{Result, Ok, Err, ⊤}
use mathlib.Core.Path.{◌≡◌, refl, sym, ap, ap₂, ◌∙◌}
use mathlib.Core.Bool.{Bool, true, false, cond}
use Prim.Native.Nat.{ℕ, ◌+◌, ◌-◌, ◌%◌, ◌≤◌, ◌<◌}
use native.Mathlib.Omega.{arith}
use borrow.Author.Tests.{leb-true, le-leb, lt-leb, eqb-true}
use mathlib.Core.List.{List}
use lib.Dec.{eqb, leb}
use lib.ListN.{length}
use Rattle.model.specs.declared.LogRecord.{LogRecord}
use Rattle.model.specs.declared.Claim.{Claim}
use Rattle.model.specs.declared.Span.{Span}
use Rattle.model.specs.declared.Reading.{Reading}
use Rattle.model.specs.declared.Error.{Error}
use Rattle.model.specs.declared.Error.TheVariants.{IllegalArgument, IllegalRecord, ClaimMismatch}
use Rattle.model.specs.Bytes.{word, splice, le2, le4}
use Rattle.model.specs.FrameDescriptor.{align}
use Rattle.model.specs.LogBufferDescriptor.{reading, sound, Sound}
use Rattle.model.proofs.Choice.{ok-same}
use Rattle.model.specs.Parts.{span_at, located_by}
use Rattle.model.specs.BufferClaim.{claim_start, good_claim, matches, claim_check, body_start, body_end, locate_of, write_span, outcome_of, commit_of, changed_by, commit_bytes, abort_bytes}
use Rattle.model.proofs.Sound.{sound-true}
use Rattle.model.proofs.Append.{base-in}
use Rattle.model.proofs.Both.{and-true}

-- ---- the ladder, for a record that reads as v

module _ (r : LogRecord) (log : List ℕ) (c : Claim) (v : Reading) (ev : v ≡ reading r) where
  good-is : (b : Bool) → good_claim v c ≡ b → good_claim (reading r) c ≡ b
  good-is b h = ap (λ (x : Reading). good_claim x c) (sym ev) ∙ h

  sound-is : (b : Bool) → sound v (length log) ≡ b → sound (reading r) (length log) ≡ b
  sound-is b h = ap (λ (x : Reading). sound x (length log)) (sym ev) ∙ h

  match_is : (at : ℕ) (b : Bool) → at ≡ claim_start v c → matches log at c ≡ b → matches log (claim_start (reading r) c) c ≡ b
  match_is at b e h = ap (λ (n : ℕ). matches log n c) (sym (e ∙ ap (λ (x : Reading). claim_start x c) ev)) ∙ h

  pub locate-bad : good_claim v c ≡ false → Err IllegalArgument ≡ locate_of r log c
  unfolding locate_of claim_check
  locate-bad g = simp (good-is false g)

  pub locate-unsound : good_claim v c ≡ true → sound v (length log) ≡ false → Err IllegalRecord ≡ locate_of r log c
  unfolding locate_of claim_check
  locate-unsound g s = simp (good-is true g, sound-is false s)

  pub locate-mismatch : (at : ℕ) → at ≡ claim_start v c → good_claim v c ≡ true → sound v (length log) ≡ true → matches log at c ≡ false → Err ClaimMismatch ≡ locate_of r log c
  unfolding locate_of claim_check
  locate-mismatch at e g s m = simp (good-is true g, sound-is true s, match_is at false e m)

  pub locate-span : (at n : ℕ) → at ≡ claim_start v c → n ≡ word c.length → good_claim v c ≡ true → sound v (length log) ≡ true → matches log at c ≡ true
      → span_at (at + 32) (at + n) ≡ locate_of r log c
  unfolding locate_of claim_check
  locate-span at n e l g s m =
      simp (good-is true g, sound-is true s, match_is at true e m)
      (ap₂ (λ (x y : ℕ). span_at x y) (ap (λ (x : ℕ). x + 32) (e ∙ ap (λ (x : Reading). claim_start x c) ev))
      (ap₂ (λ (x y : ℕ). x + y) (e ∙ ap (λ (x : Reading). claim_start x c) ev) l))

-- ---- what good arguments say

pub record GoodClaim (v : Reading) (c : Claim) : Type 0 where
  pub part : word c.partition ≤ 2
  pub multiple : word c.offset % 32 ≡ 0
  pub low : 32 ≤ word c.length
  pub inside : word c.offset + align (word c.length) ≤ v.term

pub good-claim-true : (v : Reading) (c : Claim) → good_claim v c ≡ true → GoodClaim v c
unfolding good_claim
good-claim-true v c h =
    let p1 = and-true (leb (word c.partition) 2) _ h in
    let p2 = and-true (eqb (word c.offset % 32) 0) _ p1.1 in
    let p3 = and-true (leb 32 (word c.length)) _ p2.1 in
    let p4 = and-true (leb (word c.offset + align (word c.length)) v.term) _ p3.1 in
    record { part = leb-true _ _ p1.0; multiple = eqb-true _ _ p2.0; low = leb-true _ _ p3.0; inside = leb-true _ _ p4.0 }

-- the frame, with its slack, lies in the log
pub claim-inside : (v : Reading) (n : ℕ) (c : Claim) → GoodClaim v c → Sound v n → claim_start v c + align (word c.length) ≤ n
claim-inside v n c g s = omega (arith, base-in (word c.partition) v.term g.part, g.inside, s.three)

-- ---- a span: the claim was passed, and its frame lies in the log

pub record Lent (r : LogRecord) (log : List ℕ) (c : Claim) (from to : ℕ) : Type 0 where
  pub passed : claim_check r log c ≡ Ok tt
  pub starts : from ≡ body_start r c
  pub stops : to ≡ body_end r c
  pub low : 32 ≤ word c.length
  pub inside : claim_start (reading r) c + align (word c.length) ≤ length log

module _ (r : LogRecord) (log : List ℕ) (c : Claim) where
  check-by : (b1 b2 b3 : Bool) → Result ⊤ Error
  check-by b1 b2 b3 = cond b1 (cond b2 (cond b3 (Ok tt) (Err ClaimMismatch)) (Err IllegalRecord)) (Err IllegalArgument)

  lent_by : (from to : ℕ) (b1 b2 b3 : Bool) → good_claim (reading r) c ≡ b1 → sound (reading r) (length log) ≡ b2 → claim_check r log c ≡ check-by b1 b2 b3
      → located_by (body_start r c) (body_end r c) (check-by b1 b2 b3) ≡ span_at from to → Lent r log c from to
  unfolding check-by
  lent_by from to false b2 b3 h1 h2 e h = let z : ◌≡◌ {A = ℕ} 0 1 = cc in absurd (omega arith)
  lent_by from to true false b3 h1 h2 e h = let z : ◌≡◌ {A = ℕ} 0 1 = cc in absurd (omega arith)
  lent_by from to true true false h1 h2 e h = let z : ◌≡◌ {A = ℕ} 0 1 = cc in absurd (omega arith)
  lent_by from to true true true h1 h2 e h =
      let g = good-claim-true (reading r) c h1 in
      record {
        passed = e;
        starts = ap (λ (x : Span). x.start) (sym (ok-same h));
        stops = ap (λ (x : Span). x.end) (sym (ok-same h));
        low = g.low;
        inside = claim-inside (reading r) (length log) c g (sound-true (reading r) (length log) h2);
      }

  pub lent : (from to : ℕ) → locate_of r log c ≡ span_at from to → Lent r log c from to
  unfolding locate_of claim_check check-by
  lent from to h = lent_by from to (good_claim (reading r) c) (sound (reading r) (length log)) (matches log (claim_start (reading r) c) c) refl refl refl h

  -- header, body and end lie in the log in that order
  pub span-in : (from to : ℕ) → locate_of r log c ≡ span_at from to → (32 ≤ from) × ((from ≤ to) × (to ≤ length log))
  span-in from to h =
      let l = lent from to h in
      (omega (arith, l.starts), (omega (arith, l.starts, l.stops, l.low), omega (arith, l.stops, l.inside)))

  refused-by : (x : Result ⊤ Error) (e : Error) → located_by (body_start r c) (body_end r c) x ≡ Err e → x ≡ Err e
  refused-by (Ok _) e h = let z : ◌≡◌ {A = ℕ} 0 1 = cc in absurd (omega arith)
  refused-by (Err d) e h = ap Err (let x : d ≡ e = cc in x)

  pub not-lent : (e : Error) → locate_of r log c ≡ Err e → claim_check r log c ≡ Err e
  unfolding locate_of
  not-lent e h = refused-by (claim_check r log c) e h

  -- commit and abort
  pub refuses : (e : Error) → locate_of r log c ≡ Err e → (Err e ≡ commit_of r log c) × ((log ≡ commit_bytes r log c) × (log ≡ abort_bytes r log c))
  unfolding commit_of commit_bytes abort_bytes
  refuses e h =
      let x = sym (not-lent e h) in
      (ap outcome_of x, (ap (changed_by log (splice log (claim_start (reading r) c) (le4 (word c.length)))) x, ap (changed_by log (splice (splice log (claim_start (reading r) c + 6) (le2 0)) (claim_start (reading r) c) (le4 (word c.length)))) x))

  pub commits : (from to : ℕ) → locate_of r log c ≡ span_at from to
      → (Ok tt ≡ commit_of r log c) × (splice log (from - 32) (le4 (word c.length)) ≡ commit_bytes r log c)
  unfolding commit_of commit_bytes
  commits from to h =
      let l = lent from to h in
      let x = sym l.passed in
      let at : from - 32 ≡ claim_start (reading r) c = omega (arith, l.starts) in
      (ap outcome_of x, ap (λ (n : ℕ). splice log n (le4 (word c.length))) at ∙ ap (changed_by log (splice log (claim_start (reading r) c) (le4 (word c.length)))) x)

  pub aborts : (from to : ℕ) → locate_of r log c ≡ span_at from to
      → splice (splice log (from - 26) (le2 0)) (from - 32) (le4 (word c.length)) ≡ abort_bytes r log c
  unfolding abort_bytes
  aborts from to h =
      let l = lent from to h in
      let x = sym l.passed in
      let at : from - 32 ≡ claim_start (reading r) c = omega (arith, l.starts) in
      let type : from - 26 ≡ claim_start (reading r) c + 6 = omega (arith, l.starts) in
      ap₂ (λ (n m : ℕ). splice (splice log n (le2 0)) m (le4 (word c.length))) type at
      ∙ ap (changed_by log (splice (splice log (claim_start (reading r) c + 6) (le2 0)) (claim_start (reading r) c) (le4 (word c.length)))) x

-- ---- a writing

-- the definition, by how many bytes there are
pub write-long : (r : LogRecord) (log : List ℕ) (c : Claim) (n : ℕ) → 2147483647 < n → write_span r log c n ≡ Err IllegalArgument
unfolding write_span
write-long r log c n h = simp (lt-leb n 2147483647 h)

pub write-short : (r : LogRecord) (log : List ℕ) (c : Claim) (n : ℕ) → n ≤ 2147483647 → write_span r log c n ≡ locate_of r log c
unfolding write_span
write-short r log c n h = simp (le-leb n 2147483647 h)
