-- R-14: an accepted append is answered its place and its need, and what one byte more needs is known by the frames alone.
use Rattle.std.specs.Prelude.{Result, Ok, Err, ⊤}
use Rattle.model.specs.declared.Error.{Error}
use mathlib.Core.Path.{◌≡◌, refl, sym, ap, ap₂, ◌∙◌, subst}
use Prim.Native.Nat.{ℕ, zero, suc, ◌+◌, ◌-◌, ◌*◌, ◌/◌, ◌%◌, ◌≤◌, ◌<◌}
use mathlib.Core.Bool.{Bool, true, false, cond}
use mathlib.Core.List.{List}
use native.Mathlib.Omega.{arith}
use native.Mathlib.Nat.{div_self, div-eq_of_lt, div-eq-sub-div, div-add-mod'}
use borrow.Author.Tests.{lt-ltb, le-ltb, eq-eqb, ne_eqb}
use lib.Dec.{eqb, ltb}
use lib.ListN.{length, drop, length-drop}
use lib.IntN.{ℤ, pos, ◌+ℤ◌}
use Rattle.model.specs.declared.LogRecord.{LogRecord}
use Rattle.model.specs.declared.Claim.{Claim}
use Rattle.model.specs.declared.Claimed.{Claimed}
use Rattle.model.specs.declared.Reading.{Reading}
use Rattle.model.specs.Bytes.{word}
use Rattle.model.specs.FrameDescriptor.{align, space}
use Rattle.model.specs.LogBufferDescriptor.{reading, active, payload_limit, is_ready}
use Rattle.model.specs.TermAppender.{cut_from, cut, need, claim_record}
use Rattle.model.specs.Publication.{place, fits, trip_error, need_of, offer_verdict, offered_by, offer_of, claim_verdict, claimed_by, claim_of}
use Rattle.model.specs.OneByteMore.{rise, OneByteMore, OneByteMoreClaimed}
use Rattle.model.proofs.Choice.{split, ok-same}
use Rattle.model.proofs.Cut.{cut-last, cut-more, need-one, times_32, whole-up, rest_up, need-sum}
use Rattle.model.proofs.Rising.{Lets, lets-through, offer-lets}

-- ---- frames are counted by the length, rounded up

abbrev up : ℕ → ℕ → ℕ
up pay n = (n + (pay - 1)) / pay

frames-cut : (f pay fl re : ℕ) (b : List ℕ) → zero < pay → zero < length b → length b < f → length (cut_from f pay fl re b) ≡ up pay (length b)
frames-cut zero pay fl re b z n h = absurd (omega arith)
frames-cut (suc f) pay fl re b z n h =
    split (length b) pay
    (λ k.
    let e : up pay (length b) ≡ suc ((length b + (pay - 1) - pay) / pay) = div-eq-sub-div z (omega arith) ∙ omega arith in
    let l : length b + (pay - 1) - pay < pay = omega arith in
    ap length (cut-last f pay fl re b k) ∙ sym (e ∙ ap suc (div-eq_of_lt l)))
    (λ k.
    let e : up pay (length b) ≡ suc ((length b + (pay - 1) - pay) / pay) = div-eq-sub-div z (omega arith) ∙ omega arith in
    let s : length b + (pay - 1) - pay ≡ length b - pay + (pay - 1) = omega arith in
    ap length (cut-more f pay fl re b k)
    ∙ ap suc (frames-cut f pay 0 re (drop pay b) z (omega (arith, length-drop pay b)) (omega (arith, length-drop pay b)) ∙ ap (up pay) (length-drop pay b) ∙ ap (λ (x : ℕ). x / pay) (sym s))
    ∙ sym e)

frames-none : (pay re : ℕ) (m : List ℕ) → length m ≡ 0 → length (cut pay re m) ≡ 1
unfolding cut
frames-none pay re m e = ap length (cut-last (length m) pay 128 re m (omega arith))

frames-some : (pay re : ℕ) (m : List ℕ) → zero < pay → zero < length m → length (cut pay re m) ≡ up pay (length m)
unfolding cut
frames-some pay re m z h = frames-cut (suc (length m)) pay 128 re m z h (omega arith)

-- ---- what one byte more needs

-- the quotient rises by one just where the payload limit divides
up_next : (pay n : ℕ) → zero < pay → zero < n → up pay (n + 1) ≡ suc (n / pay)
up_next pay n z h =
    let s : n + 1 + (pay - 1) ≡ n + pay = omega arith in
    let e : (n + pay) / pay ≡ suc (n / pay) = div-eq-sub-div z (omega arith) ∙ (let t : n + pay - pay ≡ n = omega arith in ap (λ (x : ℕ). x / pay + 1) t) ∙ omega arith in
    ap (λ (x : ℕ). x / pay) s ∙ e

module _ (pay a b n : ℕ) (l : 32 ≤ pay) (d : pay % 32 ≡ 0) (z : zero < n) (ea : a ≡ up pay n) (eb : b ≡ up pay (n + 1)) where
  sums : need pay (n + 1) + align n + 32 * a ≡ need pay n + align (n + 1) + 32 * b
  sums = omega (arith, need-sum pay n z l d, need-sum pay (n + 1) (omega arith) l d)

  -- without a further frame
  same-frames : b ≡ a → need pay (n + 1) ≡ need pay n + rise false n
  same-frames e = go (n % 32) refl
    where
      go : (x : ℕ) → n % 32 ≡ x → need pay (n + 1) ≡ need pay n + cond (eqb (n % 32) 0) 32 0
      go zero q = omega (arith, sums) ∙ ap (λ (t : Bool). need pay n + cond t 32 0) (sym (eq-eqb (n % 32) 0 q))
      go (suc x) q =
          let f : n % 32 ≡ 0 → ⊥ = λ y. omega arith in
          (let s : need pay (n + 1) ≡ need pay n + 0 = omega (arith, sums) in s) ∙ ap (λ (t : Bool). need pay n + cond t 32 0) (sym (ne_eqb (n % 32) 0 f))

  pub step-need : need pay (n + 1) ≡ need pay n + rise (ltb a b) n
  step-need = by-rest (n % pay) refl
    where
      next : b ≡ suc (n / pay)
      next = eb ∙ up_next pay n (omega arith) z

      by-rest : (x : ℕ) → n % pay ≡ x → need pay (n + 1) ≡ need pay n + rise (ltb a b) n
      by-rest zero q =
          let e : a ≡ n / pay = ea ∙ whole-up pay n (omega arith) q in
          let m : n % 32 ≡ 0 = (let s : n ≡ n / pay * pay = omega (arith, div-add-mod' n pay) in ap (λ (x : ℕ). x % 32) s) ∙ times_32 (n / pay) pay d in
          (let s : need pay (n + 1) ≡ need pay n + 64 = omega (arith, sums, next) in s) ∙ ap (λ (t : Bool). need pay n + rise t n) (sym (lt-ltb a b (omega (arith, next))))
      by-rest (suc x) q =
          let e : a ≡ suc (n / pay) = ea ∙ rest_up pay n x (omega arith) q in
          same-frames (omega (arith, next)) ∙ ap (λ (t : Bool). need pay n + rise t n) (sym (le-ltb a b (omega (arith, next))))

-- of any message and one with a byte more
message-need : (pay : ℕ) (m longer : List ℕ) → 32 ≤ pay → pay % 32 ≡ 0 → length longer ≡ length m + 1
    → need pay (length longer) ≡ need pay (length m) + rise (ltb (length (cut pay 0 m)) (length (cut pay 0 longer))) (length m)
message-need pay m longer l d e = go (length m) refl
  where
    go : (n : ℕ) → length m ≡ n → need pay (length longer) ≡ need pay (length m) + rise (ltb (length (cut pay 0 m)) (length (cut pay 0 longer))) (length m)
    go zero q =
        let a : length (cut pay 0 m) ≡ 1 = frames-none pay 0 m q in
        let b : length (cut pay 0 longer) ≡ 1 = frames-some pay 0 longer (omega arith) (omega arith) ∙ (let t : length longer + (pay - 1) ≡ pay = omega arith in ap (λ (x : ℕ). x / pay) t) ∙ div_self (omega arith) in
        let o : need pay (length m) ≡ 32 = need-one pay (length m) (omega arith) ∙ omega arith in
        let s : need pay (length longer) ≡ need pay (length m) + 32 = need-one pay (length longer) (omega arith) ∙ omega arith in
        s ∙ ap₂ (λ (t u : Bool). need pay (length m) + cond t 64 (cond u 32 0)) (sym (le-ltb (length (cut pay 0 m)) (length (cut pay 0 longer)) (omega arith))) (sym (eq-eqb (length m % 32) 0 (ap (λ (x : ℕ). x % 32) q)))
    go (suc n) q =
        ap (need pay) e
        ∙ step-need pay (length (cut pay 0 m)) (length (cut pay 0 longer)) (length m) l d (omega arith) (frames-some pay 0 m (omega arith) (omega arith))
        (frames-some pay 0 longer (omega arith) (omega arith) ∙ ap (up pay) e)

-- ---- what an accepted append is answered

offered-at : (r : LogRecord) (v : Reading) (needed : ℕ) (x : Result ⊤ Error) (p : ℤ) → offered_by r v needed x ≡ Ok p → (x ≡ Ok tt) × (p ≡ pos (place v + needed))
offered-at r v needed (Err e) p h = absurd (let y : ◌≡◌ {A = ℕ} 0 1 = cc in omega arith)
offered-at r v needed (Ok _) p h = (refl, go (fits v needed) h)
  where
    go : (b : Bool) → cond b (Ok (pos (place v + needed))) (Err (trip_error v (is_ready r))) ≡ Ok p → p ≡ pos (place v + needed)
    go true h = cc
    go false h = absurd (let y : ◌≡◌ {A = ℕ} 0 1 = cc in omega arith)

claimed-at : (r : LogRecord) (v : Reading) (n : ℕ) (x : Result ⊤ Error) (p : ℤ) (k : Claim) → claimed_by r v n x ≡ Ok (record { position = p; claim = k }) → p ≡ pos (place v + space n)
claimed-at r v n (Err e) p k h = absurd (let y : ◌≡◌ {A = ℕ} 0 1 = cc in omega arith)
claimed-at r v n (Ok _) p k h = go (fits v (space n)) h
  where
    go : (b : Bool) → cond {A = Result Claimed Error} b (Ok (record { position = pos (place v + space n); claim = claim_record v (active r) n })) (Err (trip_error v (is_ready r))) ≡ Ok (record { position = p; claim = k }) → p ≡ pos (place v + space n)
    go true h = ap (λ (x : Claimed). x.position) (sym (ok-same h))
    go false h = absurd (let y : ◌≡◌ {A = ℕ} 0 1 = cc in omega arith)

-- two positions by their numbers
apart : (p q : ℤ) (a b c : ℕ) → p ≡ pos a → q ≡ pos b → b ≡ a + c → q ≡ p +ℤ pos c
apart p q a b c ep eq e = eq ∙ ap pos e ∙ ap (λ (z : ℤ). z +ℤ pos c) (sym ep)

pub one-byte-more : OneByteMore
unfolding OneByteMore offer_of
one-byte-more r log m longer p q e ep eq =
    let v = reading r in
    let a = offered-at r v (need_of v (length m)) (offer_verdict v (length log) (length m)) p ep in
    let b = offered-at r v (need_of v (length longer)) (offer_verdict v (length log) (length longer)) q eq in
    let s = (lets-through v (length log) (need_of v (length m)) (subst (Lets v (length log) (need_of v (length m))) a.0 (offer-lets v (length log) (length m)))).is-sound in
    apart p q _ _ _ a.1 b.1
    (omega (arith, message-need (payload_limit v) m longer (omega (arith, s.mtu-low)) (omega (arith, s.mtu-low, s.mtu-32)) e))

-- a claim's need is that of one frame
claim-need : (n : ℕ) → space (n + 1) ≡ space n + rise false n
claim-need n = go (n % 32) refl
  where
    go : (x : ℕ) → n % 32 ≡ x → space (n + 1) ≡ space n + cond (eqb (n % 32) 0) 32 0
    go zero q = (let s : space (n + 1) ≡ space n + 32 = omega arith in s) ∙ ap (λ (t : Bool). space n + cond t 32 0) (sym (eq-eqb (n % 32) 0 q))
    go (suc x) q =
        let f : n % 32 ≡ 0 → ⊥ = λ y. omega arith in
        (let s : space (n + 1) ≡ space n + 0 = omega arith in s) ∙ ap (λ (t : Bool). space n + cond t 32 0) (sym (ne_eqb (n % 32) 0 f))

pub one-byte-more-claimed : OneByteMoreClaimed
unfolding OneByteMoreClaimed claim_of
one-byte-more-claimed r log n p q k l h ep eq =
    let v = reading r in
    let a : word (pos n) ≡ n = omega arith in
    let b : word (pos (n + 1)) ≡ n + 1 = omega arith in
    apart p q _ _ _ (claimed-at r v (word (pos n)) (claim_verdict v (length log) (word (pos n))) p k ep ∙ ap (λ (x : ℕ). pos (place v + space x)) a)
    (claimed-at r v (word (pos (n + 1))) (claim_verdict v (length log) (word (pos (n + 1)))) q l eq ∙ ap (λ (x : ℕ). pos (place v + space x)) b)
    (let t = claim-need n in omega arith)
