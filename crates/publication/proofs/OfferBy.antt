-- The laws of offers by the numbers that the code has.
use Rattle.std.specs.Prelude.{Ok, Err}
use mathlib.Core.Path.{◌≡◌, refl, sym, ap, ap₂, ◌∙◌, subst}
use mathlib.Core.Bool.{Bool, false}
use mathlib.Core.List.{List}
use Prim.Native.Nat.{ℕ, ◌-◌, ◌%◌, ◌≤◌}
use lib.ListN.{length, get_or}
use lib.IntN.{ℤ}
use Rattle.model.specs.declared.LogRecord.{LogRecord}
use Rattle.model.specs.declared.Reading.{Reading}
use Rattle.model.specs.declared.Error.{Error}
use Rattle.model.specs.declared.Rule.{Rule}
use Rattle.model.specs.declared.Course.{Course}
use Rattle.model.specs.declared.Course.TheVariants.{Refuse as Deny, Stray, Trip, Fit}
use Rattle.model.specs.declared.Appended.TheVariants.{Offset, Tripped}
use Rattle.model.specs.declared.AppendReply.{AppendReply}
use Rattle.model.specs.Bytes.{word, long}
use Rattle.model.specs.LogBufferDescriptor.{reading_of, reading, active, payload_limit, changed, with_tail, due, is_marked, is_ready}
use Rattle.model.specs.TermAppender.{need, course, moved_by}
use Rattle.model.specs.Publication.{before_append, offer_of, offer_bytes}
use Rattle.model.proofs.Append.{append_reply, append_bytes}
use Rattle.model.proofs.Cut.{need-32}
use Rattle.model.proofs.OfferLaws.{Turns, after, refused-is, offer-is, end-in, trip-turns}
use Rattle.model.proofs.RuleLaws.{refused_rule}
use Rattle.publication.specs.Trips.{next_marked}

-- the active partition, by the count that was read
pub active-by : (r : LogRecord) (v : Reading) → v ≡ reading r → v.count % 3 ≡ active r
unfolding reading_of
active-by r v e = ap (λ (x : Reading). x.count % 3) e

-- whether the partition due next is marked, in a record with the same marks
pub ready_of : (r next : LogRecord) (v : Reading) → next.is_cleared ≡ r.is_cleared → v ≡ reading r → next_marked next v ≡ is_ready r
unfolding reading_of
ready_of r next v em ev = ap (λ (l : List Bool). get_or l (due v.count) false) em ∙ ap (λ (x : Reading). is_marked r (due x.count)) ev

-- an append leaves the marks as they were
pub marks-kept : (r : LogRecord) (v : Reading) (k needed : ℕ) (x : Course) → (moved_by r v k needed x).is_cleared ≡ r.is_cleared
unfolding with_tail changed
marks-kept r v k needed (Deny e) = refl
marks-kept r v k needed Stray = refl
marks-kept r v k needed Trip = refl
marks-kept r v k needed Fit = refl

-- an offer that is refused before its append, with the rule of the refusal
pub refused-by : (r : LogRecord) (log m : List ℕ) (reserved : ℤ) (e : Error) (x : Rule) → x ≡ refused_rule e → before_append (reading r) (length log) (length m) (Ok tt) ≡ Err e
    → (record { next = r; answer = Err e; rule = x } ≡ offer_of r log m) × (log ≡ offer_bytes r log m reserved)
refused-by r log m reserved e x q h =
    let law = refused-is r log m reserved e h in
    (ap (λ (y : Rule). record { next = r; answer = Err e; rule = y }) q ∙ law.0, law.1)

module _ (r : LogRecord) (log m : List ℕ) (v : Reading) (k g : ℕ) (a : AppendReply) (ek : k ≡ active r) (ev : v ≡ reading r) (eg : g ≡ v.id)
    (ea : a ≡ append_reply r log k (v.mtu - 32) m g) where
  pub here : v ≡ reading_of r k
  here = ev ∙ ap (reading_of r) (sym ek)

  -- an offer that nothing refuses before its append
  pub offer-by : (log' : List ℕ) (reserved : ℤ) (z : ℕ) → z ≡ long reserved → before_append v (length log) (length m) (Ok tt) ≡ Ok tt
      → log' ≡ append_bytes r log k (v.mtu - 32) m z g → (after v (is_ready r) (length m) a ≡ offer_of r log m) × (log' ≡ offer_bytes r log m reserved)
  offer-by log' reserved z ez h el =
      let law = offer-is r log m reserved (subst (λ (x : Reading). before_append x (length log) (length m) (Ok tt) ≡ Ok tt) ev h) in
      let one : (u : Reading) (j : ℕ) → v ≡ u → k ≡ j → a ≡ append_reply r log j (payload_limit u) m u.id = λ u j eu ej. cc in
      let two : (u : Reading) (j : ℕ) → v ≡ u → k ≡ j → log' ≡ append_bytes r log j (payload_limit u) m (long reserved) u.id = λ u j eu ej. cc in
      (ap₂ (λ (x : Reading) (y : AppendReply). after x (is_ready r) (length m) y) ev (one (reading r) (active r) ev ek) ∙ law.0, two (reading r) (active r) ev ek ∙ law.1)

  -- the marks that it leaves
  pub ready_by : next_marked a.next v ≡ is_ready r
  ready_by =
      let nd = need (v.mtu - 32) (length m) in
      ready_of r a.next v (ap (λ (x : AppendReply). x.next.is_cleared) ea ∙ marks-kept r (reading_of r k) k nd (course (reading_of r k) (length log) nd g)) ev

  -- one that ends at an offset ends in its term
  pub end_by : (end : ℕ) → a.answer ≡ Offset end → end ≤ v.term
  end_by end h =
      subst (λ (x : Reading). end ≤ x.term) (sym here)
      (end-in r (reading_of r k) k (length log) (need (v.mtu - 32) (length m)) g end _ refl (sym (ap (λ (x : AppendReply). x.answer) ea) ∙ h))

  -- one that tripped leaves a record that turns
  pub turns-by : (count id : ℤ) → count ≡ r.active_term_count → word id ≡ g → length r.tails ≡ 3 → (v.mtu - 32) % 32 ≡ 0 → a.answer ≡ Tripped → Turns a.next v count id
  turns-by count id ec ei three p h =
      let nd = need (v.mtu - 32) (length m) in
      let law = trip-turns r (reading_of r k) k (length log) nd g id (course (reading_of r k) (length log) nd g) (ap (reading_of r) ek) ek refl (sym (ap (λ (x : AppendReply). x.answer) ea) ∙ h) three (need-32 (v.mtu - 32) (length m))
      (ei ∙ eg ∙ ap (λ (x : Reading). x.id) here) in
      subst (λ (q : LogRecord). Turns q v count id) (sym (ap (λ (x : AppendReply). x.next) ea))
      (subst (λ (x : Reading). Turns (append_reply r log k (v.mtu - 32) m g).next x count id) (sym here)
      (subst (λ (n : ℤ). Turns (append_reply r log k (v.mtu - 32) m g).next (reading_of r k) n id) (sym ec) law))
