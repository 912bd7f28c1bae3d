-- The shorter path of offers, claims and commits: whether its answer tells that it is done, and what then crosses to C.
use Rattle.std.specs.Prelude.{Ok, Option, Some, None}
use Rattle.std.proofs.lemmas.Option.{none-some, cond_some}
use mathlib.Core.Path.{◌≡◌, refl, sym, ap, ap₂, ◌∙◌}
use mathlib.Core.Bool.{Bool, true, false, cond}
use mathlib.Core.List.{List, [], ◌∷◌}
use Prim.Native.Nat.{ℕ, ◌+◌, ◌*◌, ◌%◌}
use lib.IntN.{ℤ, pos}
use lib.ListN.{length}
use Rattle.model.specs.declared.Claim.{Claim}
use Rattle.model.specs.declared.Reading.{Reading}
use Rattle.model.specs.declared.LogRecord.{LogRecord}
use Rattle.model.specs.declared.Rule.{Rule}
use Rattle.model.specs.declared.Rule.TheVariants.{Unfragmented, Fragmented}
use Rattle.model.specs.declared.OfferReply.{OfferReply}
use Rattle.model.specs.declared.ClaimReply.{ClaimReply}
use Rattle.model.specs.Bytes.{word, long}
use Rattle.model.specs.FrameDescriptor.{space}
use Rattle.model.specs.LogBufferDescriptor.{active, reading, payload_limit, with_tail}
use Rattle.model.specs.TermAppender.{cut, fragment, written, claimed, claim_record}
use Rattle.model.specs.BufferClaim.{commit_of, commit_bytes}
use Rattle.model.specs.Publication.{need_of, offer_of, offer_bytes, claim_of, claim_bytes}
use Rattle.model.proofs.Both.{test}
use Rattle.model.proofs.Choice.{cond-true, cond-false}
use Rattle.logbuffer.specs.Commits.{commit_fits, commit_fit_bytes}
use Rattle.logbuffer.proofs.Commits.{commit-fits}
use Rattle.publication.specs.declared.fit.Fitted.{Fitted}
use Rattle.publication.specs.declared.fit.FittedClaim.{FittedClaim}
use Rattle.publication.specs.Fits.{is_fit, is_long_fit, fitted_at, fitted, fitted_long, claim_at, fitted_claim, offer_fit_bytes, fragmented_fit_bytes, claim_fit_bytes}
use Rattle.publication.proofs.OfferBy.{active-by}
use Rattle.publication.proofs.Fits.{offer-fits, fragmented-fits, claim-fits}
use Rattle.capi.specs.declared.replies.ClaimReply.{ClaimReply as ClaimCrossed}
use Rattle.capi.specs.Words.{tail_moved, claim_words}
use Rattle.capi.specs.Replies.{outcome_number, offer_reply, claim_reply}

-- ---- an offer, of one frame or of several, by the record that its numbers were read from

-- what is answered and left where `fits`: so many bytes are needed, and the log is `new`
module _ (r : LogRecord) (log : List ℕ) (v : Reading) (ev : v ≡ reading r) (fits : Reading → Bool) (needed : Reading → ℕ) (new : Reading → List ℕ) (f : Option Fitted) (out : List ℕ)
    (ef : f ≡ cond (fits v) (Some (fitted_at v (v.offset + needed v))) None) (eo : out ≡ cond (fits v) (new v) log) where
  abbrev at· : Fitted
  at· = fitted_at (reading r) ((reading r).offset + needed (reading r))

  read : f ≡ cond (fits (reading r)) (Some at·) None
  read = ef ∙ ap (λ (x : Reading). cond (fits x) (Some (fitted_at x (x.offset + needed x))) None) ev

  left : out ≡ cond (fits (reading r)) (new (reading r)) log
  left = eo ∙ ap (λ (x : Reading). cond (fits x) (new x) log) ev

  none_told : f ≡ None → out ≡ log
  none_told h = left ∙ cond-false _ _ _ (test (fits (reading r)) (λ t. absurd (none-some at· (sym h ∙ read ∙ cond-true _ _ _ t))) (λ t. t))

  some-told : (g : Fitted) → f ≡ Some g → (fits (reading r) ≡ true) × ((g ≡ at·) × (out ≡ new (reading r)))
  some-told g h =
      let k = cond_some (fits (reading r)) at· g (sym read ∙ h) in
      (k.0, (sym k.1, left ∙ cond-true _ _ _ k.0))

  -- by the law that the offer of `model` then answers and leaves the same
  some-done : (m : List ℕ) (z : ℤ) (x : Rule) (place : ℕ) → ((q : ℤ) → record { code = pos 0; rule = place; position = q } ≡ offer_reply (Ok q) x)
      → (fits (reading r) ≡ true → (record { next = with_tail r (active r) (reading r).id ((reading r).offset + needed (reading r)); answer = Ok at·.position; rule = x } ≡ offer_of r log m) × (new (reading r) ≡ offer_bytes r log m z))
      → (g : Fitted) → f ≡ Some g → (k : ℕ) (t p : ℤ) → k ≡ v.count % 3 → t ≡ g.tail → p ≡ g.position
      → (record { code = pos 0; rule = place; position = p } ≡ offer_reply (offer_of r log m).answer (offer_of r log m).rule)
      × ((tail_moved r k t ≡ (offer_of r log m).next) × (out ≡ offer_bytes r log m z))
  unfolding with_tail
  some-done m z x place crosses by g h k t p ek et ep =
      let told = some-told g h in
      let law = by told.0 in (
        crosses p ∙ ap (λ (q : ℤ). offer_reply (Ok q) x) (ep ∙ ap (λ (y : Fitted). y.position) told.1.0) ∙ ap (λ (o : OfferReply). offer_reply o.answer o.rule) law.0,
        (
          ap₂ (tail_moved r) (ek ∙ active-by r v ev) (et ∙ ap (λ (y : Fitted). y.tail) told.1.0) ∙ ap (λ (o : OfferReply). o.next) law.0,
          told.1.1 ∙ law.1,
        ),
      )

module _ (r : LogRecord) (log m : List ℕ) (z : ℤ) (v : Reading) (ev : v ≡ reading r) (f : Option Fitted) (out : List ℕ) where
  -- the active partition's frames, by the count that was read
  part : (frames : List _) → written (reading r) log ((reading r).count % 3 * (reading r).term) (reading r).offset frames ≡ written (reading r) log (active r * (reading r).term) (reading r).offset frames
  part frames = ap (λ (j : ℕ). written (reading r) log (j * (reading r).term) (reading r).offset frames) (active-by r (reading r) refl)

  module _ (ef : f ≡ fitted v (length log) (length m)) (eo : out ≡ offer_fit_bytes v log m (long z)) where
    abbrev fits· : Reading → Bool
    fits· x = is_fit x (length log) (length m)

    abbrev new· : Reading → List ℕ
    new· x = written x log (x.count % 3 * x.term) x.offset (fragment 192 (long z) m ∷ [])

    pub offer-none : f ≡ None → out ≡ log
    offer-none = none_told r log v ev fits· (λ x. space (length m)) new· f out ef eo

    pub offer-some : (g : Fitted) → f ≡ Some g → (k : ℕ) (t p : ℤ) → k ≡ v.count % 3 → t ≡ g.tail → p ≡ g.position
        → (record { code = pos 0; rule = 15; position = p } ≡ offer_reply (offer_of r log m).answer (offer_of r log m).rule)
        × ((tail_moved r k t ≡ (offer_of r log m).next) × (out ≡ offer_bytes r log m z))
    offer-some = some-done r log v ev fits· (λ x. space (length m)) new· f out ef eo m z Unfragmented 15 (λ q. refl) (λ yes. let law = offer-fits r log m z yes in (law.0, part _ ∙ law.1))

  module _ (ef : f ≡ fitted_long v (length log) (length m)) (eo : out ≡ fragmented_fit_bytes v log m (long z)) where
    abbrev long_fits· : Reading → Bool
    long_fits· x = is_long_fit x (length log) (length m)

    abbrev needed· : Reading → ℕ
    needed· x = need_of x (length m)

    abbrev long_new· : Reading → List ℕ
    long_new· x = written x log (x.count % 3 * x.term) x.offset (cut (payload_limit x) (long z) m)

    pub fragmented-none : f ≡ None → out ≡ log
    fragmented-none = none_told r log v ev long_fits· needed· long_new· f out ef eo

    pub fragmented-some : (g : Fitted) → f ≡ Some g → (k : ℕ) (t p : ℤ) → k ≡ v.count % 3 → t ≡ g.tail → p ≡ g.position
        → (record { code = pos 0; rule = 16; position = p } ≡ offer_reply (offer_of r log m).answer (offer_of r log m).rule)
        × ((tail_moved r k t ≡ (offer_of r log m).next) × (out ≡ offer_bytes r log m z))
    fragmented-some = some-done r log v ev long_fits· needed· long_new· f out ef eo m z Fragmented 16 (λ q. refl) (λ yes. let law = fragmented-fits r log m z yes in (law.0, part _ ∙ law.1))

-- ---- a claim

module _ (r : LogRecord) (log : List ℕ) (len : ℤ) (v : Reading) (ev : v ≡ reading r) (n : ℕ) (en : n ≡ word len) (f : Option FittedClaim) (out : List ℕ)
    (ef : f ≡ fitted_claim v (length log) n) (eo : out ≡ claim_fit_bytes v log n) where
  abbrev claim_fits· : Bool
  claim_fits· = is_fit (reading r) (length log) (word len)

  abbrev claim_at· : FittedClaim
  claim_at· = claim_at (reading r) (word len)

  read-claim : f ≡ cond claim_fits· (Some claim_at·) None
  read-claim = ef ∙ ap₂ (λ (x : Reading) (y : ℕ). fitted_claim x (length log) y) ev en

  left-claim : out ≡ claim_fit_bytes (reading r) log (word len)
  left-claim = eo ∙ ap₂ (λ (x : Reading) (y : ℕ). claim_fit_bytes x log y) ev en

  pub claim-none : f ≡ None → out ≡ log
  claim-none h = left-claim ∙ cond-false _ _ _ (test claim_fits· (λ t. absurd (none-some claim_at· (sym h ∙ read-claim ∙ cond-true _ _ _ t))) (λ t. t))

  pub claim-some : (g : FittedClaim) → f ≡ Some g → (k : ℕ) (t p : ℤ) (c : List ℤ) → k ≡ v.count % 3 → t ≡ g.after.tail → p ≡ g.after.position → c ≡ claim_words g.claim
      → (record { code = pos 0; rule = 17; position = p; claim = c } ≡ claim_reply (claim_of r log len).answer (claim_of r log len).rule)
      × ((tail_moved r k t ≡ (claim_of r log len).next) × (out ≡ claim_bytes r log len))
  unfolding with_tail
  claim-some g h k t p c ek et ep ec =
      let told = cond_some claim_fits· claim_at· g (sym read-claim ∙ h) in
      let law = claim-fits r log len told.0 in
      let part : (reading r).count % 3 ≡ active r = active-by r (reading r) refl in
      let at : g ≡ claim_at· = sym told.1 in
      let words : c ≡ claim_words (claim_record (reading r) (active r) (word len)) = ec ∙ ap (λ (x : FittedClaim). claim_words x.claim) at ∙ ap (λ (j : ℕ). claim_words (claim_record (reading r) j (word len))) part in (
        ap₂ {C = ClaimCrossed} (λ (x : ℤ) (y : List ℤ). record { code = pos 0; rule = 17; position = x; claim = y }) (ep ∙ ap (λ (x : FittedClaim). x.after.position) at) words ∙ ap (λ (o : ClaimReply). claim_reply o.answer o.rule) law.0,
        (
          ap₂ (tail_moved r) (ek ∙ active-by r v ev) (et ∙ ap (λ (x : FittedClaim). x.after.tail) at) ∙ ap (λ (o : ClaimReply). o.next) law.0,
          left-claim ∙ cond-true _ _ _ told.0 ∙ ap (λ (j : ℕ). claimed (reading r) log (j * (reading r).term) (word len)) part ∙ law.1,
        ),
      )

-- ---- a commit

module _ (r : LogRecord) (log : List ℕ) (c : Claim) (b : Bool) (out : List ℕ) (eb : b ≡ commit_fits r log c) (eo : out ≡ commit_fit_bytes r log c) where
  pub commit-none : b ≡ false → out ≡ log
  commit-none h = eo ∙ cond-false _ _ _ (sym eb ∙ h)

  pub commit-some : b ≡ true → (pos 0 ≡ outcome_number (commit_of r log c)) × (out ≡ commit_bytes r log c)
  commit-some h = let f = commit-fits r log c (sym eb ∙ h) in (ap outcome_number f.0, eo ∙ cond-true _ _ _ (sym eb ∙ h) ∙ f.1)
