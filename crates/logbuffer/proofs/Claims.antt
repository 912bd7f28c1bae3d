-- A claim's numbers as the code has them: its arguments judged, and the header that shows it.
use Rattle.std.proofs.Common.{◌≡◌, ℕ, ◌+◌, ◌%◌, Bool, false, ◌&&◌, eqb, leb, List, drop, sym, ap, ◌∙◌, ap₂, drop-drop, eq-eqb, ne_eqb}
use Rattle.model.specs.declared.Claim.{Claim}
use Rattle.model.specs.declared.Reading.{Reading}
use Rattle.model.specs.Bytes.{word, u32}
use Rattle.model.specs.FrameDescriptor.{align, negated}
use Rattle.model.specs.LogBufferDescriptor.{within_term}
use Rattle.model.specs.BufferClaim.{good_claim, matches}

-- the arguments' test on partition, offset and length
abbrev pub good_numbers : Reading → ℕ → ℕ → ℕ → Bool
good_numbers v k o l = leb k 2 && (eqb (o % 32) 0 && (leb 32 l && within_term (o + align l) v))

pub good-by : (v : Reading) (c : Claim) (k o l : ℕ) → k ≡ word c.partition → o ≡ word c.offset → l ≡ word c.length → good_numbers v k o l ≡ good_claim v c
unfolding good_claim
good-by v c k o l ek eo el = cc

-- the length word that was read, beside the claim's length negated
module _ (log : List ℕ) (at : ℕ) (c : Claim) (w l : ℕ) (ew : w ≡ u32 (drop at log)) (el : l ≡ negated (word c.length)) where
  pub differs : (w ≡ l → ⊥) → false ≡ matches log at c
  unfolding matches
  differs h = simp (ne_eqb _ _ (λ (e : u32 (drop at log) ≡ negated (word c.length)). h (ew ∙ e ∙ sym el)))

  pub agrees : w ≡ l → (u i : ℕ) → u ≡ u32 (drop (at + 20) log) → i ≡ word c.term_id → eqb u i ≡ matches log at c
  unfolding matches
  agrees h u i eu ei = simp (eq-eqb _ _ (sym ew ∙ h ∙ el)) (ap₂ eqb (eu ∙ ap u32 (sym (drop-drop 20 at log))) ei)
