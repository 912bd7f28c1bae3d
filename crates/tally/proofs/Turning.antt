-- What the loop over frames keeps: the sums so far and those of the walk from here are the whole walk's, and the walks end alike.
use Rattle.std.proofs.Common.{◌≡◌, ℕ, zero, suc, ◌+◌, ◌-◌, ◌≤◌, ◌∷◌, sym, refl, ap, ◌∙◌, arith}
use Rattle.tally.specs.declared.Sums.{Sums}
use Rattle.tally.specs.Walk.{Stream, size, met, walked, between, end_of}
use Rattle.tally.specs.Tally.{share, sums_of, plus, total}
use Rattle.tally.proofs.Steps.{stepped, stops, goes}
use Rattle.tally.proofs.Adding.{shares, sums_none, sums-more, end_none, end_more}

abbrev pub zeros : Sums
zeros = record { body = 0; headers = 0; slack = 0; padding = 0 }

pub made : (a b c d a' b' c' d' : ℕ) → a ≡ a' → b ≡ b' → c ≡ c' → d ≡ d'
    → ◌≡◌ {A = Sums} (record { body = a; headers = b; slack = c; padding = d }) (record { body = a'; headers = b'; slack = c'; padding = d' })
made a b c d a' b' c' d' p q r s = cc

plus_assoc : (a b c : Sums) → plus (plus a b) c ≡ plus a (plus b c)
plus_assoc a b c = made _ _ _ _ _ _ _ _ (omega arith) (omega arith) (omega arith) (omega arith)

zeros-plus : (a : Sums) → plus zeros a ≡ a
zeros-plus a = made _ _ _ _ _ _ _ _ (omega arith) (omega arith) (omega arith) (omega arith)

plus-zeros : (a : Sums) → plus a zeros ≡ a
plus-zeros a = made _ _ _ _ _ _ _ _ (omega arith) (omega arith) (omega arith) (omega arith)

module _ (s : Stream) (from to : ℕ) where
  pub record Turning (a : Sums) (p : ℕ) : Type 0 where
    pub fuel : ℕ
    pub enough : to - p ≤ fuel
    pub so_far : from + total a ≡ p
    pub sums : plus a (sums_of (walked fuel s to p)) ≡ sums_of (between s from to)
    pub end : end_of p (walked fuel s to p) ≡ end_of from (between s from to)

  pub begins : Turning zeros from
  begins = record { fuel = to - from; enough = omega arith; so_far = omega arith; sums = zeros-plus _; end = refl }

  -- where nothing is met, it is done
  pub ended : (a : Sums) (p : ℕ) → Turning a p → size (met s to p) ≡ 0 → (a ≡ sums_of (between s from to)) × (p ≡ end_of from (between s from to))
  ended a p t z =
      let e = stops s p t.fuel to z in
      (sym (plus-zeros a) ∙ ap (plus a) (sym (ap sums_of e ∙ sums_none)) ∙ t.sums, sym (ap (end_of p) e ∙ end_none p) ∙ t.end)

  pub turned : (a : Sums) (p : ℕ) → Turning a p → (size (met s to p) ≡ 0 → ⊥) → Turning (plus a (share (met s to p))) (p + size (met s to p))
  turned a p t n = go t.fuel refl
    where
      go : (f : ℕ) → t.fuel ≡ f → Turning (plus a (share (met s to p))) (p + size (met s to p))
      go zero ef = absurd (let k = stepped s p to n in omega (arith, k.some, k.before, t.enough))
      go (suc f) ef =
          let k = stepped s p to n in
          let q = p + size (met s to p) in
          let rest = walked f s to q in
          let e : walked t.fuel s to p ≡ (record { at = p; frame = met s to p } ∷ rest) = ap (λ (y : ℕ). walked y s to p) ef ∙ goes s p f to n in
          record {
            fuel = f;
            enough = omega (arith, k.some, t.enough);
            so_far = omega (arith, shares (met s to p) k.long, t.so_far);
            sums = plus_assoc a (share (met s to p)) (sums_of rest) ∙ ap (plus a) (sym (ap sums_of e ∙ sums-more _ rest)) ∙ t.sums;
            end = sym (ap (end_of p) e ∙ end_more p _ rest) ∙ t.end;
          }
