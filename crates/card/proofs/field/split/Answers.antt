-- A turn stores the next number.
use Rattle.std.proofs.Common.{ℕ, ◌+◌, List, ◌∷◌, set, drop, get_or, refl, sym, ap, ◌∙◌, arith}
use native.Mathlib.Numerals.{add-one}
use Rattle.std.proofs.lemmas.List.{length-set, at_drop_all}
use Rattle.card.specs.Bytes.{numbers, splice}
use Rattle.card.proofs.Fields.{numbers-turn, length-numbers}
use Rattle.card.proofs.Laid.{splice-set, splice-none, splice_all}
use Rattle.card.proofs.field.split.Goals as goal

pub loop-k-init : goal.loop-k-init
loop-k-init c =
    let s = c.args in record {
      near = omega arith;
      stored = splice_all _ (numbers s.widths.now s.bytes.now 0) (omega (arith, length-numbers s.widths.now s.bytes.now 0));
      seven = refl;
    }

pub loop-k-preserved : goal.loop-k-preserved
loop-k-preserved c =
    let l = c.loop-k in
    let ws = c.args.widths.now in
    let b = c.args.bytes.now in
    let w = get_or ws l.k 0 in
    let x = c.get.result in
    let rest = numbers (drop (l.k + 1) ws) b (l.at + w) in record {
      near = omega (arith, c.requires l.k);
      stored =
          ap (λ (n : ℕ). splice (set l.found l.k x) n rest) (add-one l.k) ∙ splice-set l.found l.k x rest (omega arith)
          ∙ ap (splice l.found l.k) (ap (λ (y : ℕ). y ∷ rest) c.get.ensures ∙ sym (numbers-turn ws b l.at l.k (omega arith))) ∙ l.invariant.stored;
      seven = length-set l.found l.k x ∙ l.invariant.seven;
    }

pub returns : goal.returns
unfolding numbers
returns c =
    let l = c.loop-k in
    let s = c.args in
    sym (splice-none l.found l.k) ∙ sym (at_drop_all (λ (ws : List ℕ). splice l.found l.k (numbers ws s.bytes.now l.at)) s.widths.now l.k (omega arith))
    ∙ l.invariant.stored
