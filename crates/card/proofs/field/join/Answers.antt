-- A turn lays the next number's bytes behind those before.
use Rattle.std.proofs.Common.{◌≡◌, ℕ, suc, ◌+◌, List, length, get_or, sym, ap, ap₂, ◌∙◌, ⊎_elim, arith}
use Rattle.std.proofs.lemmas.List.{nil_from_length}
use Rattle.std.specs.Iterator.Adapters.{zip_first, zip_second}
use Rattle.std.specs.Slice.Iter.{iter_rest}
use Rattle.card.specs.Bytes.{le, joined, sum, splice}
use Rattle.card.proofs.Fields.{length-le}
use Rattle.card.proofs.Laid.{splice-more, splice-part}
use Rattle.card.proofs.field.join.Goals as goal

pub put-at-requires : goal.put-at-requires
unfolding sum
put-at-requires c =
    let next = c.in-Some.ensures.steps.0 in
    let l = c.loop-width in
    (omega (arith, ap sum next, l.invariant.left), omega (arith, l.invariant.narrow 0, ap (λ (s : List ℕ). get_or s 0 0) next))

pub loop-width-preserved : goal.loop-width-preserved
unfolding joined sum
loop-width-preserved c =
    let p = c.put-at in
    let l = c.loop-width in
    let next = c.in-Some.ensures.steps in
    let w = c.in-Some.width.now in
    let n = c.in-Some.n.now in
    let note = c.args.note.now in
    let rest = joined (iter_rest (zip_first c.next.new.self)) (iter_rest (zip_second c.next.new.self)) note in
    let size = ap sum next.0 in record {
      left = omega (arith, p.ensures.value, size, l.invariant.left);
      laid =
          ap₂ (λ (t : List ℕ) (a : ℕ). splice t a rest) p.ensures.out_after p.ensures.value
          ∙ splice-more l.out l.at (le w n) rest (l.at + w) (ap (λ (a : ℕ). l.at + a) (length-le w n)) (omega (arith, size, l.invariant.left))
          ∙ ap (splice l.out l.at) (sym (ap₂ (λ (ws ns : List ℕ). joined ws ns note) next.0 next.1)) ∙ l.invariant.laid;
      narrow = λ i. omega (arith, l.invariant.narrow (suc i), ap (λ (s : List ℕ). get_or s (suc i) 0) next.0);
      even = omega (arith, l.invariant.even, ap length next.0, ap length next.1);
    }

pub returns : goal.returns
unfolding joined
returns c =
    let l = c.loop-width in
    let note = c.args.note.now in
    let ns = iter_rest (zip_second l.width-iterator) in
    let none : length (iter_rest (zip_first l.width-iterator)) ≡ 0 =
    ⊎_elim (λ e. e.1.0) (λ e. omega (arith, e.1.0, l.invariant.even)) c.in-None.ensures.steps in
    splice-part l.out note l.at _ _ c.copy_from_slice.ensures.after (omega arith)
    ∙ ap (λ (ws : List ℕ). splice l.out l.at (joined ws ns note)) (sym (nil_from_length _ none)) ∙ l.invariant.laid
