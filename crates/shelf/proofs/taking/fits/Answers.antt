-- The first header that has no size decides, and then what is left of the room.
use Rattle.std.proofs.Common.{ℕ, List, drop, sym, ap, ◌∙◌, arith}
use Rattle.shelf.specs.Shelf.{size_at}
use Rattle.shelf.proofs.Sizes.{found_none, found-some}
use Rattle.shelf.proofs.Calls.{header-alone, size-within, fit-start, fit_on, fit-stop, fit-end}
use Rattle.shelf.proofs.taking.fits.Goals as goal

pub loop-k-init : goal.loop-k-init
loop-k-init c = fit-start c.args.shelf.now c.args.n c.args.term

pub returns-in_default : goal.returns-in_default
returns-in_default c =
    let a = c.args in
    let l = c.loop-k in
    let f = found_none _ (sym c.size.ensures ∙ c.in_default.is) in
    let h = ap (λ (x : List ℕ). size_at (drop 0 x) l.room) c.gather.ensures ∙ header-alone a.shelf.now a.n l.k _ l.room in
    fit-stop a.shelf.now a.n a.term l.k l.room l.invariant (sym h ∙ f) (omega arith)

pub overflow_sub-room : goal.overflow_sub-room
overflow_sub-room c =
    let a = c.args in
    let l = c.loop-k in
    let f = found-some _ _ c.in-Some.ensures in
    let h = ap (λ (x : List ℕ). size_at (drop 0 x) l.room) c.gather.ensures ∙ header-alone a.shelf.now a.n l.k _ l.room in
    size-within a.shelf.now a.n l.k l.room c.in-Some.z (sym h ∙ f.0) f.1

pub loop-k-preserved : goal.loop-k-preserved
loop-k-preserved c =
    let a = c.args in
    let l = c.loop-k in
    let f = found-some _ _ c.in-Some.ensures in
    let h = ap (λ (x : List ℕ). size_at (drop 0 x) l.room) c.gather.ensures ∙ header-alone a.shelf.now a.n l.k _ l.room in
    fit_on a.shelf.now a.n a.term l.k l.room l.invariant c.in-Some.z (sym h ∙ f.0) f.1 (omega arith)

pub returns : goal.returns
returns c = let a = c.args in fit-end a.shelf.now a.n a.term c.loop-k.k c.loop-k.room c.loop-k.invariant (omega arith)
