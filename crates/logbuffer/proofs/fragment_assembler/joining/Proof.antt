-- The flags pick the case; the rest is `begun` or `continued`.
use Rattle.std.proofs.Common.{◌≡◌, ℕ, List, get_or, take, ℤ, ap, ◌∙◌, ap₂, to_z-of_z, rules}
use Rattle.model.specs.FragmentAssembler.{place_in}
use Rattle.model.specs.FrameDescriptor.{ends}
use Rattle.logbuffer.specs.Assembler.{sessions_as}
use Rattle.logbuffer.proofs.Sessions.{join-through, join-begun, join_more, Begun, More}
use Rattle.logbuffer.proofs.fragment_assembler.joining.Statement.{statement}
use Rattle.logbuffer.proofs.fragment_assembler.joining.Tie as tie

-- the place by the definition's own numbers
same : (ids : List ℤ) (k n m : ℕ) (z w : ℤ) → k ≡ place_in (take n ids) w → n ≡ m → w ≡ z → k ≡ place_in (take m ids) z
same ids k n m z w h e f = h ∙ ap₂ (λ (x : ℕ) (y : ℤ). place_in (take x ids) y) e f

returns : tie.Need-returns-then-ends
returns c =
    let a = c.args in
    join-through (sessions_as a.count a.ids.now a.held.now) a.session a.flags a.n a.part c.if-begins.true-raw c.if-ends.true-raw

returns-2 : tie.Need-returns-then-begins
returns-2 c =
    let s = c in
    let a = s.args in
    let k = same a.ids.now _ _ _ a.session _ c.place_in.ensures.0 c.entered-known.ensures.0 (to_z-of_z s.ranges.session) in
    c.begun.ensures ∙ ap (λ (k : ℕ). Begun k a.n a.part) k
    ∙ join-begun (sessions_as a.count a.ids.now a.held.now) a.session a.flags a.n a.part c.if-begins.true-raw c.if-ends.false-raw

returns-3 : tie.Need-returns
returns-3 c =
    let s = c in
    let a = s.args in
    let p = c.place_in-k in
    let e = c.entered-known in
    let k = same a.ids.now _ _ _ a.session _ p.ensures.0 e.ensures.0 (to_z-of_z s.ranges.session) in
    c.continued.ensures
    ∙ ap (λ (f : ℕ). More p.result e.result f a.n a.part (ends a.flags)) c.held_at.ensures
    ∙ ap₂ (λ (k : ℕ) (m : ℕ). More k m (get_or a.held.now k 0) a.n a.part (ends a.flags)) k e.ensures.0
    ∙ join_more (sessions_as a.count a.ids.now a.held.now) a.session a.flags a.n a.part c.if-begins.false-raw

pub joining_spec : {M : Type 1} → statement M
joining_spec =
    tie.close
    (tie.spec
    (search rules)
    returns
    (search rules)
    (search rules)
    returns-2
    (search rules)
    (search rules)
    (search rules)
    returns-3)
