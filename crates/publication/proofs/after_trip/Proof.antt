-- The tests pick the case of `on_trip`; the rotation does what `Turns` says.
use Rattle.model.proofs.OfferLaws.{trip-7, trip-12, trip-19, trip-6, not_last}
use Rattle.model.proofs.Sound.{begin-most}
use Prim.Native.Nat.{◌+◌, ◌≤◌, ◌<◌}
use Rattle.model.specs.LogBufferDescriptor.{greatest, rotate_log_of}
use Rattle.model.specs.Publication.{place}
use Rattle.model.specs.declared.RecordReply.{RecordReply}
use mir.Facts.{to_z-of_z}
use native.Mathlib.Omega.{arith}
use mathlib.Core.Path.{sym, ap, ap₂, ◌∙◌}
use borrow.Author.Tests.{not-true, not-false}
use borrow.Author.Rules.{rules}
use Rattle.publication.specs.Trips.{next_marked}
use Rattle.publication.proofs.after_trip.Statement.{statement}
use Rattle.publication.proofs.after_trip.Tie as tie

returns : tie.Need-returns-then-begin-offset
returns c =
    let v = c.args.v in
    let b = next_marked c.args.next v in
    let h : greatest v < place v + v.offset = omega (arith, c.requires.1.0, c.if-begin-offset.true) in
    (trip-7 v b _ _ _ _ h, (trip-7 v b _ _ _ _ h, trip-7 v b _ _ _ _ h))

stays : (c : tie.Else-begin-offset) → place c.args.v + c.args.v.offset ≤ greatest c.args.v
stays c = omega (arith, c.requires.1.0, c.if-begin-offset.false)

returns-2 : tie.Need-returns-then-active-eq2147483647
returns-2 c =
    let v = c.args.v in
    let b = next_marked c.args.next v in
    let h = stays c.before in
    (trip-12 v b _ _ _ _ h c.if-active-eq2147483647.true, (trip-12 v b _ _ _ _ h c.if-active-eq2147483647.true, trip-12 v b _ _ _ _ h c.if-active-eq2147483647.true))

returns-3 : tie.Need-returns-then-not-is_marked
returns-3 c =
    let v = c.args.v in
    let b = next_marked c.args.next v in
    let h = stays c.before.before.before in
    let l = not_last v c.if-active-eq2147483647.false in
    let n = sym c.is_marked.ensures ∙ not-true _ c.if-not-is_marked.true-raw in
    (trip-19 v b _ _ _ _ h l n, (trip-19 v b _ _ _ _ h l n, trip-19 v b _ _ _ _ h l n))

returns-4 : tie.Need-returns
returns-4 c =
    let s = c in
    let v = s.args.v in
    let b = next_marked s.args.next v in
    let h = stays c.before.before.before.before.before in
    let l = not_last v c.if-active-eq2147483647.false in
    let n = sym c.is_marked.ensures ∙ not-false _ c.if-not-is_marked.false-raw in
    let t = c.rotate_log-turned.ensures ∙ ap₂ (rotate_log_of s.args.next) (to_z-of_z s.ranges.count) (to_z-of_z s.ranges.term_id) ∙ s.requires.1.1 l in
    (ap (λ (x : RecordReply). x.next) t ∙ trip-6 v b _ _ _ _ h l n, (trip-6 v b _ _ _ _ h l n, trip-6 v b _ _ _ _ h l n))

pub after_trip_spec : {M : Type 1} → statement M
after_trip_spec =
    tie.close
    (tie.spec
    (λ c. omega (arith, begin-most _ c.requires.0, c.requires.1.0))
    (λ c. omega (arith, begin-most _ c.requires.0, c.requires.1.0))
    (search rules)
    returns
    returns-2
    (λ c. omega (arith, c.requires.0.count_most))
    (search rules)
    returns-3
    (search rules)
    returns-4)
