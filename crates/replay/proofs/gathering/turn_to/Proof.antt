-- The same session is at hand; for another the array is brought up to date.
use mathlib.Core.Path.{◌≡◌, refl, sym, ap, subst, ◌∙◌}
use mathlib.Core.List.{List}
use Prim.Native.Nat.{ℕ, min}
use native.Mathlib.Omega.{arith}
use borrow.Author.Rules.{rules}
use lib.ListN.{length, take, get_or, set}
use lib.Seq.{get_or-set_same, set-get_or}
use mir.Syntax.{w32}
use mir.Val.{to_z}
use mir.Facts.{to_z-of_z}
use Rattle.model.specs.FragmentAssembler.{place_in}
use Rattle.replay.specs.declared.gathering.Current.{Current}
use Rattle.replay.proofs.gathering.turn_to.Statement.{statement}
use Rattle.replay.proofs.gathering.turn_to.Tie as tie

returns : tie.Need-returns-then-current-next
returns c =
    let s = c in
    let a = s.args in
    let held-16 : length a.held.now ≡ 16 = search rules in
    let z : a.current.session ≡ a.next = sym (to_z-of_z {w = w32} {z = a.current.session} (search rules)) ∙ ap (to_z w32) c.if-current-next.true ∙ to_z-of_z s.ranges.next in
    (((s.requires c.if-current-lt16.true ∙ ap (place_in (take (min a.count 16) a.ids.now)) z, z), sym (get_or-set_same a.held.now a.current.place a.current.bytes 0 (omega (arith, held-16, c.if-current-lt16.true)))), refl)

abbrev Says : tie.Start → List ℕ → Current → Type 0
Says s h r =
    let a = s.args in
    ((((r.place ≡ place_in (take (min a.count 16) a.ids.now) a.next) × (r.session ≡ a.next)) × (r.bytes ≡ get_or (set a.held.now a.current.place a.current.bytes) r.place 0))
    × (set h r.place r.bytes ≡ set a.held.now a.current.place a.current.bytes))

returns-2 : tie.Need-returns
returns-2 c =
    let s = c in
    let a = s.args in
    let e = c.settle.ensures in
    let k = c.place_of-place.result in
    let h = c.settle.new.held in
    let z = to_z-of_z s.ranges.next in
    subst (Says c.before.before.before.before.before.before.before.before.before.before h) (sym c.current_as.ensures) (
      ((c.place_of-place.ensures ∙ ap (place_in (take (min a.count 16) a.ids.now)) z, z), c.held_at.ensures ∙ ap (λ (l : List ℕ). get_or l k 0) e),
      ap (set h k) c.held_at.ensures ∙ set-get_or h k 0 ∙ e,
    )

pub turn_to_spec : {M : Type 1} → statement M
turn_to_spec = tie.close (tie.spec returns (search rules) (search rules) (search rules) (search rules) returns-2)
