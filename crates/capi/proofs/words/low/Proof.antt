-- The call's promise.
use mathlib.Core.Path.{◌≡◌, ap, ◌∙◌}
use Prim.Native.Nat.{ℕ, ◌*◌, ◌%◌}
use lib.IntN.{ℤ}
use mir.Facts.{to_z-of_z}
use mir.Syntax.{w64}
use mir.Val.{to_z}
use borrow.Author.Rules.{rules}
use Rattle.model.specs.LogBufferDescriptor.{term_id_of}
use Rattle.capi.proofs.Promised.{promised, promised64}
use Rattle.capi.proofs.words.low.Statement.{statement}
use Rattle.capi.proofs.words.low.Tie as tie

returns : tie.Need-returns
returns c = let l = c.long in
    let s = c in
    let e = l.ensures.0 ∙ ap (mir.Val.of_z w64) (to_z-of_z s.ranges.w) in
    promised (c.term_id.ensures ∙ ap term_id_of (promised64 c.to_i64.ensures (search rules) ∙ ap (λ (n : ℕ). to_z w64 (n % 4294967296 * 4294967296)) e)) (search rules)

pub low_spec : {M : Type 1} → statement M
low_spec = tie.close (tie.spec (search rules) (search rules) (search rules) (search rules) returns)
