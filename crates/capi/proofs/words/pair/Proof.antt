-- The call's promise.
use mathlib.Core.Path.{◌≡◌, ap, ap₂, ◌∙◌}
use Prim.Native.Nat.{ℕ, ◌+◌, ◌*◌}
use mir.Facts.{to_z-of_z}
use mir.Syntax.{w64}
use mir.Val.{to_z}
use borrow.Author.Rules.{rules}
use Rattle.logbuffer.proofs.Signed.{word-by}
use Rattle.capi.proofs.Promised.{promised64}
use Rattle.capi.proofs.words.pair.Statement.{statement}
use Rattle.capi.proofs.words.pair.Tie as tie

returns : tie.Need-returns
returns c = let s = c in
    promised64 (c.to_i64.ensures ∙ ap₂ (λ (a b : ℕ). to_z w64 (a + b * 4294967296)) (word-by s.args.low c.word.ensures.0 s.ranges.low) (word-by s.args.high c.word-2.ensures.0 s.ranges.high)) (search rules)

pub pair_spec : {M : Type 1} → statement M
pair_spec = tie.close (tie.spec (search rules) (search rules) (search rules) (search rules) (search rules) returns)
