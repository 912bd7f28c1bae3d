-- The word with its other bits kept.
use mathlib.Core.Path.{◌≡◌, ap, ◌∙◌}
use Prim.Native.Nat.{ℕ}
use mathlib.Core.List.{List}
use lib.IntN.{ℤ}
use lib.ListN.{set}
use Rattle.logbuffer.proofs.Signed.{long-by}
use Rattle.capi.specs.Words.{at, marks_word}
use Rattle.capi.proofs.Promised.{promised64}
use borrow.Author.Rules.{rules}
use Rattle.capi.proofs.words.marks_out.Statement.{statement}
use Rattle.capi.proofs.words.marks_out.Tie as tie

returns : tie.Need-returns
returns c =
    let a = c.args in
    let w = a.w.now in
    let bits = long-by (at w 11) c.long-bits.ensures.0 (search (rules, c.long-arg-1.given)) in
    ap (set w 11) (promised64 (c.marks_word.ensures ∙ ap (λ (n : ℕ). marks_word n a.next) bits) (search rules))

pub marks_out_spec : {M : Type 1} → statement M
marks_out_spec =
    tie.close (tie.spec (search rules) (search rules) (search rules) (search rules) returns)
