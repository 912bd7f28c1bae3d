-- The three parts.
use mathlib.Core.Path.{◌≡◌}
use Prim.Native.Nat.{ℕ}
use mathlib.Core.List.{List}
use lib.IntN.{ℤ}
use Rattle.model.specs.Bytes.{long}
use Rattle.logbuffer.specs.declared.fragment_assembler.FragmentAssembler.{FragmentAssembler}
use Rattle.logbuffer.proofs.Signed.{long-by}
use Rattle.capi.specs.Words.{at, ids_from, held_from, assembler_in}
use borrow.Author.Rules.{rules}
use Rattle.capi.proofs.words.assembler_in.Statement.{statement}
use Rattle.capi.proofs.words.assembler_in.Tie as tie

same : (w : List ℤ) (n : ℕ) (ids : List ℤ) (held : List ℕ) → n ≡ long (at w 0) → ids ≡ ids_from w 1 → held ≡ held_from w 9
    → ◌≡◌ {A = FragmentAssembler} (record { count = n; ids = ids; held = held }) (assembler_in w)
same w n ids held e f g = cc

returns : tie.Need-returns
returns c =
    let w = c.args.w.now in
    same w _ _ _ (long-by (at w 0) c.long.ensures.0 (search (rules, c.long-arg-1.given))) c.ids_in.ensures c.held_in.ensures

pub assembler_in_spec : {M : Type 1} → statement M
assembler_in_spec =
    tie.close (tie.spec (search rules) (search rules) (search rules) (search rules) returns)
