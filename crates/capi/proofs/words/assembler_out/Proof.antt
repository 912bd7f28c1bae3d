-- The three parts, one after the other.
use mathlib.Core.Path.{◌≡◌, refl}
use mathlib.Core.List.{List}
use lib.IntN.{ℤ}
use lib.ListN.{set}
use Rattle.model.specs.FragmentAssembler.{Sessions}
use Rattle.logbuffer.specs.Assembler.{sessions_of}
use Rattle.capi.specs.Words.{count_out, ids_to, held_to, assembler_out}
use Rattle.capi.proofs.Promised.{promised64}
use borrow.Author.Rules.{rules}
use Rattle.capi.proofs.words.assembler_out.Statement.{statement}
use Rattle.capi.proofs.words.assembler_out.Tie as tie

same : (w v u x : List ℤ) (s : Sessions) (n : ℤ) → n ≡ count_out s.count → v ≡ set w 0 n → u ≡ ids_to v 1 s.ids → x ≡ held_to u 9 s.held → x ≡ assembler_out w s
same w v u x s n e f g h = cc

returns : tie.Need-returns
returns c =
    let s = c.args in
    same s.w.now _ _ _ (sessions_of s.next) _ (promised64 c.to_i64.ensures (search (rules, c.to_i64.type_inv))) refl c.ids_out.ensures c.held_out.ensures

pub assembler_out_spec : {M : Type 1} → statement M
assembler_out_spec =
    tie.close (tie.spec (search rules) (search rules) (search rules) (search rules) returns)
