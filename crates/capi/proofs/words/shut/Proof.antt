-- By the flag.
use native.Mathlib.Omega.{arith}
use borrow.Author.Rules.{rules}
use Rattle.capi.proofs.words.shut.Statement.{statement}
use Rattle.capi.proofs.words.shut.Tie as tie

returns : tie.Need-returns-then-is_eos
returns c = rw c.if-is_eos.true

returns-2 : tie.Need-returns
returns-2 c = rw c.if-is_eos.false (omega arith)

pub shut_spec : {M : Type 1} → statement M
shut_spec =
    tie.close (tie.spec (search rules) (search rules) (search rules) (search rules) returns (search rules) (search rules) returns-2)
