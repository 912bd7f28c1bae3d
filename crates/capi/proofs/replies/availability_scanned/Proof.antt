-- Case by case on the answer; a refusal's number and place are those of its error.
use mathlib.Core.Path.{◌≡◌, ap, ◌∙◌}
use Prim.Native.Nat.{ℕ, ◌/◌, ◌%◌}
use native.Mathlib.Omega.{arith}
use borrow.Author.Rules.{rules}
use lib.IntN.{pos}
use Rattle.capi.specs.declared.replies.AvailabilityReply.{AvailabilityReply}
use Rattle.capi.proofs.replies.availability_scanned.Statement.{statement}
use Rattle.capi.proofs.replies.availability_scanned.Tie as tie

cast-t7 : tie.Need-overflow_cast-result
cast-t7 c = search (rules, c.long-bits.ensures.1)

returns : tie.Need-returns-in-Ok
returns c = search (rules, c.long-bits.ensures.0, c.in-Ok.is)

returns-2 : tie.Need-returns-in-Err
returns-2 c = search (rules, ← c.number.ensures, ← c.place.ensures, c.in-Err.is)

pub availability_scanned_spec : {M : Type 1} → statement M
availability_scanned_spec =
    tie.close (tie.spec (search rules) (search rules) (search rules) (search rules) (search rules) (search rules) (search rules) returns returns-2)
