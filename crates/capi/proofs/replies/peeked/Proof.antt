-- Case by case on the answer; a refusal's number and place are those of its error.
use mathlib.Core.Path.{◌≡◌}
use native.Mathlib.Omega.{arith}
use lib.IntN.{pos}
use mir.Syntax.{w64}
use mir.Val.{to_z}
use mir.Facts.{to_z_pos}
use borrow.Author.Rules.{rules}
use Rattle.capi.proofs.replies.peeked.Statement.{statement}
use Rattle.capi.proofs.replies.peeked.Tie as tie

returns : tie.Need-returns-in-Ok
returns c = search (rules, c.narrow.ensures, c.in-Ok.is)

returns-2 : tie.Need-returns-in-Err
returns-2 c =
    let z : to_z w64 c.place.result ≡ pos c.place.result = to_z_pos w64 (omega arith) in
    search (rules, z, ← c.number.ensures, ← c.place.ensures, c.in-Err.is)

pub peeked_spec : {M : Type 1} → statement M
peeked_spec =
    tie.close (tie.spec (search rules) (search rules) (search rules) (search rules) (search rules) (search rules) returns returns-2)
