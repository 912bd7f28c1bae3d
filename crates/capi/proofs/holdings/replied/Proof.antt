-- The numbers of the answer, and the card as it is.
use mathlib.Core.Path.{◌≡◌, ap}
use borrow.Author.Rules.{rules}
use mir.Syntax.{w32, w64}
use mir.Val.{to_z, of_z}
use Rattle.capi.specs.declared.holdings.Numbers.{Numbers}
use Rattle.capi.specs.Holdings.{reply_with}
use Rattle.capi.proofs.holdings.replied.Statement.{statement}
use Rattle.capi.proofs.holdings.replied.Tie as tie

returns : tie.Need-returns
returns c =
    let n = c.told-n.result in
    let p : to_z w32 (of_z w32 n.code) ≡ n.code = search rules in
    let q : to_z w32 (of_z w32 n.stop) ≡ n.stop = search rules in
    let r : to_z w64 (of_z w64 n.position) ≡ n.position = search rules in
    rw (p, q, r) (ap (λ (x : Numbers). reply_with x c.args.held) c.told-n.ensures)

pub replied_spec : {M : Type 1} → statement M
replied_spec = tie.close (tie.spec (search rules) returns)
