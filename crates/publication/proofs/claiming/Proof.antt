-- The way that the appender answers, made into the reply with the claim's record, is the claiming append of the definition.
use mathlib.Core.Path.{ap}
use Prim.Native.Nat.{◌+◌, ◌≤◌}
use native.Mathlib.Omega.{arith}
use borrow.Author.Rules.{rules}
use mir.Syntax.{w32}
use mir.Val.{to_z}
use mir.Facts.{to_z_pos}
use Rattle.model.specs.FrameDescriptor.{space}
use Rattle.publication.proofs.Ways.{claiming-by, claim-record-is}
use Rattle.publication.proofs.claiming.Statement.{statement}
use Rattle.publication.proofs.claiming.Tie as tie

returns : tie.Need-returns
returns c =
    let s = c in
    let a = s.args in
    let d = c.claim_way-way in
    let h : a.v.offset + space a.n ≤ 2147483647 = s.requires.1.1.0 in
    let hk : a.k ≤ 2 = s.requires.1.0 in
    claiming-by a.rec a.log.now d.new.log a.v a.k a.n d.result _ c.claim_reply.result s.requires.0 hk (omega arith) d.ensures.0 d.ensures.1 c.claim_reply.ensures
    (claim-record-is a.v a.k a.n _ _ _ _ (to_z_pos w32 (omega arith)) (to_z_pos w32 (omega arith)) (to_z_pos w32 (omega arith)) (ap (to_z w32) s.requires.1.1.1))

pub claiming_spec : {M : Type 1} → statement M
claiming_spec =
    tie.close
    (tie.spec
    (search rules)
    (search rules)
    (search rules)
    (search rules)
    (search rules)
    (search rules)
    (search rules)
    returns)
