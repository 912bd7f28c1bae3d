-- The test picks the case.
use mathlib.Core.Path.{sym, ap}
use mathlib.Core.Bool.{Bool, cond}
use borrow.Author.Tests.{le-leb, lt-leb}
use Rattle.model.specs.declared.Rule.TheVariants.{Unfragmented, Fragmented}
use Rattle.publication.proofs.rule.of_message.Statement.{statement}
use Rattle.publication.proofs.rule.of_message.Tie as tie

returns : tie.Need-returns-then-m-payload
returns c = sym (ap (λ (b : Bool). cond b Unfragmented Fragmented) (le-leb _ _ c.if-m-payload.true))

returns-2 : tie.Need-returns
returns-2 c = sym (ap (λ (b : Bool). cond b Unfragmented Fragmented) (lt-leb _ _ c.if-m-payload.false))

pub of_message_spec : {M : Type 1} → statement M
of_message_spec = tie.close (tie.spec returns returns-2)
