-- Each test is one of the definition's.
use borrow.Author.Tests.{le-leb, lt-leb}
use borrow.Author.Rules.{rules}
use Rattle.model.specs.LogBufferDescriptor.{greatest}
use Rattle.publication.proofs.clearing.is_good.Statement.{statement}
use Rattle.publication.proofs.clearing.is_good.Tie as tie

returns : tie.Need-returns-then-position-v
returns c = let a = c.args in rw (lt-leb a.position (greatest a.v) c.if-position-v.true)

returns-2 : tie.Need-returns
returns-2 c = let a = c.args in rw (le-leb a.position (greatest a.v) c.if-position-v.false)

pub is_good_spec : {M : Type 1} → statement M
is_good_spec = tie.close (tie.spec (search rules) returns returns-2)
