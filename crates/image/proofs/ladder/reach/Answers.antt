-- The ladder answers, or lets the last two tests decide.
use Rattle.std.specs.Prelude.{Ok, Err}
use Rattle.std.proofs.Common.{◌≡◌, ℕ, sym, ap, ◌∙◌, arith, rules}
use mir.Syntax.{w64}
use mir.Val.{SFits}
use Rattle.model.specs.declared.ReadVerdict.TheVariants.{Read, Closed}
use Rattle.model.specs.Bytes.{long}
use Rattle.model.specs.Image.{reachable}
use Rattle.logbuffer.proofs.Signed.{long-by}
use Rattle.image.specs.Images.{state_of}
use Rattle.image.proofs.Places.{term-length}
use Rattle.image.proofs.Rungs.{readable-after, readable-read, answered}
use Rattle.image.proofs.ladder.reach.Goals as goal

p-is : (c : goal.After-long) → c.long.result ≡ long c.args.image.position
p-is c = let f : SFits w64 c.args.image.position = search rules in long-by c.args.image.position c.long.ensures.0 f

pub returns-in_err-readable : goal.returns-in_err-readable
returns-in_err-readable c =
    let a = c.args in
    let e : c.from_residual.result ≡ Err c.in_err-readable.field-0.0 = search rules in
    e ∙ readable-after a.good a.v a.n (state_of a.image) (Err c.in_err-readable.field-0.0) _ (sym c.in_err-readable.was ∙ c.readable.ensures)

pub reachable-requires : goal.reachable-requires
reachable-requires c =
    let a = c.args in
    let k = readable-read a.good a.v a.n (state_of a.image) (answered c.in_ok-readable.was c.in-Read.is c.readable.ensures) in
    (term-length _ _ k.sound, omega (arith, p-is c, k.high))

pub returns-in-Closed : goal.returns-in-Closed
returns-in-Closed c = let a = c.args in readable-after a.good a.v a.n (state_of a.image) (Ok Closed) _ (answered c.in_ok-readable.was c.in-Closed.is c.readable.ensures)

pub returns-in-Read : goal.returns-in-Read
returns-in-Read c =
    let a = c.args in
    c.reachable.ensures ∙ ap (λ (x : ℕ). reachable a.v x a.new (Ok Read)) (p-is c.before)
    ∙ readable-after a.good a.v a.n (state_of a.image) (Ok Read) _ (answered c.in_ok-readable.was c.in-Read.is c.readable.ensures)
