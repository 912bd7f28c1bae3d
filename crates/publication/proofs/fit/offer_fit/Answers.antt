-- The offset that the appender told lies in its term.
use mathlib.Core.Path.{sym, ◌∙◌}
use native.Mathlib.Omega.{arith}
use borrow.Author.Rules.{rules}
use lib.ListN.{length}
use Rattle.std.proofs.lemmas.Option.{cond_some}
use Rattle.model.proofs.Sound.{bounds}
use Rattle.logbuffer.proofs.Ways.{fits-true}
use Rattle.publication.proofs.Fits.{open-true}
use Rattle.publication.proofs.fit.offer_fit.Goals as goal

pub after-requires : goal.after-requires
after-requires c =
    let o = (open-true c.args.numbers (length c.args.log.now) (length c.args.message.now) (search rules)).0 in
    let e = cond_some _ _ _ (sym c.append_fit.ensures.value ∙ c.in_ok-end.was) in
    let f = fits-true _ _ _ _ e.0 in
    (bounds _ _ o.so, (o.so.one_bit, (o.id-in, omega (arith, f.room, e.1))))
