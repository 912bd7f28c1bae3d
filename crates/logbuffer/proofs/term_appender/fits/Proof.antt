-- A test that fails settles the conjunction; a length of 31 bits makes no sum too large.
use Rattle.std.proofs.Common.{◌≡◌, ◌≤◌, true, sym, ◌∙◌, arith, rules}
use borrow.Author.Tests.{not-true, not-false}
use Rattle.logbuffer.specs.Ways.{good_claiming, frame_fits}
use Rattle.logbuffer.proofs.Ways.{claiming-true}
use Rattle.logbuffer.proofs.term_appender.fits.Statement.{statement}
use Rattle.logbuffer.proofs.term_appender.fits.Tie as tie

good : (c : tie.Else-not-good_claiming) → good_claiming c.args.v c.args.k c.args.m ≡ true
good c = sym c.good_claiming.ensures ∙ not-false _ c.if-not-good_claiming.false-raw

short : (c : tie.Else-not-good_claiming) → c.args.m ≤ 2147483647
short c = (claiming-true c.args.v c.args.k c.args.m (good c)).1.1

returns : tie.Need-returns-then-not-good_claiming
unfolding frame_fits
returns c = simp (sym c.good_claiming.ensures ∙ not-true _ c.if-not-good_claiming.true-raw)

returns-2 : tie.Need-returns
unfolding frame_fits
returns-2 c = simp (good c.before, sym c.has_room.ensures)

pub fits_spec : {M : Type 1} → statement M
fits_spec =
    tie.close
    (tie.spec
    (search rules)
    returns
    (λ c. omega (arith, short c))
    (λ c. omega (arith, short c))
    (λ c. omega (arith, short c))
    (λ c κs. omega (arith, short c))
    returns-2)
