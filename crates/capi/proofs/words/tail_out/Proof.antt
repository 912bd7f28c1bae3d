-- One word is stored; all else that is written out is what is there.
use mathlib.Core.Path.{ap, ◌∙◌}
use lib.ListN.{set}
use mir.Facts.{to_z-of_z}
use Rattle.capi.proofs.Kept.{tail-alone}
use borrow.Author.Rules.{rules}
use Rattle.capi.proofs.words.tail_out.Statement.{statement}
use Rattle.capi.proofs.words.tail_out.Tie as tie

returns : tie.Need-returns
returns c =
    let s = c in
    ap (set s.args.w.now s.args.k) (to_z-of_z s.ranges.tail) ∙ tail-alone s.args.w.now s.args.tail c.numbers.ensures s.args.k s.requires

pub tail_out_spec : {M : Type 1} → statement M
tail_out_spec = tie.close (tie.spec (search rules) (search rules) (search rules) returns)
