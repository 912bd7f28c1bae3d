-- The field at once where it lies in the log, else byte by byte.
use Rattle.std.proofs.Common.{drop, sym, ap, ◌∙◌, arith, get_or-drop, drop-drop, rules}
use Rattle.model.specs.Bytes.{u16}
use Rattle.logbuffer.proofs.frame_descriptor.frame_type.Statement.{statement}
use Rattle.logbuffer.proofs.frame_descriptor.frame_type.Tie as tie

returns : tie.Need-returns-then-at-n
returns c = let a = c.args in c.half.ensures.0 ∙ ap u16 (sym (drop-drop 6 a.at a.log.now))

returns-2 : tie.Need-returns
unfolding u16
returns-2 c =
    let s = drop c.args.at c.args.log.now in
    omega (arith, get_or-drop 6 s 0 0, get_or-drop 6 s 1 0)

pub frame_type_spec : {M : Type 1} → statement M
frame_type_spec =
    tie.close
    (tie.spec
    (search rules)
    (search rules)
    returns
    (search rules)
    (search rules)
    (search rules)
    (search rules)
    returns-2)
