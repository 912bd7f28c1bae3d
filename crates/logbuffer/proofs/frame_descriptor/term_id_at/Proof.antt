-- The field at once where the header lies in the log, else byte by byte.
use Rattle.std.proofs.Common.{drop, sym, ap, ◌∙◌, arith, get_or-drop, drop-drop, rules}
use Rattle.model.specs.Bytes.{u32}
use Rattle.logbuffer.proofs.frame_descriptor.term_id_at.Statement.{statement}
use Rattle.logbuffer.proofs.frame_descriptor.term_id_at.Tie as tie

returns : tie.Need-returns-then-at-n
returns c = let a = c.args in c.word4.ensures.0 ∙ ap u32 (sym (drop-drop 20 a.at a.log.now))

returns-2 : tie.Need-returns
unfolding u32
returns-2 c =
    let a = c.args in
    let s = drop a.at a.log.now in
    omega (arith, get_or-drop 20 s 0 0, get_or-drop 20 s 1 0, get_or-drop 20 s 2 0, get_or-drop 20 s 3 0)

pub term_id_at_spec : {M : Type 1} → statement M
term_id_at_spec =
    tie.close
    (tie.spec
    (search rules)
    (search rules)
    returns
    (search rules)
    (search rules)
    (search rules)
    (search rules)
    (search rules)
    (search rules)
    (search rules)
    (search rules)
    (search rules)
    (search rules)
    returns-2)
