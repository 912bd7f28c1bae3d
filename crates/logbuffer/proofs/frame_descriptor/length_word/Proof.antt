-- The field at once where it lies in the log, else byte by byte.
use Rattle.std.proofs.Common.{arith, rules}
use Rattle.model.specs.Bytes.{u32}
use Rattle.logbuffer.proofs.frame_descriptor.length_word.Statement.{statement}
use Rattle.logbuffer.proofs.frame_descriptor.length_word.Tie as tie

returns-2 : tie.Need-returns
unfolding u32
returns-2 c = omega arith

pub length_word_spec : {M : Type 1} → statement M
length_word_spec =
    tie.close
    (tie.spec
    (search rules)
    (search rules)
    (search rules)
    (search rules)
    (search rules)
    (search rules)
    (search rules)
    (search rules)
    (search rules)
    (search rules)
    (search rules)
    (search rules)
    returns-2)
