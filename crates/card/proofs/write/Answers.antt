-- The widths are those of the bits, and the part of the note is as long as what is held of it.
use Rattle.std.proofs.Common.{ap, arith}
use Rattle.std.proofs.lemmas.List.{length-take-le}
use Rattle.card.specs.Bytes.{sum}
use Rattle.card.proofs.Calls.{four}
use Rattle.card.proofs.write.Goals as goal

pub join-requires : goal.join-requires
join-requires c =
    (rw c.table.ensures (four _), omega (arith, ap sum c.table.ensures, length-take-le _ c.args.note.now c.if_held-n.ensures.1))
