-- Each number is the field at its place, or was given.
use Rattle.std.proofs.Common.{rules, w32, w64, to_z-of_z}
use Rattle.metadata.specs.Metadata.{record_from}
use Rattle.metadata.proofs.Fields.{kept4, kept8}
use Rattle.metadata.proofs.Parts.{by-fields}
use Rattle.metadata.proofs.section.record_from.Goals as goal

pub returns : goal.returns
unfolding record_from
returns c = let a = c.args in
    by-fields (record_from a.s.now a.beside) _ _ _ _ _ _ _ _ _ _ _ _ _ _
    c.tails_from.ensures
    (kept4 c.get_i32.ensures (search rules))
    (kept4 c.get_i32-2.ensures (search rules))
    (kept4 c.get_i32-3.ensures (search rules))
    (kept4 c.get_i32-4.ensures (search rules))
    (to_z-of_z {w = w32} {z = a.beside.session_id} (search rules))
    (to_z-of_z {w = w32} {z = a.beside.stream_id} (search rules))
    (kept4 c.get_i32-5.ensures (search rules))
    (to_z-of_z {w = w64} {z = a.beside.publication_limit} (search rules))
    (kept8 c.get_i64.ensures (search rules))
    (to_z-of_z {w = w64} {z = a.beside.slowest_position} (search rules))
    (kept4 c.get_i32-6.ensures (search rules))
    (kept8 c.get_i64-2.ensures (search rules))
    (kept4 c.get_i32-7.ensures (search rules))
