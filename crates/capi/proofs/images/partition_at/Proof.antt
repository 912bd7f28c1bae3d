-- The shift is the index; it is below 3, so that it fits.
use mathlib.Core.Path.{◌≡◌, ap, ap₂, ◌∙◌}
use native.Mathlib.Omega.{arith}
use borrow.Author.Rules.{rules}
use lib.IntN.{pos}
use mir.Syntax.{w32}
use mir.Facts.{to_z_pos}
use Rattle.model.specs.Bytes.{word, long}
use Rattle.model.specs.LogBufferDescriptor.{index_by_position, bits_to_shift}
use Rattle.logbuffer.proofs.Signed.{word-by, long-by}
use Rattle.capi.proofs.images.partition_at.Statement.{statement}
use Rattle.capi.proofs.images.partition_at.Tie as tie

cast-result : tie.Need-overflow_cast-result
cast-result c = record { sfits = omega (arith, c.index_by_position.ensures) }

returns : tie.Need-returns
returns c =
    let s = c in
    let a = s.args in
    let e : c.index_by_position.result ≡ index_by_position (long a.position) (bits_to_shift (word a.term_length)) =
    c.index_by_position.ensures ∙ ap₂ index_by_position (long-by a.position c.long.ensures.0 s.ranges.position) (c.position_bits_to_shift-bits.ensures ∙ ap bits_to_shift (word-by a.term_length c.word.ensures.0 s.ranges.term_length)) in
    to_z_pos w32 (omega (arith, c.index_by_position.ensures)) ∙ ap pos e

pub partition_at_spec : {M : Type 1} → statement M
partition_at_spec =
    tie.close (tie.spec (search rules) (search rules) (search rules) (search rules) (search rules) cast-result returns)
