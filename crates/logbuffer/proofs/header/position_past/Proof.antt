-- Each step of the sum is exact and fits.
use Rattle.std.proofs.Common.{◌<◌, ℤ, ap, ◌∙◌, arith, to_z-of_z, w32, SFits, to_z, rules}
use mir.Facts.{sfits_to_z}
use Rattle.model.specs.LogBufferDescriptor.{id_minus}
use Rattle.model.specs.TermReader.{alignℤ}
use Rattle.logbuffer.proofs.Past.{here-asks, past-asks, past-lands}
use Rattle.logbuffer.proofs.header.position_past.Statement.{statement}
use Rattle.logbuffer.proofs.header.position_past.Tie as tie

module _ (c : tie.After-term_begin-begin) where
  abbrev s : tie.Start
  s = c.before

  abbrev count : ℤ
  count = to_z w32 (id_minus s.args.id s.args.initial)

  count_fits : SFits w32 count
  count_fits = let l : id_minus s.args.id s.args.initial < 4294967296 = omega arith in sfits_to_z {n = id_minus s.args.id s.args.initial} (record { fits = l })

add-result : tie.Need-overflow_add-result
add-result c = here-asks (count c) c.term_begin-begin.result (s c).args.bits (s c).args.at (s c).args.length (count_fits c) (omega arith) c.term_begin-begin.ensures (omega arith) (s c).ranges.length

add-result-2 : tie.Need-overflow_add-result-2
add-result-2 c =
    let t = c in
    past-asks (count c.before) t.term_begin-begin.result (s c.before).args.bits (s c.before).args.at (s c.before).args.length (count_fits c.before) (omega arith) t.term_begin-begin.ensures (omega arith) (s c.before).ranges.length c.aligned_length.result (c.aligned_length.ensures ∙ ap alignℤ (to_z-of_z (s c.before).ranges.length))

returns : tie.Need-returns
returns c =
    let t = c in
    past-lands (count c.before) t.term_begin-begin.result (s c.before).args.bits (s c.before).args.at (s c.before).args.length (count_fits c.before) (omega arith) t.term_begin-begin.ensures (omega arith) (s c.before).ranges.length c.aligned_length.result (c.aligned_length.ensures ∙ ap alignℤ (to_z-of_z (s c.before).ranges.length))

pub position_past_spec : {M : Type 1} → statement M
position_past_spec =
    tie.close
    (tie.spec
    (search rules)
    (search rules)
    add-result
    (search rules)
    add-result-2
    returns)
