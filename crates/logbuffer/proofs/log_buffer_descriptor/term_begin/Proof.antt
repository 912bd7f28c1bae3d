-- The count is a signed number of 32 bits, and shifted by at most 30 it fits.
use Rattle.std.proofs.Common.{◌≡◌, ◌*◌, ◌%◌, ◌^◌, ◌<◌, ℤ, ap, ◌∙◌, arith, pow_pos, w32, w64, SFits, to_z, of_z, rules}
use mir.Facts.{sfits_to_z, sfits_widen}
use Rattle.model.specs.LogBufferDescriptor.{id_minus}
use Rattle.logbuffer.proofs.Signed.{lands, asks}
use Rattle.logbuffer.proofs.Exact.{begin-near}
use Rattle.logbuffer.proofs.Shifts.{left_by}
use Rattle.logbuffer.proofs.log_buffer_descriptor.term_begin.Statement.{statement}
use Rattle.logbuffer.proofs.log_buffer_descriptor.term_begin.Tie as tie

module _ (c : tie.After-to_i32-count) where
  abbrev s : tie.Start
  s = c.before.before

  abbrev count : ℤ
  count = to_z w32 (id_minus s.args.id s.args.initial)

  count_fits : SFits w32 count
  count_fits = let l : id_minus s.args.id s.args.initial < 4294967296 = omega arith in sfits_to_z {n = id_minus s.args.id s.args.initial} (record { fits = l })

  count-is : c.to_i32-count.result ≡ count
  count-is = c.to_i32-count.ensures ∙ ap (to_z w32) c.id_minus.ensures

  same : to_z w32 (of_z w32 c.to_i32-count.result) ≡ count
  same = lands count-is count_fits

cast-result : tie.Need-overflow_cast-result
cast-result c = asks (same c) (sfits_widen tt (count_fits c))

returns : tie.Need-returns
returns c =
    let b = (s c).args.bits in
    ap (λ (x : ℤ). to_z w64 (of_z w64 x * 2 ^ b % 18446744073709551616)) (same c)
    ∙ left_by (count c) (2 ^ b) (pow_pos b) (omega (arith, begin-near (count c) (count_fits c) b (s c).requires.1.1))

pub term_begin_spec : {M : Type 1} → statement M
term_begin_spec =
    tie.close
    (tie.spec
    (λ c. omega arith)
    (λ c. omega arith)
    (search rules)
    (search rules)
    (search rules)
    cast-result
    (search rules)
    (search rules)
    returns)
