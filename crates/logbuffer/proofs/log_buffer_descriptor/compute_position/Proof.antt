-- The sum fits 64 bits: the count has 32, and the shift is at most 30.
use Rattle.std.specs.Prelude.{Ok}
use Rattle.std.proofs.Common.{◌≡◌, ℕ, ◌^◌, ◌<◌, ℤ, pos, ◌*ℤ◌, ap, ◌∙◌, ap₂, arith, to_z-of_z, w32, SFits, to_z, rules, le-ltb, lt-ltb}
use mir.Facts.{sfits_to_z}
use Rattle.model.specs.Bytes.{word}
use Rattle.model.specs.LogBufferDescriptor.{id_minus, compute_position}
use Rattle.logbuffer.proofs.Past.{here-asks, here-lands}
use Rattle.logbuffer.proofs.log_buffer_descriptor.compute_position.Statement.{statement}
use Rattle.logbuffer.proofs.log_buffer_descriptor.compute_position.Tie as tie

returns : tie.Need-returns-then-bits-gt30
unfolding compute_position
returns c = simp (lt-ltb 30 c.args.bits c.if-bits-gt30.true)

module _ (c : tie.After-term_begin-begin) where
  abbrev s : tie.Start
  s = c.before.before.before.before

  abbrev count : ℤ
  count = to_z w32 (id_minus (word s.args.term_id) (word s.args.initial))

  count_fits : SFits w32 count
  count_fits = let l : id_minus (word s.args.term_id) (word s.args.initial) < 4294967296 = omega arith in sfits_to_z {n = id_minus (word s.args.term_id) (word s.args.initial)} (record { fits = l })

  begins : c.term_begin-begin.result ≡ count *ℤ pos (2 ^ s.args.bits)
  begins =
      c.term_begin-begin.ensures
      ∙ ap₂ (λ (i j : ℕ). to_z w32 (id_minus i j) *ℤ pos (2 ^ s.args.bits)) (c.word.ensures.0 ∙ ap word (to_z-of_z s.ranges.term_id)) (c.word-2.ensures.0 ∙ ap word (to_z-of_z s.ranges.initial))

add-t11 : tie.Need-overflow_add-result
add-t11 c = here-asks (count c) c.term_begin-begin.result (s c).args.bits (s c).args.offset (pos 0) (count_fits c) c.if-bits-gt30.false (begins c) (s c).ranges.offset.fits (record { sfits = omega arith })

returns-2 : tie.Need-returns
unfolding compute_position
returns-2 c =
    simp (le-ltb 30 (s c).args.bits c.if-bits-gt30.false)
    (ap Ok (here-lands (count c) c.term_begin-begin.result (s c).args.bits (s c).args.offset (pos 0) (count_fits c) c.if-bits-gt30.false (begins c) (s c).ranges.offset.fits (record { sfits = omega arith })))

pub compute_position_spec : {M : Type 1} → statement M
compute_position_spec =
    tie.close
    (tie.spec
    returns
    (search rules)
    (search rules)
    (λ c κs. (c.word.ensures.1, (c.word-2.ensures.1, c.if-bits-gt30.false)))
    (search rules)
    add-t11
    returns-2)
