-- Each field by the index where it lies.
use Rattle.std.proofs.Common.{◌≡◌, ℕ, ◌^◌, drop, ◌+ℤ◌, sym, ap, ◌∙◌, arith, get_or-drop, drop-drop, w32, to_z, of_z, rules}
use Rattle.model.specs.DataFrameHeader.{header_at}
use Rattle.model.specs.Bytes.{u16, u32, u64}
use Rattle.model.specs.LogBufferDescriptor.{position_of}
use Rattle.model.specs.TermReader.{alignℤ}
use Rattle.logbuffer.proofs.Shifts.{shifted, bits-high}
use Rattle.logbuffer.proofs.HeaderLaws.{field32, field64, past-field, same-fields}
use Rattle.logbuffer.proofs.header.fields_at.Statement.{statement}
use Rattle.logbuffer.proofs.header.fields_at.Tie as tie

-- the bits to shift are those of the term
term_is : (c : tie.After-position_bits_to_shift) → 2 ^ c.position_bits_to_shift.result ≡ c.args.v.term
term_is c = let s = c in ap (λ (b : ℕ). 2 ^ b) c.position_bits_to_shift.ensures ∙ shifted s.args.v.term s.requires.1.1.0 s.requires.1.1.1.1

position-past-requires : tie.Need-position_past-position-requires
position-past-requires c κs =
    let s = c in
    (omega arith, (s.requires.1.0, (omega (arith, bits-high s.args.v.term s.requires.1.1.0 s.requires.1.1.1.1, c.position_bits_to_shift.ensures), s.requires.1.1.1.0)))

returns : tie.Need-returns
returns c =
    let a = c.args in
    let t = c.word4-term_id.ensures.0 ∙ ap u32 (sym (drop-drop 20 a.index a.log.now)) in
    let n = (field32 c.to_i32-frame_length.result c.word4.result _ c.to_i32-frame_length.ensures c.word4.ensures.1 c.word4.ensures.0) in
    same-fields a.v a.at (header_at (drop a.index a.log.now)) _ _ _ _ _ _ _ _ _ _
    n
    (sym (get_or-drop a.index a.log.now 4 0))
    (sym (get_or-drop a.index a.log.now 5 0))
    (c.half.ensures.0 ∙ ap u16 (sym (drop-drop 6 a.index a.log.now)))
    (field32 c.to_i32.result c.word4-2.result _ c.to_i32.ensures c.word4-2.ensures.1 (c.word4-2.ensures.0 ∙ ap u32 (sym (drop-drop 8 a.index a.log.now))))
    (field32 c.to_i32-2.result c.word4-3.result _ c.to_i32-2.ensures c.word4-3.ensures.1 (c.word4-3.ensures.0 ∙ ap u32 (sym (drop-drop 12 a.index a.log.now))))
    (field32 c.to_i32-3.result c.word4-4.result _ c.to_i32-3.ensures c.word4-4.ensures.1 (c.word4-4.ensures.0 ∙ ap u32 (sym (drop-drop 16 a.index a.log.now))))
    (field32 c.to_i32-4.result c.word4-term_id.result _ c.to_i32-4.ensures c.word4-term_id.ensures.1 (c.word4-term_id.ensures.0 ∙ ap u32 (sym (drop-drop 20 a.index a.log.now))))
    (field64 c.to_i64.result c.long8.result _ c.to_i64.ensures (record { fits = c.long8.type_inv }) (c.long8.ensures ∙ ap u64 (sym (drop-drop 24 a.index a.log.now))))
    (past-field a.v a.at c.word4-term_id.result (u32 (drop 20 (drop a.index a.log.now))) (u32 (drop a.index a.log.now)) (to_z w32 (of_z w32 c.to_i32-frame_length.result)) c.position_past-position.result (c.position_past-position.ensures ∙ ap (λ (t : ℕ). position_of c.word4-term_id.result a.v.initial t a.at +ℤ alignℤ (to_z w32 (of_z w32 c.to_i32-frame_length.result))) (term_is c.before.before.before.before.before.before.before.before.before.before.before.before.before)) (record { sfits = c.position_past-position.type_inv }) t n)

pub fields_at_spec : {M : Type 1} → statement M
fields_at_spec =
    tie.close
    (tie.spec
    (λ c κs. omega arith)
    (search rules)
    (λ c. omega arith)
    (λ c κs. omega arith)
    (search rules)
    (search rules)
    position-past-requires
    (λ c. omega arith)
    (search rules)
    (λ c. omega arith)
    (search rules)
    (λ c. omega arith)
    (λ c κs. omega arith)
    (search rules)
    (λ c. omega arith)
    (λ c κs. omega arith)
    (search rules)
    (λ c. omega arith)
    (λ c κs. omega arith)
    (search rules)
    (λ c. omega arith)
    (λ c κs. omega arith)
    (search rules)
    (λ c κs. c.word4-term_id.ensures.1)
    (λ c. omega arith)
    (λ c κs. omega arith)
    (search rules)
    returns)
