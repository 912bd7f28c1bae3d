-- The tests pick the case.
use Rattle.std.proofs.Common.{◌≡◌, ℕ, ◌<◌, ap, ◌∙◌, arith, w32, of_z, rules}
use Rattle.model.specs.FrameDescriptor.{frame_by, frame_length_of}
use Rattle.logbuffer.proofs.Signed.{word-by}
use Rattle.logbuffer.proofs.Inside.{no_length, a-length, by-short, by-long, by-padding, by-data}
use Rattle.logbuffer.proofs.frame_descriptor.frame_by.Statement.{statement}
use Rattle.logbuffer.proofs.frame_descriptor.frame_by.Tie as tie

-- the length's bits, of a length above zero
is : (c : tie.After-word-n) → c.word-n.result ≡ of_z w32 c.args.length
is c = word-by _ c.word-n.ensures.0 c.ranges.length

some : (c : tie.After-word-n) → (0 < c.word-n.result) × (c.word-n.result < 2147483648)
some c = let l = a-length _ c.ranges.length c.if-length-lt1.false in let e = is c in (omega (arith, l), omega (arith, l))

told : (c : tie.After-word-n) → (let a = c.args in frame_by a.kind a.room (frame_length_of c.word-n.result) ≡ frame_by a.kind a.room (frame_length_of (of_z w32 a.length)))
told c = let a = c.args in ap (λ (n : ℕ). frame_by a.kind a.room (frame_length_of n)) (is c)

returns : tie.Need-returns-then-length-lt1
returns c = no_length _ _ _ c.ranges.length c.if-length-lt1.true

returns-2 : tie.Need-returns-then-n-lt-HEADER_LENGTH
returns-2 c = by-short _ _ _ (some c.before) c.if-n-lt-HEADER_LENGTH.true ∙ told c.before

returns-3 : tie.Need-returns-then-room-n
returns-3 c = by-long _ _ _ (some c.before.before) c.if-n-lt-HEADER_LENGTH.false c.if-room-n.true ∙ told c.before.before

returns-4 : tie.Need-returns-then-kind-eq-HDR_TYPE_PAD
returns-4 c = by-padding _ _ _ (some c.before.before.before) c.if-n-lt-HEADER_LENGTH.false c.if-room-n.false c.if-kind-eq-HDR_TYPE_PAD.true ∙ told c.before.before.before

returns-5 : tie.Need-returns
returns-5 c = by-data _ _ _ (some c.before.before.before) c.if-n-lt-HEADER_LENGTH.false c.if-room-n.false c.if-kind-eq-HDR_TYPE_PAD.false ∙ told c.before.before.before

pub frame_by_spec : {M : Type 1} → statement M
frame_by_spec =
    tie.close
    (tie.spec
    returns
    (search rules)
    returns-2
    (λ c. omega (arith, some c.before))
    (λ c. omega (arith, some c.before))
    returns-3
    returns-4
    returns-5)
