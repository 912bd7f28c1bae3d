-- A test that fails contradicts what a sound reading says; where none fails, the last test is the answer. Two numbers asked at once are asked by the bits of
-- both.
use Rattle.std.proofs.Common.{◌≡◌, ◌*◌, ◌%◌, leb, sym, ◌∙◌, arith, le-leb, leb-false, leb-true}
use lib.Bits.{bit_or}
use Rattle.model.proofs.Both.{test}
use Rattle.model.proofs.SoundRecord.{not-sound-record, sound-record-by}
use Rattle.logbuffer.proofs.Eithers.{left-most, right-most, both_below, left-multiple, right-multiple, both-multiples}
use Rattle.logbuffer.proofs.log_buffer_descriptor.is_sound_record.Statement.{statement}
use Rattle.logbuffer.proofs.log_buffer_descriptor.is_sound_record.Tie as tie

mul-result : tie.Need-overflow_mul-result
mul-result c = omega (arith, c.if-numbers-gt-TERM_MAX_LENGTH.false)

returns-10 : tie.Need-returns
returns-10 c =
    let v = c.args.numbers in
    let most = c.if-numbers-gt2147483647.false in
    let multiple : bit_or v.mtu v.slowest % 32 ≡ 0 = omega (arith, c.if-numbers-ne0.false) in
    test (leb v.slowest (v.term * 2147483648))
    (λ t. t ∙ sym (le-leb v.offset 2147483647 (omega (arith, right-most v.count v.offset, most)))
    ∙ sound-record-by v c.if-numbers-lt-TERM_MIN_LENGTH.false c.if-numbers-gt-TERM_MAX_LENGTH.false (omega (arith, c.if-numbers-ne1.false)) c.if-numbers-lt64.false c.if-numbers-gt65504.false (left-multiple v.mtu v.slowest multiple) (omega (arith, left-most v.count v.offset, most)) c.if-numbers-gt4611686018427387904.false (leb-true v.slowest (v.term * 2147483648) t) (right-multiple v.mtu v.slowest multiple) (omega (arith, c.if-numbers-ne0-2.false)))
    (λ f. f ∙ not-sound-record v (λ s. omega (arith, leb-false v.slowest (v.term * 2147483648) f, s.slowest-high)))

pub is_sound_record_spec : {M : Type 1} → statement M
is_sound_record_spec =
    tie.close
    (tie.spec
    (λ c. not-sound-record _ (λ s. omega (arith, both_below _ _ s.count-high s.offset-high, c.if-numbers-gt2147483647.true)))
    (λ c. not-sound-record _ (λ s. omega arith))
    (λ c. not-sound-record _ (λ s. omega arith))
    (λ c. not-sound-record _ (λ s. omega arith))
    (λ c. not-sound-record _ (λ s. omega arith))
    (λ c. not-sound-record _ (λ s. omega arith))
    (λ c. not-sound-record _ (λ s. omega arith))
    (λ c. not-sound-record _ (λ s. omega (arith, both-multiples _ _ s.mtu-32 s.slowest-32, c.if-numbers-ne0.true)))
    (λ c. not-sound-record _ (λ s. omega arith))
    mul-result
    returns-10)
