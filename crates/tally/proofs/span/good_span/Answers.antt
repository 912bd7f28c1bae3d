-- The order, how far apart the two are by their bits, and the term length.
use Rattle.std.proofs.Common.{◌≡◌, ℕ, ◌+◌, ◌-◌, ◌*◌, ◌%◌, false, leb, ap, ◌∙◌, arith, rules}
use lib.Signed.{le_z}
use Rattle.model.specs.Bytes.{word}
use Rattle.logbuffer.proofs.Signed.{word-by, long-by}
use Rattle.tally.proofs.Spans.{Ordered, span-back, span_below, span-long}
use Rattle.tally.proofs.span.good_span.Goals as goal
use Rattle.tally.proofs.span.good_span.Goals.{After-word-term}

-- what is known of the two behind the first test
abbrev apart : After-word-term → ℕ
apart c = (c.long.result + (18446744073709551616 - c.long-2.result)) % 18446744073709551616

ordered : (c : After-word-term) → let a = c.args in Ordered a.term_length a.from a.to (apart c)
ordered c =
    let a = c.args in
    let f = long-by a.from c.long-2.ensures.0 c.ranges.from in
    let t = long-by a.to c.long.ensures.0 c.ranges.to in
    record {
      order = search rules;
      fits-from = c.ranges.from;
      fits-to = c.ranges.to;
      small = omega arith;
      back = omega (arith, f, t, c.long-2.ensures.1, c.long.ensures.1);
    }

term_is : (c : After-word-term) → c.word-term.result ≡ word c.args.term_length
term_is c = word-by c.args.term_length c.word-term.ensures.0 c.ranges.term_length

pub returns-then-to-from : goal.returns-then-to-from
returns-then-to-from c = let a = c.args in let e : le_z a.from a.to ≡ false = search rules in span-back a.term_length a.from a.to e

pub returns-then-term-gt2147483647 : goal.returns-then-term-gt2147483647
returns-then-term-gt2147483647 c =
    let a = c.args in
    let at = (goal.at.returns-then-term-gt2147483647 c).After-word-term in
    span_below a.term_length a.from a.to _ (ordered at) c.ranges.term_length (omega (arith, term_is at, c.if-term-gt2147483647.true))

pub returns : goal.returns
returns c =
    let a = c.args in
    let at = (goal.at.returns c).After-word-term in
    ap (λ (x : ℕ). leb (apart at) (3 * x)) (term_is at)
    ∙ span-long a.term_length a.from a.to (apart at) (ordered at) c.ranges.term_length (omega (arith, term_is at, c.if-term-gt2147483647.false))
