-- Where the frame fits it lies inside its partition, and so in the log.
use Rattle.std.proofs.Common.{◌≡◌, ℕ, ◌*◌, true, [], ◌∷◌, length, sym, ap, ◌∙◌, arith, rules}
use Rattle.model.specs.TermAppender.{fragment, written}
use Rattle.model.proofs.Choice.{cond-true}
use Rattle.logbuffer.specs.Ways.{frame_fits}
use Rattle.logbuffer.proofs.Signed.{long-by}
use Rattle.logbuffer.proofs.Appending.{one_written}
use Rattle.logbuffer.proofs.Ways.{fits-true}
use Rattle.logbuffer.proofs.term_appender.append_fit.Goals as goal

pub overflow_mul-partition : goal.overflow_mul-partition
overflow_mul-partition c = let f = fits-true c.args.numbers (length c.args.log.now) c.args.partition (length c.args.message.now) (search rules) in omega (arith, f.inside, f.term-high)

pub overflow_add-partition : goal.overflow_add-partition
overflow_add-partition c = let f = fits-true c.args.numbers (length c.args.log.now) c.args.partition (length c.args.message.now) (search rules) in omega (arith, f.inside, f.room, f.term-high)

pub write_fragment-requires : goal.write_fragment-requires
write_fragment-requires c =
    let f = fits-true c.args.numbers (length c.args.log.now) c.args.partition (length c.args.message.now) (search rules) in
    (omega (arith, f.room, f.inside), (f.id-in, (omega arith, omega (arith, f.room, f.term-high))))

pub overflow_add-result-3 : goal.overflow_add-result-3
overflow_add-result-3 c = let f = fits-true c.args.numbers (length c.args.log.now) c.args.partition (length c.args.message.now) (search rules) in omega (arith, f.room, f.term-high)

pub returns-clause-log_after : goal.returns-clause-log_after
returns-clause-log_after c =
    let a = c.args in
    let is : frame_fits a.numbers (length a.log.now) a.partition (length a.message.now) ≡ true = search rules in
    one_written a.numbers a.log.now _ (a.partition * a.numbers.term) a.numbers.offset _ c.write_fragment.ensures
    ∙ ap (λ (z : ℕ). written a.numbers a.log.now (a.partition * a.numbers.term) a.numbers.offset (fragment 192 z a.message.now ∷ [])) (long-by a.reserved_value c.long.ensures.0 c.ranges.reserved_value)
    ∙ sym (cond-true _ _ _ is)
