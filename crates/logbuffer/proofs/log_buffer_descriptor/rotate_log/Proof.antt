-- By the verdict, and by whether the count is the one given.
use Rattle.std.specs.Prelude.{Result, Ok, ⊤}
use Rattle.model.specs.declared.Error.{Error}
use Rattle.std.proofs.Common.{◌≡◌, ℕ, ◌+◌, ◌<◌, sym, ap, ◌∙◌, arith, to_z-of_z, w32, of_z, rules}
use Rattle.model.specs.declared.LogRecord.{LogRecord}
use Rattle.model.specs.declared.Reading.{Reading}
use Rattle.model.specs.Bytes.{word}
use Rattle.model.specs.LogBufferDescriptor.{reading_of, with_count, rotate_by, rotate_log_of}
use Rattle.model.proofs.Rotate.{rotate-passed, rotate-is, rotate-risen, rotate-kept}
use Rattle.logbuffer.proofs.log_buffer_descriptor.rotate_log.Statement.{statement}
use Rattle.logbuffer.proofs.log_buffer_descriptor.rotate_log.Tie as tie

-- what the code has read, where the verdict is known
module _ (c : tie.After-rotate_verdict) where
  abbrev s : tie.Start
  s = c.before.before.before.before

  abbrev k : ℕ
  k = c.word-given.result

  abbrev t : ℕ
  t = c.word-term.result

  given_is : k ≡ word s.args.count
  given_is = c.word-given.ensures.0 ∙ ap (of_z w32) (to_z-of_z s.ranges.count)

  term_is : t ≡ word s.args.id
  term_is = c.word-term.ensures.0 ∙ ap (of_z w32) (to_z-of_z s.ranges.id)

  count-is : c.read_active-v.result.count ≡ word s.args.rec.active_term_count
  unfolding reading_of
  count-is = ap (λ (v : Reading). v.count) c.read_active-v.ensures

  law : (x : Result ⊤ Error) → c.rotate_verdict.result ≡ x → rotate_by s.args.rec k t x ≡ rotate_log_of s.args.rec s.args.count s.args.id
  law x e = rotate-is s.args.rec s.args.count s.args.id k t c.read_active-v.result x given_is term_is c.read_active-v.ensures (sym e ∙ c.rotate_verdict.ensures)

  low : c.rotate_verdict.result ≡ Ok tt → k < 2147483647
  low e = rotate-passed c.read_active-v.result k (sym c.rotate_verdict.ensures ∙ e)

next-tail-requires : tie.Need-next_tail-next-requires
next-tail-requires c κs = let h = low c.before c.in-Ok.is in omega arith

with-count-requires : tie.Need-with_count-risen-requires
with-count-requires c κs = let h = low c.before.before.before.before c.in-Ok.is in omega arith

returns : tie.Need-returns-then-v-given
returns c = let j = c.before.before.before.before.before in
    rotate-risen (s j).args.rec c.with_count-risen.result (k j) (t j) (sym (count-is j) ∙ c.if-v-given.true) (c.with_count-risen.ensures ∙ ap (λ (x : LogRecord). with_count x (k j + 1)) c.next_tail-next.ensures)
    ∙ law j (Ok tt) c.in-Ok.is

returns-2 : tie.Need-returns-in-Err
returns-2 c = law c.before _ c.in-Err.is

returns-3 : tie.Need-returns-else-v-given
returns-3 c = let j = c.before.before.before.before in
    rotate-kept (s j).args.rec c.next_tail-next.result (k j) (t j) (λ h. c.if-v-given.false (count-is j ∙ h)) c.next_tail-next.ensures ∙ law j (Ok tt) c.in-Ok.is

pub rotate_log_spec : {M : Type 1} → statement M
rotate_log_spec =
    tie.close
    (tie.spec
    (search rules)
    (search rules)
    (search rules)
    (search rules)
    (search rules)
    (search rules)
    next-tail-requires
    (search rules)
    with-count-requires
    returns
    returns-2
    returns-3)
