-- By the next partition's term id; its mark goes on both ways.
use Rattle.std.proofs.Common.{◌≡◌, ℕ, ◌+◌, ◌%◌, ◌<◌, false, sym, ap, ◌∙◌, subst, rules}
use Rattle.model.specs.declared.LogRecord.{LogRecord}
use Rattle.model.specs.declared.Reading.{Reading}
use Rattle.model.specs.LogBufferDescriptor.{id_plus, with_tail, with_mark, reading_of}
use Rattle.model.proofs.Sound.{id-small}
use Rattle.model.proofs.Rotate.{next-set, next-kept}
use Rattle.logbuffer.proofs.log_buffer_descriptor.next_tail.Statement.{statement}
use Rattle.logbuffer.proofs.log_buffer_descriptor.next_tail.Tie as tie

cast-id-plus : tie.Need-overflow_cast-v
cast-id-plus c = record { fits = subst (λ (x : Reading). x.id < 4294967296) (sym c.read-v.ensures) (id-small _ _) }

-- two terms after the next partition's id
two-on : (c : tie.After-id_plus) → (let a = c.args in c.id_plus.result ≡ id_plus (reading_of a.rec ((a.count + 1) % 3)).id 2)
two-on c = c.id_plus.ensures ∙ ap (λ (x : Reading). id_plus x.id 2) c.read-v.ensures

returns : tie.Need-returns-then-id_plus-id
returns c =
    let a = c.args in
    c.with_mark.ensures
    ∙ ap (λ (x : LogRecord). with_mark x ((a.count + 1) % 3) false)
    (c.with_tail-next.ensures ∙ ap (λ (i : ℕ). with_tail a.rec ((a.count + 1) % 3) i 0) c.id_plus-then-id_plus-id.ensures)
    ∙ next-set a.rec a.count a.id (sym (two-on c.before.before.before.before) ∙ c.if-id_plus-id.true)

returns-2 : tie.Need-returns
returns-2 c =
    let a = c.args in
    c.with_mark-2.ensures ∙ next-kept a.rec a.count a.id (λ h. c.if-id_plus-id.false (two-on c.before.before ∙ h))

pub next_tail_spec : {M : Type 1} → statement M
next_tail_spec =
    tie.close
    (tie.spec
    (search rules)
    (search rules)
    cast-id-plus
    (search rules)
    (search rules)
    (search rules)
    (search rules)
    (search rules)
    (search rules)
    (search rules)
    returns
    (search rules)
    returns-2)
