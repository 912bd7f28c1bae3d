-- The call's promise: filled where it was done, as it was where it was refused.
use Rattle.std.specs.Prelude.{Ok, Err}
use mathlib.Core.Path.{◌≡◌, sym, ap, ◌∙◌}
use mathlib.Core.List.{List}
use lib.IntN.{ℤ, pos}
use mir.Facts.{to_z-of_z}
use Rattle.model.specs.declared.Error.{Error}
use Rattle.model.specs.declared.RecordReply.{RecordReply}
use Rattle.model.specs.Errors.{number_of}
use Rattle.model.specs.Publication.{open_of, open_bytes}
use Rattle.capi.specs.Words.{record_filled, opened_by, opened_out}
use Rattle.capi.specs.Replies.{outcome_number}
use Rattle.capi.proofs.Promised.{promised, of-5}
use borrow.Author.Rules.{rules}
use Rattle.capi.proofs.writing.logbuffer_open.Statement.{statement}
use Rattle.capi.proofs.writing.logbuffer_open.Tie as tie

-- what an answer, met in an arm, says of the call's reply
done : (w : List ℤ) (o p : RecordReply) → o ≡ p → o.answer ≡ Ok tt → (pos 0 ≡ outcome_number p.answer) × (record_filled w o.next ≡ opened_out w p)
done w o p q e =
    (ap outcome_number (sym e) ∙ ap (λ (x : RecordReply). outcome_number x.answer) q, ap (opened_by w o.next) (sym e) ∙ ap (opened_out w) q)

refused : (w : List ℤ) (o p : RecordReply) (r : Error) → o ≡ p → o.answer ≡ Err r → (number_of r ≡ outcome_number p.answer) × (w ≡ opened_out w p)
refused w o p r q e =
    (ap outcome_number (sym e) ∙ ap (λ (x : RecordReply). outcome_number x.answer) q, ap (opened_by w o.next) (sym e) ∙ ap (opened_out w) q)

returns : tie.Need-returns-in-Ok
returns c =
    let s = c in
    let a = s.args in
    let f = c.open_log-o.ensures in
    let q0 = of-5 (λ (t : ℤ) (m : ℤ) (i : ℤ) (n : ℤ) (k : ℤ). open_of a.log.now t m i n k) f.0 (to_z-of_z s.ranges.term_length) (to_z-of_z s.ranges.mtu_length) (to_z-of_z s.ranges.initial_term_id) (to_z-of_z s.ranges.session_id) (to_z-of_z s.ranges.stream_id) in
    let q1 = of-5 (λ (t : ℤ) (m : ℤ) (i : ℤ) (n : ℤ) (k : ℤ). open_bytes a.log.now t m i n k) f.1 (to_z-of_z s.ranges.term_length) (to_z-of_z s.ranges.mtu_length) (to_z-of_z s.ranges.initial_term_id) (to_z-of_z s.ranges.session_id) (to_z-of_z s.ranges.stream_id) in
    let d = done a.rec.now _ _ q0 c.in-Ok.is in
    (d.0, (c.record_filled.ensures ∙ d.1, q1))

returns-2 : tie.Need-returns-in-Err
returns-2 c =
    let s = c in
    let a = s.args in
    let f = c.open_log-o.ensures in
    let q0 = of-5 (λ (t : ℤ) (m : ℤ) (i : ℤ) (n : ℤ) (k : ℤ). open_of a.log.now t m i n k) f.0 (to_z-of_z s.ranges.term_length) (to_z-of_z s.ranges.mtu_length) (to_z-of_z s.ranges.initial_term_id) (to_z-of_z s.ranges.session_id) (to_z-of_z s.ranges.stream_id) in
    let q1 = of-5 (λ (t : ℤ) (m : ℤ) (i : ℤ) (n : ℤ) (k : ℤ). open_bytes a.log.now t m i n k) f.1 (to_z-of_z s.ranges.term_length) (to_z-of_z s.ranges.mtu_length) (to_z-of_z s.ranges.initial_term_id) (to_z-of_z s.ranges.session_id) (to_z-of_z s.ranges.stream_id) in
    let d = refused a.rec.now _ _ _ q0 c.in-Err.is in
    (promised (c.number.ensures ∙ d.0) (search rules), (d.1, q1))

pub logbuffer_open_spec : {M : Type 1} → statement M
logbuffer_open_spec =
    tie.close (tie.spec (search rules) (search rules) (search rules) (search rules) (search rules) (search rules) returns (search rules) returns-2)
