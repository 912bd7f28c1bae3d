-- The record that would be made is judged; where it is sound the log is cleared.
use Rattle.std.specs.Prelude.{Ok, Err}
use Rattle.publication.proofs.OpenLaws.{open_no, open_done}
use Rattle.model.specs.Publication.{opened_record}
use Rattle.model.specs.LogBufferDescriptor.{reading, sound}
use Rattle.model.specs.declared.Reading.{Reading}
use Rattle.model.specs.declared.Error.TheVariants.{IllegalRecord}
use Rattle.model.specs.declared.LogRecord.{LogRecord}
use borrow.Author.Tests.{not-true, not-false}
use mir.Facts.{to_z-of_z}
use lib.ListN.{length}
use mathlib.Core.Bool.{Bool, true, false}
use mathlib.Core.Path.{◌≡◌, sym, ap, ◌∙◌}
use borrow.Author.Rules.{rules}
use Rattle.publication.proofs.opening.open_log.Statement.{statement}
use Rattle.publication.proofs.opening.open_log.Tie as tie

abbrev record_of : tie.Start → LogRecord
record_of s = opened_record s.args.term_length s.args.mtu_length s.args.initial_term_id s.args.session_id s.args.stream_id

made : (c : tie.After-opened-rec) → c.opened-rec.result ≡ record_of c.before.before
made c =
    let s = c in
    cc (c.opened-rec.ensures, to_z-of_z s.ranges.term_length, to_z-of_z s.ranges.mtu_length, to_z-of_z s.ranges.initial_term_id, to_z-of_z s.ranges.session_id, to_z-of_z s.ranges.stream_id)

judged : (c : tie.After-is_sound) (b : Bool) → c.is_sound.result ≡ b → sound (reading (record_of c.before.before.before.before)) (length c.args.log.now) ≡ b
judged c b h =
    ap (λ (v : Reading). sound v (length c.args.log.now)) (ap reading (sym (made c.before.before)) ∙ sym c.read_active-v.ensures) ∙ sym c.is_sound.ensures ∙ h

returns : tie.Need-returns-then-not-is_sound
returns c = let a = c.args in
    let d = open_no a.log.now a.term_length a.mtu_length a.initial_term_id a.session_id a.stream_id (judged c.before.before false (not-true _ c.if-not-is_sound.true-raw)) in
    (ap (λ (x : LogRecord). record { next = x; answer = Err IllegalRecord }) c.no_record.ensures ∙ d.0, d.1)

returns-2 : tie.Need-returns
returns-2 c = let a = c.args in
    let d = open_done a.log.now a.term_length a.mtu_length a.initial_term_id a.session_id a.stream_id (judged c.before.before.before.before.before true (not-false _ c.if-not-is_sound.false-raw)) in
    (ap (λ (x : LogRecord). record { next = x; answer = Ok tt }) (made c.before.before.before.before.before.before.before) ∙ d.0, c.clear.ensures ∙ d.1)

pub open_log_spec : {M : Type 1} → statement M
open_log_spec =
    tie.close
    (tie.spec
    (search rules)
    (search rules)
    (search rules)
    (search rules)
    returns
    (search rules)
    (search rules)
    returns-2)
