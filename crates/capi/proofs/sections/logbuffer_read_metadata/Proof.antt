-- The call's promise: filled where it was done, as it was where it was refused.
use Rattle.std.specs.Prelude.{Ok, Err}
use mathlib.Core.Path.{◌≡◌, sym, ap, ◌∙◌}
use mathlib.Core.List.{List}
use lib.IntN.{ℤ, pos}
use Rattle.model.specs.declared.LogRecord.{LogRecord}
use Rattle.metadata.specs.declared.Beside.{Beside}
use Rattle.metadata.specs.declared.MetadataError.{MetadataError}
use Rattle.metadata.specs.declared.MetadataReply.{MetadataReply}
use Rattle.metadata.specs.Metadata.{beside_of}
use Rattle.metadata.specs.Calls.{error_number, answer_number, read_of}
use Rattle.capi.specs.Words.{record_filled}
use Rattle.capi.specs.Sections.{read_by, read_out}
use Rattle.capi.proofs.Promised.{promised, of-1}
use borrow.Author.Rules.{rules}
use Rattle.capi.proofs.sections.logbuffer_read_metadata.Statement.{statement}
use Rattle.capi.proofs.sections.logbuffer_read_metadata.Tie as tie

-- what an answer, met in an arm, says of the call's reply
done : (w : List ℤ) (o p : MetadataReply) → o ≡ p → o.answer ≡ Ok tt → (pos 0 ≡ answer_number p.answer) × (record_filled w o.next ≡ read_out w p)
done w o p q e = (ap answer_number (sym e) ∙ ap (λ (x : MetadataReply). answer_number x.answer) q, ap (read_by w o.next) (sym e) ∙ ap (read_out w) q)

refused : (w : List ℤ) (o p : MetadataReply) (r : MetadataError) → o ≡ p → o.answer ≡ Err r → (error_number r ≡ answer_number p.answer) × (w ≡ read_out w p)
refused w o p r q e = (ap answer_number (sym e) ∙ ap (λ (x : MetadataReply). answer_number x.answer) q, ap (read_by w o.next) (sym e) ∙ ap (read_out w) q)

returns : tie.Need-returns-in-Ok
returns c =
    let a = c.args in
    let q = of-1 (read_of a.bytes.now) c.read_metadata-o.ensures (of-1 beside_of c.beside_of-beside.ensures c.record_in.ensures) in
    let d = done a.rec.now _ _ q c.in-Ok.is in
    (d.0, c.record_filled.ensures ∙ d.1)

returns-2 : tie.Need-returns-in-Err
returns-2 c =
    let a = c.args in
    let q = of-1 (read_of a.bytes.now) c.read_metadata-o.ensures (of-1 beside_of c.beside_of-beside.ensures c.record_in.ensures) in
    let d = refused a.rec.now _ _ _ q c.in-Err.is in
    (promised (c.error_number.ensures ∙ d.0) (search rules), d.1)

pub logbuffer_read_metadata_spec : {M : Type 1} → statement M
logbuffer_read_metadata_spec =
    tie.close (tie.spec (search rules) (search rules) (search rules) (search rules) (search rules) (search rules) (search rules) returns returns-2)
