-- The answers of the two calls, row by row.
use Rattle.std.specs.Prelude.{Result, Ok, Err, ⊤}
use Rattle.metadata.specs.declared.MetadataError.{MetadataError}
use mathlib.Core.Path.{◌≡◌, sym, ap, ◌∙◌}
use Prim.Native.Nat.{ℕ}
use mathlib.Core.Bool.{Bool, true, false}
use mathlib.Core.List.{List}
use lib.Dec.{eqb, leb}
use lib.ListN.{length}
use Rattle.model.specs.declared.LogRecord.{LogRecord}
use Rattle.model.specs.declared.Reading.{Reading}
use Rattle.model.specs.LogBufferDescriptor.{reading, sound_record}
use Rattle.metadata.specs.declared.Beside.{Beside}
use Rattle.metadata.specs.declared.MetadataError.TheVariants.{IllegalArgument, IllegalRecord, IllegalMetadata}
use Rattle.metadata.specs.Metadata.{section, accepted, record_from}
use Rattle.metadata.specs.Calls.{rows, output_by, read_by, write_of, write_bytes, read_of}

pub row-1 : (good fit sound : Bool) → good ≡ false → rows good fit sound ≡ Err IllegalArgument
row-1 good fit sound g = rw g

pub row-25 : (good fit sound : Bool) → good ≡ true → fit ≡ false → rows good fit sound ≡ Err IllegalMetadata
row-25 good fit sound g f = rw (g, f)

pub row-2 : (good fit sound : Bool) → good ≡ true → fit ≡ true → sound ≡ false → rows good fit sound ≡ Err IllegalRecord
row-2 good fit sound g f s = rw (g, f, s)

pub no_row : (good fit sound : Bool) → good ≡ true → fit ≡ true → sound ≡ true → rows good fit sound ≡ Ok tt
no_row good fit sound g f s = rw (g, f, s)

-- what is answered, by the reading that the call took
pub write-by : (r : LogRecord) (out : List ℕ) (v : Reading) {a : Result ⊤ MetadataError} → v ≡ reading r → rows (leb (length out) 2147483647) (eqb (length out) 320) (sound_record v) ≡ a
    → (a ≡ write_of r (length out)) × (output_by a (section r) out ≡ write_bytes r out)
unfolding write_of write_bytes
write-by r out v {a} e h =
    let s = ap (λ (v : Reading). rows (leb (length out) 2147483647) (eqb (length out) 320) (sound_record v)) e in
    (sym h ∙ s, ap (λ (x : Result ⊤ MetadataError). output_by x (section r) out) (sym h ∙ s))

pub read-by : (s : List ℕ) (b : Beside) (x : LogRecord) (v : Reading) {a : Result ⊤ MetadataError} → x ≡ record_from s b → v ≡ reading x
    → rows (leb (length s) 2147483647) (accepted s) (sound_record v) ≡ a → read_by a x ≡ read_of s b
unfolding read_of
read-by s b x v {a} e q h =
    ap (λ (y : Result ⊤ MetadataError). read_by y x) (sym h ∙ ap (λ (v : Reading). rows (leb (length s) 2147483647) (accepted s) (sound_record v)) q)
    ∙ ap (λ (y : LogRecord). read_by (rows (leb (length s) 2147483647) (accepted s) (sound_record (reading y))) y) e
