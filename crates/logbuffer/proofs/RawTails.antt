-- The upper half of a raw tail, and the numbers read with it.
use Rattle.std.proofs.Common.{◌≡◌, ℕ, ◌/◌, ◌<◌, ℤ, refl, ap, ◌∙◌, arith, w32, w64, Fits, SFits, to_z, of_z}
use mir.Facts.{of_z-to_z, Fits-of_z}
use Rattle.model.specs.declared.LogRecord.{LogRecord}
use Rattle.model.specs.LogBufferDescriptor.{reading_of, tail_of}
use Rattle.logbuffer.specs.Reads.{reading_with}

-- the record's numbers with a partition's own tail
pub reading-with : (r : LogRecord) (k : ℕ) → reading_with r (tail_of r k) ≡ reading_of r k
unfolding reading_with reading_of
reading-with r k = refl

-- the bits of a term id are the upper half of its tail's
pub id-bits : (i v : ℤ) → SFits w64 v → i ≡ to_z w32 (of_z w64 v / 4294967296) → of_z w32 i ≡ of_z w64 v / 4294967296
id-bits i v f e =
    let small : of_z w64 v / 4294967296 < 4294967296 = omega (arith, (Fits-of_z f).fits) in
    let fit : Fits w32 (of_z w64 v / 4294967296) = record { fits = small } in
    ap (of_z w32) e ∙ of_z-to_z fit
