-- A raw tail taken apart and put together again, and what a record's changes do to what is read of it.
use mathlib.Core.Path.{◌≡◌, ap, ◌∙◌}
use Prim.Native.Nat.{ℕ, ◌+◌, ◌*◌, ◌/◌, ◌%◌, ◌<◌}
use native.Mathlib.Omega.{arith}
use lib.ListN.{length}
use lib.Seq.{get_or-set_same}
use lib.IntN.{ℤ, pos}
use mir.Syntax.{w64}
use mir.Val.{SFits, to_z}
use mir.Facts.{of_z-to_z, to_z-of_z, Fits-of_z}
use Rattle.model.specs.declared.LogRecord.{LogRecord}
use Rattle.model.specs.Bytes.{long}
use Rattle.model.specs.LogBufferDescriptor.{id_bits, id_of, offset_of, raw_of, tail_of, changed, with_tail}

raw-long : (id offset : ℕ) → offset < 4294967296 → long (raw_of id offset) ≡ id_bits id * 4294967296 + offset
unfolding raw_of
raw-long id offset h = of_z-to_z {w = w64} (record { fits = omega arith })

-- what was put together comes apart
pub raw-bits : (id offset : ℕ) → offset < 4294967296 → id_of (raw_of id offset) ≡ id_bits id
raw-bits id offset h = ap (λ (n : ℕ). id_bits (n / 4294967296)) (raw-long id offset h) ∙ omega arith

pub raw-id : (id offset : ℕ) → id < 4294967296 → offset < 4294967296 → id_of (raw_of id offset) ≡ id
raw-id id offset k h = raw-bits id offset h ∙ omega arith

pub raw-offset : (id offset : ℕ) → offset < 4294967296 → offset_of (raw_of id offset) ≡ offset
raw-offset id offset h = ap (λ (n : ℕ). n % 4294967296) (raw-long id offset h) ∙ omega arith

-- and what was taken apart is put together
pub raw-back : (raw : ℤ) → SFits w64 raw → raw_of (id_of raw) (offset_of raw) ≡ raw
unfolding raw_of
raw-back raw f =
    let small : long raw < 18446744073709551616 = fits-long raw f in
    let twice : id_bits (id_bits (long raw / 4294967296)) ≡ long raw / 4294967296 = omega arith in
    let whole : id_bits (id_bits (long raw / 4294967296)) * 4294967296 + long raw % 4294967296 ≡ long raw = omega arith in
    ap (to_z w64) whole ∙ to_z-of_z f
  where
    fits-long : (z : ℤ) → SFits w64 z → long z < 18446744073709551616
    fits-long z g = (Fits-of_z g).fits

-- ---- a tail moved

module _ (r : LogRecord) (k id offset : ℕ) where
  pub moved-tail : k < length r.tails → tail_of (with_tail r k id offset) k ≡ raw_of id offset
  unfolding with_tail changed
  moved-tail inside = get_or-set_same r.tails k (raw_of id offset) (pos 0) inside
