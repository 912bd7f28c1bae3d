-- Fields read back: the number that was written, and a header's fields (for any header whose fields have their widths).
use mathlib.Core.Path.{◌≡◌, refl, ◌∙◌}
use Prim.Native.Nat.{ℕ, ◌+◌, ◌*◌, ◌/◌, ◌%◌, ◌<◌}
use mathlib.Core.List.{List, [], ◌++◌, append_assoc}
use native.Mathlib.Omega.{arith}
use lib.ListN.{length}
use lib.Pow.{shr-shr}
use Rattle.model.specs.declared.Reading.{Reading}
use Rattle.model.specs.Bytes.{le2, le4, le8, u16, u32, u64}
use Rattle.model.specs.DataFrameHeader.{Header, header24, header_bytes, header_at}
use Rattle.model.specs.TermAppender.{header, fragment, fragment_bytes}

-- ---- a field at the beginning of a list

pub u16-le2 : (n : ℕ) (s : List ℕ) → n < 65536 → u16 (le2 n ++ s) ≡ n
unfolding u16 le2
u16-le2 n s h = omega arith

-- four bytes hold a number's remainder
pub u32-low : (n : ℕ) (s : List ℕ) → u32 (le4 n ++ s) ≡ n % 4294967296
unfolding u32 le4
u32-low n s =
    let e1 : n / 256 ≡ 256 * (n / 65536) + n / 256 % 256 = omega (arith, shr-shr n 8 8) in
    let e2 : n / 65536 ≡ 256 * (n / 16777216) + n / 65536 % 256 = omega (arith, shr-shr n 16 8) in
    let e3 : n / 16777216 ≡ 256 * (n / 4294967296) + n / 16777216 % 256 = omega (arith, shr-shr n 24 8) in
    omega arith

pub u32-le4 : (n : ℕ) (s : List ℕ) → n < 4294967296 → u32 (le4 n ++ s) ≡ n
u32-le4 n s h = u32-low n s ∙ omega arith

pub u64-le8 : (n : ℕ) (s : List ℕ) → n < 18446744073709551616 → u64 (le8 n ++ s) ≡ n
unfolding u64 le8 le4
u64-le8 n s h = omega (arith, u32-low n (le4 (n / 4294967296) ++ s), u32-le4 (n / 4294967296) s (omega arith))

-- ---- a header

-- each field has its width
pub record Wide (h : Header) : Type 0 where
  pub length : h.length < 4294967296
  pub type : h.type < 65536
  pub offset : h.offset < 4294967296
  pub session : h.session < 4294967296
  pub stream : h.stream < 4294967296
  pub id : h.id < 4294967296
  pub reserved : h.reserved < 18446744073709551616

pub length-header : (h : Header) → length (header24 h) ≡ 24
unfolding header24 le4 le2
length-header h = refl

-- a header by its fields
by-fields : (h : Header) (a t o i j k r : ℕ) → a ≡ h.length → t ≡ h.type → o ≡ h.offset → i ≡ h.session → j ≡ h.stream → k ≡ h.id → r ≡ h.reserved
    → ◌≡◌ {A = Header} (record { length = a; version = h.version; flags = h.flags; type = t; offset = o; session = i; stream = j; id = k; reserved = r })
    (record { length = h.length; version = h.version; flags = h.flags; type = h.type; offset = h.offset; session = h.session; stream = h.stream; id = h.id; reserved = h.reserved })
by-fields h a t o i j k r e1 e2 e3 e4 e5 e6 e7 = cc

-- what was written is read back, every field
pub header-back : (h : Header) (s : List ℕ) → Wide h → header_at (header_bytes h ++ s) ≡ h
unfolding header_bytes header24 le2 le4 le8 u16 u32 u64
header-back h s w =
    by-fields h _ _ _ _ _ _ _ (u32-le4 h.length [] w.length) (u16-le2 h.type [] w.type) (u32-le4 h.offset [] w.offset)
    (u32-le4 h.session [] w.session) (u32-le4 h.stream [] w.stream) (u32-le4 h.id [] w.id) (u64-le8 h.reserved [] w.reserved)

-- a data frame as it is written: the 24 bytes that writing a header sets, the reserved value, the body
pub fragment-parts : (v : Reading) (o fl re : ℕ) (b : List ℕ) → fragment_bytes v o (fragment fl re b) ≡ header v o (length b + 32) fl 1 ++ (le8 re ++ b)
unfolding fragment_bytes header_bytes header header24
fragment-parts v o fl re b = append_assoc (header v o (length b + 32) fl 1) (le8 re) b
