-- Little-endian fields of lists of bytes, read and written, and bytes laid over a log. Read FrameDescriptor next.
use Rattle.std.specs.Prelude.{ℕ, ◌+◌, ◌*◌, ◌/◌, ◌%◌, List, [], ◌∷◌, ◌++◌, length, take, drop, get_or, replicate, ℤ}
use Rattle.std.specs.Int.{w32, w64}
use Rattle.std.proofs.Common.{of_z, to_z}

-- The lowest two, four, eight bytes of a number, the lowest first: what a field of that width holds.
unfoldable pub le2 : ℕ → List ℕ
le2 n = n % 256 ∷ n / 256 % 256 ∷ []

unfoldable pub le4 : ℕ → List ℕ
le4 n = n % 256 ∷ n / 256 % 256 ∷ n / 65536 % 256 ∷ n / 16777216 % 256 ∷ []

unfoldable pub le8 : ℕ → List ℕ
le8 n = le4 n ++ le4 (n / 4294967296)

-- The number in the first two, four, eight bytes. Absent bytes count as 0. The field at an index is that of `drop index log`.
unfoldable pub u16 : List ℕ → ℕ
u16 s = get_or s 0 0 + 256 * get_or s 1 0

unfoldable pub u32 : List ℕ → ℕ
u32 s = get_or s 0 0 + 256 * get_or s 1 0 + 65536 * get_or s 2 0 + 16777216 * get_or s 3 0

unfoldable pub u64 : List ℕ → ℕ
u64 s = u32 s + 4294967296 * u32 (drop 4 s)

-- The bits of a signed number, as a number, and back: two's complement.
abbrev pub word : ℤ → ℕ
word z = of_z w32 z

abbrev pub long : ℤ → ℕ
long z = of_z w64 z

abbrev pub i32 : List ℕ → ℤ
i32 s = to_z w32 (u32 s)

abbrev pub i64 : List ℕ → ℤ
i64 s = to_z w64 (u64 s)

-- `log` with `new` laid over it from `at`
unfoldable pub splice : List ℕ → ℕ → List ℕ → List ℕ
splice log at new = take at log ++ (new ++ drop (at + length new) log)

-- n bytes of 0
unfoldable pub zeros : ℕ → List ℕ
zeros n = replicate n 0
