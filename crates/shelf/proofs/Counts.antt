-- The four bytes of a number, as the library has them, are the field's, both ways.
use Rattle.std.proofs.Common.{◌≡◌, ℕ, List, [], ◌∷◌, refl, get_or, arith}
use Rattle.std.specs.Int.{w32, to_le_bytes, from_le_bytes}
use Rattle.model.specs.Bytes.{le4, u32}

pub bytes_four : (n : ℕ) → to_le_bytes w32 n ≡ le4 n
unfolding le4
bytes_four n = refl

pub four_bytes : (s : List ℕ) → from_le_bytes w32 (get_or s 0 0 ∷ get_or s 1 0 ∷ get_or s 2 0 ∷ get_or s 3 0 ∷ []) ≡ u32 s
unfolding u32
four_bytes s = omega arith
