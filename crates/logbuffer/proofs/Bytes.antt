-- Fields by the log's own indices: a field read is its bytes put together.
use Rattle.std.proofs.Common.{◌≡◌, ℕ, ◌+◌, ◌*◌, List, get_or, drop, ap, ◌∙◌, add-zero, arith, get_or-drop, drop-drop}
use Rattle.model.specs.Bytes.{u16, u32, u64}

first : (l : List ℕ) (at : ℕ) → get_or (drop at l) 0 0 ≡ get_or l at 0
first l at = get_or-drop at l 0 0 ∙ ap (λ (n : ℕ). get_or l n 0) (add-zero at)

pub half_at : (l : List ℕ) (at : ℕ) → u16 (drop at l) ≡ get_or l at 0 + 256 * get_or l (at + 1) 0
unfolding u16
half_at l at = omega (arith, first l at, get_or-drop at l 1 0)

pub word_at : (l : List ℕ) (at : ℕ) → u32 (drop at l) ≡ get_or l at 0 + 256 * get_or l (at + 1) 0 + 65536 * get_or l (at + 2) 0 + 16777216 * get_or l (at + 3) 0
unfolding u32
word_at l at = omega (arith, first l at, get_or-drop at l 1 0, get_or-drop at l 2 0, get_or-drop at l 3 0)

pub long-at : (l : List ℕ) (at : ℕ) → u64 (drop at l) ≡ u32 (drop at l) + 4294967296 * u32 (drop (at + 4) l)
unfolding u64
long-at l at = ap (λ (s : List ℕ). u32 (drop at l) + 4294967296 * u32 s) (drop-drop 4 at l)
