-- Row 2 of a record alone: it is that of a log of the right length.
use mathlib.Core.Path.{◌≡◌, refl, ap, ◌∙◌}
use mathlib.Core.Bool.{Bool, true, false, ◌&&◌}
use Prim.Native.Nat.{ℕ, ◌*◌, ◌%◌, ◌≤◌}
use borrow.Author.Tests.{le-leb, eq-eqb}
use lib.Dec.{eqb, leb}
use lib.Count.{ones}
use Rattle.model.specs.declared.Reading.{Reading}
use Rattle.model.specs.LogBufferDescriptor.{greatest, sound_record, sound, Sound}
use Rattle.model.proofs.Sound.{sound-true, not_sound}
use Rattle.model.proofs.Both.{and_yes}

-- for a record that is sound the length of the log decides
pub sound-length : (v : Reading) (n : ℕ) → sound_record v ≡ true → eqb n (3 * v.term) ≡ sound v n
unfolding sound
sound-length v n h = simp h

pub unsound-length : (v : Reading) (n : ℕ) → sound_record v ≡ false → false ≡ sound v n
unfolding sound
unsound-length v n h = simp h

pub sound-whole : (v : Reading) → sound v (3 * v.term) ≡ sound_record v
unfolding sound
sound-whole v = ap (λ (t : Bool). sound_record v && t) (eq-eqb (3 * v.term) (3 * v.term) refl) ∙ and_yes (sound_record v)

pub sound-record-true : (v : Reading) → sound_record v ≡ true → Sound v (3 * v.term)
sound-record-true v h = sound-true v (3 * v.term) (sound-whole v ∙ h)

pub not-sound-record : (v : Reading) → (Sound v (3 * v.term) → ⊥) → false ≡ sound_record v
not-sound-record v never = not_sound v (3 * v.term) never ∙ sound-whole v

-- where all but the last range holds
pub sound-record-by : (v : Reading) → 65536 ≤ v.term → v.term ≤ 1073741824 → ones v.term ≡ 1 → 64 ≤ v.mtu → v.mtu ≤ 65504 → v.mtu % 32 ≡ 0
    → v.count ≤ 2147483647 → v.limit ≤ 4611686018427387904 → v.slowest ≤ greatest v → v.slowest % 32 ≡ 0 → v.offset % 32 ≡ 0 → leb v.offset 2147483647 ≡ sound_record v
unfolding sound_record
sound-record-by v h1 h2 h3 h4 h5 h6 h7 h8 h9 h10 h11 =
    simp (le-leb _ _ h1, le-leb _ _ h2, eq-eqb _ _ h3, le-leb _ _ h4, le-leb _ _ h5, eq-eqb _ _ h6, le-leb _ _ h7, le-leb _ _ h8, le-leb _ _ h9, eq-eqb _ _ h10, eq-eqb _ _ h11)
