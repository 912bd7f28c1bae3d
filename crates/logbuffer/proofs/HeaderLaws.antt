-- A header's fields read one by one are the fields of the header, with their signs.
use Rattle.std.proofs.Common.{◌≡◌, ℕ, ◌<◌, ℤ, ◌+ℤ◌, ap, ◌∙◌, ap₂, to_z-of_z, w32, w64, Fits, SFits, to_z, of_z}
use mir.Facts.{of_z-to_z}
use Rattle.model.specs.declared.Reading.{Reading}
use Rattle.model.specs.declared.HeaderFields.{HeaderFields}
use Rattle.model.specs.DataFrameHeader.{Header}
use Rattle.model.specs.LogBufferDescriptor.{position_of}
use Rattle.model.specs.TermReader.{alignℤ, fields_of}

-- bits read, made a signed number, and passed on
pub field32 : (z : ℤ) (u x : ℕ) → z ≡ to_z w32 u → u < 4294967296 → u ≡ x → to_z w32 (of_z w32 z) ≡ to_z w32 x
field32 z u x e h q =
    let f : Fits w32 u = record { fits = h } in
    ap (λ (y : ℤ). to_z w32 (of_z w32 y)) e ∙ ap (to_z w32) (of_z-to_z f ∙ q)

pub field64 : (z : ℤ) (u x : ℕ) → z ≡ to_z w64 u → Fits w64 u → u ≡ x → to_z w64 (of_z w64 z) ≡ to_z w64 x
field64 z u x e f q = ap (λ (y : ℤ). to_z w64 (of_z w64 y)) e ∙ ap (to_z w64) (of_z-to_z f ∙ q)

-- the position past the frame, of a term id and a length that were read
pub past-field : (v : Reading) (at t x n : ℕ) (l p : ℤ) → p ≡ position_of t v.initial v.term at +ℤ alignℤ l → SFits w64 p → t ≡ x → l ≡ to_z w32 n
    → to_z w64 (of_z w64 p) ≡ position_of x v.initial v.term at +ℤ alignℤ (to_z w32 n)
past-field v at t x n l p e f q k =
    to_z-of_z f ∙ e ∙ ap₂ (λ (i : ℕ) (y : ℤ). position_of i v.initial v.term at +ℤ alignℤ y) q k

pub same-fields : (v : Reading) (at : ℕ) (h : Header) (a : ℤ) (b c d : ℕ) (e f g i j p : ℤ) → a ≡ to_z w32 h.length → b ≡ h.version → c ≡ h.flags → d ≡ h.type
    → e ≡ to_z w32 h.offset → f ≡ to_z w32 h.session → g ≡ to_z w32 h.stream → i ≡ to_z w32 h.id → j ≡ to_z w64 h.reserved
    → p ≡ position_of h.id v.initial v.term at +ℤ alignℤ (to_z w32 h.length)
    → ◌≡◌ {A = HeaderFields}
    (record { frame_length = a; version = b; flags = c; frame_type = d; term_offset = e; session_id = f; stream_id = g; term_id = i; reserved_value = j; position = p })
    (fields_of v at h)
unfolding fields_of
same-fields v at h a b c d e f g i j p e1 e2 e3 e4 e5 e6 e7 e8 e9 e10 = cc
