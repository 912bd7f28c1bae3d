-- Frames as they lie in a log, and their bytes. A log is laid out by position: the frame at position p lies at index p, as long as the
-- stream is shorter than the three terms, so a list of frames has one run of bytes.
use mathlib.Core.Path.{◌≡◌, refl, sym, ap, ap₂, ◌∙◌}
use Prim.Native.Nat.{ℕ, ◌+◌, ◌-◌, ◌/◌, ◌%◌, ◌≤◌}
use mathlib.Core.List.{List, [], ◌∷◌, ◌++◌, append_assoc}
use native.Mathlib.Omega.{arith}
use lib.ListN.{length, length-append}
use Rattle.model.specs.Bytes.{zeros, le2, le4, le8}
use Rattle.model.specs.FrameDescriptor.{align}
use Rattle.model.specs.DataFrameHeader.{header24}
use Rattle.model.specs.LogBufferDescriptor.{id_bits}
use Rattle.model.specs.History.{Shape, State, open·, committed, aborted}
use Rattle.model.proofs.Splice.{length-zeros}

-- state, flags, reserved value (the bits), body
pub data Cell : Type 0 where
  cell : State → ℕ → ℕ → List ℕ → Cell

abbrev pub state_of : Cell → State
state_of (cell k fl re b) = k

abbrev pub flags_of : Cell → ℕ
flags_of (cell k fl re b) = fl

abbrev pub res_of : Cell → ℕ
res_of (cell k fl re b) = re

abbrev pub body_of : Cell → List ℕ
body_of (cell k fl re b) = b

-- the length word: negative while the frame is being written
unfoldable pub stored : State → ℕ → ℕ
stored open· n = 4294967296 - n
stored committed n = n
stored aborted n = n

unfoldable pub typ : State → ℕ
typ open· = 1
typ committed = 1
typ aborted = 0

-- the header of a frame at term offset o, term id i, with length word w
unfoldable pub head : Shape → ℕ → ℕ → ℕ → ℕ → ℕ → List ℕ
head c o i w fl ty =
    header24 (record { length = w; version = 0; flags = fl; type = ty; offset = o; session = c.session; stream = c.stream; id = id_bits i; reserved = 0 })

unfoldable pub flen : Cell → ℕ
flen f = length (body_of f) + 32

unfoldable pub fsize : Cell → ℕ
fsize f = align (flen f)

-- header, body
unfoldable pub solid_at : Shape → ℕ → ℕ → Cell → List ℕ
solid_at c o i f = head c o i (stored (state_of f) (flen f)) (flags_of f) (typ (state_of f)) ++ (le8 (res_of f) ++ body_of f)

-- of the frame at position p
unfoldable pub solid : Shape → ℕ → Cell → List ℕ
solid c p f = solid_at c (p % c.term) (c.initial + p / c.term) f

-- with its slack
unfoldable pub enc : Shape → ℕ → Cell → List ℕ
enc c p f = solid c p f ++ zeros (fsize f - flen f)

unfoldable pub bytes : Shape → ℕ → List Cell → List ℕ
bytes c p [] = []
bytes c p (f ∷ fs) = enc c p f ++ bytes c (p + fsize f) fs

unfoldable pub sizes : List Cell → ℕ
sizes [] = 0
sizes (f ∷ fs) = fsize f + sizes fs

-- ---- lengths

pub length-head : (c : Shape) (o i w fl ty : ℕ) → length (head c o i w fl ty) ≡ 24
unfolding head header24 le4 le2
length-head c o i w fl ty = refl

length-le8 : (n : ℕ) → length (le8 n) ≡ 8
unfolding le8 le4
length-le8 n = refl

pub length-solid_at : (c : Shape) (o i : ℕ) (f : Cell) → length (solid_at c o i f) ≡ flen f
unfolding solid_at flen
length-solid_at c o i f =
    length-append (head c o i (stored (state_of f) (flen f)) (flags_of f) (typ (state_of f))) (le8 (res_of f) ++ body_of f)
    ∙ ap₂ ◌+◌ (length-head c o i (stored (state_of f) (flen f)) (flags_of f) (typ (state_of f))) (length-append (le8 (res_of f)) (body_of f))
    ∙ omega (arith, length-le8 (res_of f))

pub length-solid : (c : Shape) (p : ℕ) (f : Cell) → length (solid c p f) ≡ flen f
unfolding solid
length-solid c p f = length-solid_at c (p % c.term) (c.initial + p / c.term) f

pub fsize-ge : (f : Cell) → flen f ≤ fsize f
unfolding fsize
fsize-ge f = omega arith

pub flen-ge : (f : Cell) → 32 ≤ flen f
unfolding flen
flen-ge f = omega arith

pub length-enc : (c : Shape) (p : ℕ) (f : Cell) → length (enc c p f) ≡ fsize f
unfolding enc
length-enc c p f = omega (arith, length-append (solid c p f) (zeros (fsize f - flen f)), length-solid c p f, length-zeros (fsize f - flen f), fsize-ge f)

pub length-bytes : (c : Shape) (p : ℕ) (fs : List Cell) → length (bytes c p fs) ≡ sizes fs
unfolding bytes sizes
length-bytes c p [] = refl
length-bytes c p (f ∷ fs) = omega (arith, length-append (enc c p f) (bytes c (p + fsize f) fs), length-enc c p f, length-bytes c (p + fsize f) fs)

pub sizes-append : (fs gs : List Cell) → sizes (fs ++ gs) ≡ sizes fs + sizes gs
unfolding sizes
sizes-append [] gs = omega arith
sizes-append (f ∷ fs) gs = omega (arith, sizes-append fs gs)

pub bytes-append : (c : Shape) (p : ℕ) (fs gs : List Cell) → bytes c p (fs ++ gs) ≡ bytes c p fs ++ bytes c (p + sizes fs) gs
unfolding bytes sizes
bytes-append c p [] gs = ap (λ (q : ℕ). bytes c q gs) (omega arith)
bytes-append c p (f ∷ fs) gs =
    ap (λ (r : List ℕ). enc c p f ++ r) (bytes-append c (p + fsize f) fs gs)
    ∙ sym (append_assoc (enc c p f) (bytes c (p + fsize f) fs) (bytes c (p + fsize f + sizes fs) gs))
    ∙ ap (λ (q : ℕ). enc c p f ++ bytes c (p + fsize f) fs ++ bytes c q gs) (omega arith)

pub fsize-32 : (f : Cell) → fsize f % 32 ≡ 0
unfolding fsize
fsize-32 f = omega arith

pub sizes-32 : (fs : List Cell) → sizes fs % 32 ≡ 0
unfolding sizes
sizes-32 [] = refl
sizes-32 (f ∷ fs) = omega (arith, fsize-32 f, sizes-32 fs)
