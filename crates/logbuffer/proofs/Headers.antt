-- The words of a header, laid one behind the other; and header, reserved value and body as one frame.
use Rattle.std.proofs.Common.{◌≡◌, ℕ, ◌+◌, ◌*◌, ◌/◌, ◌%◌, ◌<◌, ◌≤◌, List, [], ◌∷◌, ◌++◌, length, take, drop, sym, refl, ap, ◌∙◌, ap₂, append_assoc, append-nil, arith, length-append, shr-shr}
use lib.Arith.{digits_mod}
use lib.Seq.{take-length}
use Rattle.model.specs.declared.Reading.{Reading}
use Rattle.model.specs.Bytes.{splice, le2, le4, le8}
use Rattle.model.specs.DataFrameHeader.{header24}
use Rattle.model.specs.TermAppender.{header_of, header, fragment, fragment_bytes}
use Rattle.model.proofs.Splice.{splice-more, splice-over}
use Rattle.model.proofs.Fields.{length-header, fragment-parts}

-- version 0, flags and type as one number of four bytes
flags-word : (fl ty : ℕ) → fl < 256 → ty < 65536 → le4 (fl * 256 + ty * 65536) ≡ 0 ∷ fl ∷ le2 ty
unfolding le4 le2
flags-word fl ty h k =
    let n = fl * 256 + ty * 65536 in
    let a : n % 256 ≡ 0 = omega arith in
    let n1 : n / 256 ≡ ty * 256 + fl = omega arith in
    let n2 : n / 65536 ≡ ty = omega arith in
    let n3 : n / 16777216 ≡ ty / 256 = omega (arith, shr-shr n 16 8) in
    let b : n / 256 % 256 ≡ fl = ap (λ (x : ℕ). x % 256) n1 ∙ digits_mod ty h in
    let c : n / 65536 % 256 ≡ ty % 256 = ap (λ (x : ℕ). x % 256) n2 in
    let d : n / 16777216 % 256 ≡ ty / 256 % 256 = ap (λ (x : ℕ). x % 256) n3 in
    ap₂ (λ (x y : ℕ). x ∷ y ∷ n / 65536 % 256 ∷ n / 16777216 % 256 ∷ []) a b ∙ ap₂ (λ (x y : ℕ). 0 ∷ fl ∷ x ∷ y ∷ []) c d

header-law : (l : List ℕ) (at : ℕ) (v : Reading) (o len fl ty : ℕ) → at + 24 ≤ length l → fl < 256 → ty < 65536
    → splice (splice (splice (splice (splice (splice l at (le4 len)) (at + 4) (le4 (fl * 256 + ty * 65536))) (at + 8) (le4 o)) (at + 12) (le4 v.session)) (at + 16) (le4 v.stream)) (at + 20) (le4 v.id)
    ≡ splice l at (header v o len fl ty)
unfolding header header24 le4
header-law l at v o len fl ty h hf ht =
    let w = fl * 256 + ty * 65536 in
    let low : at ≤ length l = omega arith in
    let a1 = le4 len in
    let a2 = a1 ++ le4 w in
    let a3 = a2 ++ le4 o in
    let a4 = a3 ++ le4 v.session in
    let a5 = a4 ++ le4 v.stream in
    let i = le4 v.id in
    ap (λ (x : List ℕ). splice (splice (splice (splice x (at + 8) (le4 o)) (at + 12) (le4 v.session)) (at + 16) (le4 v.stream)) (at + 20) i) (splice-more l at a1 (le4 w) (at + 4) refl low)
    ∙ ap (λ (x : List ℕ). splice (splice (splice x (at + 12) (le4 v.session)) (at + 16) (le4 v.stream)) (at + 20) i) (splice-more l at a2 (le4 o) (at + 8) refl low)
    ∙ ap (λ (x : List ℕ). splice (splice x (at + 16) (le4 v.stream)) (at + 20) i) (splice-more l at a3 (le4 v.session) (at + 12) refl low)
    ∙ ap (λ (x : List ℕ). splice x (at + 20) i) (splice-more l at a4 (le4 v.stream) (at + 16) refl low)
    ∙ splice-more l at a5 i (at + 20) refl low
    ∙ ap (λ (x : List ℕ). splice l at (le4 len ++ (x ++ (le4 o ++ (le4 v.session ++ (le4 v.stream ++ i)))))) (flags-word fl ty hf ht)

-- step by step, as the code goes
pub header-by : (l l1 l2 l3 l4 l5 l6 : List ℕ) (at : ℕ) (v : Reading) (o len fl ty : ℕ) → at + 24 ≤ length l → fl < 256 → ty < 65536
    → l1 ≡ splice l at (le4 len) → l2 ≡ splice l1 (at + 4) (le4 (fl * 256 + ty * 65536)) → l3 ≡ splice l2 (at + 8) (le4 o) → l4 ≡ splice l3 (at + 12) (le4 v.session)
    → l5 ≡ splice l4 (at + 16) (le4 v.stream) → l6 ≡ splice l5 (at + 20) (le4 v.id) → l6 ≡ splice l at (header v o len fl ty)
header-by l l1 l2 l3 l4 l5 l6 at v o len fl ty h hf ht e1 e2 e3 e4 e5 e6 = cc (header-law l at v o len fl ty h hf ht)

length-24 : (v : Reading) (o len fl ty : ℕ) → length (header v o len fl ty) ≡ 24
unfolding header
length-24 v o len fl ty = length-header (header_of v o len fl ty 0)

length-le8 : (n : ℕ) → length (le8 n) ≡ 8
unfolding le8 le4
length-le8 n = refl

-- the length of a header stored anew, whatever lies behind it
relength : (l : List ℕ) (at : ℕ) (v : Reading) (o len new fl ty : ℕ) (w : List ℕ) → at ≤ length l
    → splice (splice l at (header v o len fl ty ++ w)) at (le4 new) ≡ splice l at (header v o new fl ty ++ w)
unfolding header header24 le4
relength l at v o len new fl ty w h =
    splice-over l at (le4 len) ((0 ∷ fl ∷ (le2 ty ++ (le4 o ++ (le4 v.session ++ (le4 v.stream ++ le4 v.id))))) ++ w) (le4 new) refl h

-- a header whose length comes last
pub finished-by : (l l1 l2 : List ℕ) (at : ℕ) (v : Reading) (o len new fl ty : ℕ) → at ≤ length l → l1 ≡ splice l at (header v o len fl ty) → l2 ≡ splice l1 at (le4 new)
    → l2 ≡ splice l at (header v o new fl ty)
finished-by l l1 l2 at v o len new fl ty h e1 e2 =
    e2 ∙ ap (λ (x : List ℕ). splice x at (le4 new)) (e1 ∙ ap (splice l at) (sym (append-nil (header v o len fl ty)))) ∙ relength l at v o len new fl ty [] h
    ∙ ap (splice l at) (append-nil (header v o new fl ty))

fragment-law : (l : List ℕ) (at : ℕ) (v : Reading) (o len fl re : ℕ) (body : List ℕ) → at ≤ length l
    → splice (splice (splice l at (header v o len fl 1)) (at + 24) (le8 re)) (at + 32) body ≡ splice l at (header v o len fl 1 ++ (le8 re ++ body))
fragment-law l at v o len fl re body low =
    let hd = header v o len fl 1 in
    let lh : length hd ≡ 24 = length-24 v o len fl 1 in
    ap (λ (x : List ℕ). splice x (at + 32) body) (splice-more l at hd (le8 re) (at + 24) (omega arith) low)
    ∙ splice-more l at (hd ++ le8 re) body (at + 32) (omega (arith, length-append hd (le8 re), length-le8 re)) low
    ∙ ap (splice l at) (append_assoc hd (le8 re) body)

-- the body is copied from the beginning of its slice, all of it; the length comes last
pub fragment-by : (l l1 l2 l3 l4 : List ℕ) (at : ℕ) (v : Reading) (o len fl re : ℕ) (body : List ℕ) → at ≤ length l
    → l1 ≡ splice l at (header v o len fl 1) → l2 ≡ splice l1 (at + 24) (le8 re) → l3 ≡ splice l2 (at + 32) (take (length body) (drop 0 body)) → l4 ≡ splice l3 at (le4 (length body + 32))
    → l4 ≡ splice l at (fragment_bytes v o (fragment fl re body))
fragment-by l l1 l2 l3 l4 at v o len fl re body h e1 e2 e3 e4 =
    let laid : l3 ≡ splice l at (header v o len fl 1 ++ (le8 re ++ body)) =
    e3 ∙ ap (splice l2 (at + 32)) (take-length body) ∙ ap (λ (x : List ℕ). splice x (at + 32) body) (e2 ∙ ap (λ (x : List ℕ). splice x (at + 24) (le8 re)) e1) ∙ fragment-law l at v o len fl re body h in
    e4 ∙ ap (λ (x : List ℕ). splice x at (le4 (length body + 32))) laid ∙ relength l at v o len (length body + 32) fl 1 (le8 re ++ body) h
    ∙ ap (splice l at) (sym (fragment-parts v o fl re body))
