-- What writing does to a log that is the bytes of frames: frames put behind the last, a header laid on zeros, a frame changed in place.
use mathlib.Core.Path.{◌≡◌, refl, sym, ap, ap₂, ◌∙◌, subst}
use Prim.Native.Nat.{ℕ, zero, ◌+◌, ◌-◌, ◌*◌, ◌/◌, ◌%◌, ◌≤◌, ◌<◌}
use native.Mathlib.Nat.{le_of_lt, le_refl}
use mathlib.Core.List.{List, [], ◌∷◌, ◌++◌, append_assoc, append-nil}
use native.Mathlib.Omega.{arith}
use lib.ListN.{length, take, drop, length-append, length-take, length-drop, take-append-drop, drop_of_length-le}
use lib.Seq.{length-take-le}
use lib.Arith.{digits_mod, digits_div}
use Rattle.model.specs.declared.Reading.{Reading}
use Rattle.model.specs.Bytes.{zeros, splice, le2, le4, le8}
use Rattle.model.specs.FrameDescriptor.{align, space}
use Rattle.model.specs.DataFrameHeader.{header24}
use Rattle.model.specs.LogBufferDescriptor.{id_bits, id_plus}
use Rattle.model.specs.TermAppender.{header, Fragment, fragment, body_of, fragment_bytes, written}
use Rattle.model.specs.History.{Shape, shape_of, State, open·, committed, aborted, overlay}
use Rattle.model.proofs.Fields.{fragment-parts}
use Rattle.model.proofs.Choice.{split}
use Rattle.model.proofs.Splice.{length-zeros, zeros-add, splice-mid, splice-zeros}
use Rattle.model.proofs.Cells.{Cell, cell, stored, typ, head, flen, fsize, solid_at, solid, enc, bytes, sizes, length-head, length-solid, length-enc, flen-ge, fsize-ge}
use Rattle.model.proofs.Walking.{Small, AllSmall, Fits, norm}
use Rattle.model.proofs.Rooms.{norm-pos, room_next}
use Rattle.model.proofs.OneSession.{cell_of, cells}

-- ---- frames in terms

-- frames that go into what is left of a term
pub fits_in : (T r : ℕ) (fs : List Cell) → AllSmall fs → sizes fs ≤ r → Fits T r fs
unfolding AllSmall sizes Fits norm
fits_in T r [] s h = tt
fits_in T r (f ∷ []) s h = (s.0, omega arith, tt)
fits_in T r (f ∷ g ∷ fs) s h =
    (s.0, omega arith, subst (λ (q : ℕ). Fits T q (g ∷ fs)) (sym (norm-pos T (r - fsize f) (omega (arith, fsize-ge g, flen-ge g)))) (fits_in T (r - fsize f) (g ∷ fs) s.1 (omega arith)))

pub fits-append : (T p : ℕ) (fs gs : List Cell) → zero < T → Fits T (T - p % T) fs → Fits T (T - (p + sizes fs) % T) gs → Fits T (T - p % T) (fs ++ gs)
unfolding Fits sizes
fits-append T p [] gs t h k = subst (λ (q : ℕ). Fits T (T - q % T) gs) (omega arith) k
fits-append T p (f ∷ fs) gs t h k =
    let e = room_next T p (fsize f) t h.1 in (
      h.0,
      h.1,
      subst (λ (r : ℕ). Fits T r (fs ++ gs)) (sym e)
          (fits-append T (p + fsize f) fs gs t (subst (λ (r : ℕ). Fits T r fs) e h.2) (subst (λ (q : ℕ). Fits T (T - q % T) gs) (omega arith) k)),
    )

-- a frame changed for one of its length
pub fits-swap : (T r : ℕ) (fs : List Cell) (f g : Cell) (gs : List Cell) → flen f ≡ flen g → Fits T r (fs ++ (f ∷ gs)) → Fits T r (fs ++ (g ∷ gs))
unfolding Fits Small fsize
fits-swap T r [] f g gs e h =
    let k : fsize f ≡ fsize g = ap align e in
    (subst (λ (n : ℕ). n < 2147483648) e h.0, subst (λ (n : ℕ). n ≤ r) k h.1, subst (λ (n : ℕ). Fits T (norm T (r - n)) gs) k h.2)
fits-swap T r (x ∷ fs) f g gs e h = (h.0, h.1, fits-swap T (norm T (r - fsize x)) fs f g gs e h.2)

-- ---- frames put behind the last

-- a frame's slack is zeros, so a frame laid on zeros is the frame with its slack
put_one : (c : Shape) (p z : ℕ) (f : Cell) (x : List ℕ) → length x ≡ p → fsize f ≤ z → splice (x ++ zeros z) p (solid c p f) ≡ (x ++ enc c p f) ++ zeros (z - fsize f)
unfolding enc
put_one c p z f x e h =
    let n : z - length (solid c p f) ≡ (fsize f - flen f) + (z - fsize f) = omega (arith, length-solid c p f, fsize-ge f) in
    splice-zeros x (solid c p f) z p e (omega (arith, length-solid c p f, fsize-ge f))
    ∙ ap (λ (k : ℕ). x ++ (solid c p f ++ zeros k)) n
    ∙ ap (λ (l : List ℕ). x ++ (solid c p f ++ l)) (sym (zeros-add (fsize f - flen f) (z - fsize f)))
    ∙ ap (λ (l : List ℕ). x ++ l) (sym (append_assoc (solid c p f) (zeros (fsize f - flen f)) (zeros (z - fsize f))))
    ∙ sym (append_assoc x (solid c p f ++ zeros (fsize f - flen f)) (zeros (z - fsize f)))

-- the frame at offset o of term k
solid-is : (c : Shape) (k o : ℕ) (f : Cell) → o < c.term → solid_at c o (c.initial + k) f ≡ solid c (k * c.term + o) f
unfolding solid
solid-is c k o f h = ap₂ (λ (a b : ℕ). solid_at c a (c.initial + b) f) (sym (digits_mod k h)) (sym (digits_div k h))

module _ (v : Reading) (k : ℕ) (own : v.id ≡ id_plus v.initial k) where
  abbrev c· : Shape
  c· = shape_of v

  -- the header that is written is the frame's
  pub head-is : (o w fl ty : ℕ) → header v o w fl ty ≡ head c· o (c·.initial + k) w fl ty
  unfolding header head
  head-is o w fl ty = ap (λ (i : ℕ). header24 (record { length = w; version = 0; flags = fl; type = ty; offset = o; session = v.session; stream = v.stream; id = i; reserved = 0 })) own

  fragment-is : (o : ℕ) (f : Fragment) → fragment_bytes v o f ≡ solid_at c· o (c·.initial + k) (cell_of f)
  unfolding solid_at stored typ flen
  fragment-is o (fragment fl re b) = fragment-parts v o fl re b ∙ ap (λ (l : List ℕ). l ++ (le8 re ++ b)) (head-is o (length b + 32) fl 1)

  space-is : (f : Fragment) → space (length (body_of f)) ≡ fsize (cell_of f)
  unfolding fsize flen
  space-is (fragment fl re b) = refl

  pub puts : (o z : ℕ) (x : List ℕ) (fs : List Fragment) → length x ≡ k * v.term + o → o + sizes (cells fs) ≤ v.term → sizes (cells fs) ≤ z
      → written v (x ++ zeros z) (k * v.term) o fs ≡ (x ++ bytes c· (k * v.term + o) (cells fs)) ++ zeros (z - sizes (cells fs))
  unfolding written bytes sizes cells
  puts o z x [] e h l = ap₂ (λ (l : List ℕ) (n : ℕ). l ++ zeros n) (sym (append-nil x)) (omega arith)
  puts o z x (f ∷ fs) e h l =
      let p = k * v.term + o in
      let g = cell_of f in
      ap₂ (λ (s : List ℕ) (n : ℕ). written v (splice (x ++ zeros z) p s) (k * v.term) (o + n) fs) (fragment-is o f ∙ solid-is c· k o g (omega (arith, fsize-ge g, flen-ge g))) (space-is f)
      ∙ ap (λ (l : List ℕ). written v l (k * v.term) (o + fsize g) fs) (put_one c· p z g x e (omega arith))
      ∙ puts (o + fsize g) (z - fsize g) (x ++ enc c· p g) fs (omega (arith, length-append x (enc c· p g), length-enc c· p g)) (omega arith) (omega arith)
      ∙ ap₂ (λ (l : List ℕ) (n : ℕ). l ++ zeros n) (append_assoc x (enc c· p g) (bytes c· (k * v.term + (o + fsize g)) (cells fs)) ∙ ap (λ (q : ℕ). x ++ (enc c· p g ++ bytes c· q (cells fs))) (omega arith)) (omega arith)

-- ---- a header laid on zeros: a claim, a padding

eight : le8 0 ≡ zeros 8
unfolding le8 le4 zeros
eight = refl

zeros-tail : (h : List ℕ) (n m : ℕ) → (h ++ (le8 0 ++ zeros n)) ++ zeros m ≡ h ++ zeros (8 + n + m)
zeros-tail h n m =
    append_assoc h (le8 0 ++ zeros n) (zeros m)
    ∙ ap (λ (l : List ℕ). h ++ ((l ++ zeros n) ++ zeros m)) eight
    ∙ ap (λ (l : List ℕ). h ++ (l ++ zeros m)) (zeros-add 8 n)
    ∙ ap (λ (l : List ℕ). h ++ l) (zeros-add (8 + n) m)

flen-zeros : (k : State) (fl n : ℕ) → flen (cell k fl 0 (zeros n)) ≡ n + 32
unfolding flen
flen-zeros k fl n = ap (λ (m : ℕ). m + 32) (length-zeros n)

pub fsize-zeros : (k : State) (fl n : ℕ) → fsize (cell k fl 0 (zeros n)) ≡ space n
unfolding fsize
fsize-zeros k fl n = ap align (flen-zeros k fl n)

enc-zeros : (c : Shape) (p : ℕ) (k : State) (fl n : ℕ) → enc c p (cell k fl 0 (zeros n))
    ≡ head c (p % c.term) (c.initial + p / c.term) (stored k (n + 32)) fl (typ k) ++ zeros (space n - 24)
unfolding enc solid solid_at
enc-zeros c p k fl n =
    let f = cell k fl 0 (zeros n) in
    zeros-tail (head c (p % c.term) (c.initial + p / c.term) (stored k (flen f)) fl (typ k)) n (fsize f - flen f)
    ∙ ap₂ (λ (a b : ℕ). head c (p % c.term) (c.initial + p / c.term) (stored k a) fl (typ k) ++ zeros b) (flen-zeros k fl n)
    (omega (arith, flen-zeros k fl n, fsize-zeros k fl n))

pub put-head : (c : Shape) (k o z : ℕ) (x : List ℕ) (d : State) (fl n : ℕ) → length x ≡ k * c.term + o → o < c.term → space n ≤ z
    → splice (x ++ zeros z) (k * c.term + o) (head c o (c.initial + k) (stored d (n + 32)) fl (typ d))
    ≡ (x ++ enc c (k * c.term + o) (cell d fl 0 (zeros n))) ++ zeros (z - space n)
put-head c k o z x d fl n e h l =
    let p = k * c.term + o in
    let hd = head c o (c.initial + k) (stored d (n + 32)) fl (typ d) in
    let same : hd ++ zeros (space n - 24) ≡ enc c p (cell d fl 0 (zeros n)) =
    ap₂ (λ (a b : ℕ). head c a (c.initial + b) (stored d (n + 32)) fl (typ d) ++ zeros (space n - 24)) (sym (digits_mod k h)) (sym (digits_div k h)) ∙ sym (enc-zeros c p d fl n) in
    let len : length hd ≡ 24 = length-head c o (c.initial + k) (stored d (n + 32)) fl (typ d) in
    let num : z - length hd ≡ (space n - 24) + (z - space n) = omega arith in
    splice-zeros x hd z p e (omega arith)
    ∙ ap (λ (m : ℕ). x ++ (hd ++ zeros m)) num
    ∙ ap (λ (r : List ℕ). x ++ (hd ++ r)) (sym (zeros-add (space n - 24) (z - space n)))
    ∙ ap (λ (r : List ℕ). x ++ r) (sym (append_assoc hd (zeros (space n - 24)) (zeros (z - space n))))
    ∙ ap (λ (r : List ℕ). x ++ (r ++ zeros (z - space n))) same
    ∙ sym (append_assoc x (enc c p (cell d fl 0 (zeros n))) (zeros (z - space n)))

-- ---- a frame changed in place

-- a frame, by parts: length word, version and flags, type, the rest of the header, and what follows
abbrev spot : Shape → ℕ → List ℕ
spot c p = le4 (p % c.term) ++ (le4 c.session ++ (le4 c.stream ++ le4 (id_bits (c.initial + p / c.term))))

parts : Shape → ℕ → ℕ → ℕ → ℕ → ℕ → List ℕ → List ℕ
parts c p w fl ty re t = le4 w ++ ((0 ∷ fl ∷ []) ++ (le2 ty ++ ((spot c p ++ le8 re) ++ t)))

abbrev slack : ℕ → List ℕ
slack n = zeros (space n - (n + 32))

by_parts : (c : Shape) (p : ℕ) (k : State) (fl re : ℕ) (b r : List ℕ)
    → enc c p (cell k fl re b) ++ r ≡ parts c p (stored k (length b + 32)) fl (typ k) re (b ++ (slack (length b) ++ r))
unfolding enc solid solid_at head header24 le4 le2 le8 flen fsize parts
by_parts c p k fl re b r = ap (parts c p (stored k (length b + 32)) fl (typ k) re) (append_assoc b (slack (length b)) r)

splice-in : (x a y z new : List ℕ) (n : ℕ) → length x + length a ≡ n → length y ≡ length new → splice (x ++ (a ++ (y ++ z))) n new ≡ x ++ (a ++ (new ++ z))
splice-in x a y z new n e l =
    ap (λ (t : List ℕ). splice t n new) (sym (append_assoc x a (y ++ z)))
    ∙ splice-mid (x ++ a) y z new n (length-append x a ∙ e) l
    ∙ append_assoc x a (new ++ z)

set_word : (c : Shape) (p w v fl ty re : ℕ) (x t : List ℕ) → length x ≡ p → splice (x ++ parts c p w fl ty re t) p (le4 v) ≡ x ++ parts c p v fl ty re t
unfolding parts le4
set_word c p w v fl ty re x t e = splice-mid x (le4 w) ((0 ∷ fl ∷ []) ++ (le2 ty ++ ((spot c p ++ le8 re) ++ t))) (le4 v) p e refl

set-type : (c : Shape) (p w fl ty uy re : ℕ) (x t : List ℕ) → length x ≡ p → splice (x ++ parts c p w fl ty re t) (p + 6) (le2 uy) ≡ x ++ parts c p w fl uy re t
unfolding parts le4 le2
set-type c p w fl ty uy re x t e =
    splice-in x (le4 w ++ (0 ∷ fl ∷ [])) (le2 ty) ((spot c p ++ le8 re) ++ t) (le2 uy) (p + 6) (omega arith) refl

-- bytes laid over the first of the body
set_body : (c : Shape) (p w fl ty re : ℕ) (x y z new : List ℕ) → length x ≡ p → length y ≡ length new
    → splice (x ++ parts c p w fl ty re (y ++ z)) (p + 32) new ≡ x ++ parts c p w fl ty re (new ++ z)
unfolding parts le4 le2 le8
set_body c p w fl ty re x y z new e l = splice-in x (parts c p w fl ty re []) y z new (p + 32) (omega arith) l

-- a body written over from its start, as far as it goes
overlaid : (body b : List ℕ) → drop (length (take (length body) b)) body ≡ drop (length b) body
overlaid body b =
    split (length b) (length body)
    (λ h. let n : length (take (length body) b) ≡ length b = omega (arith, length-take (length body) b) in ap (λ (k : ℕ). drop k body) n)
    (λ h.
    let n : length (take (length body) b) ≡ length body = omega (arith, length-take (length body) b) in
    ap (λ (k : ℕ). drop k body) n ∙ drop_of_length-le body (le_refl (length body)) ∙ sym (drop_of_length-le body (le_of_lt h)))

pub length-overlay : (body b : List ℕ) → length (overlay body b) ≡ length body
length-overlay body b =
    length-append (take (length body) b) (drop (length b) body) ∙ omega (arith, length-take (length body) b, length-drop (length b) body)

module _ (c : Shape) (p fl re : ℕ) (x b r : List ℕ) (e : length x ≡ p) where
  pub commits : splice (x ++ (enc c p (cell open· fl re b) ++ r)) p (le4 (length b + 32)) ≡ x ++ (enc c p (cell committed fl re b) ++ r)
  unfolding stored typ
  commits =
      ap (λ (t : List ℕ). splice (x ++ t) p (le4 (length b + 32))) (by_parts c p open· fl re b r)
      ∙ set_word c p (4294967296 - (length b + 32)) (length b + 32) fl 1 re x _ e
      ∙ ap (λ (t : List ℕ). x ++ t) (sym (by_parts c p committed fl re b r))

  pub aborts : splice (splice (x ++ (enc c p (cell open· fl re b) ++ r)) (p + 6) (le2 0)) p (le4 (length b + 32)) ≡ x ++ (enc c p (cell aborted fl re b) ++ r)
  unfolding stored typ
  aborts =
      ap (λ (t : List ℕ). splice (splice (x ++ t) (p + 6) (le2 0)) p (le4 (length b + 32))) (by_parts c p open· fl re b r)
      ∙ ap (λ (t : List ℕ). splice t p (le4 (length b + 32))) (set-type c p (4294967296 - (length b + 32)) fl 1 0 re x _ e)
      ∙ set_word c p (4294967296 - (length b + 32)) (length b + 32) fl 0 re x _ e
      ∙ ap (λ (t : List ℕ). x ++ t) (sym (by_parts c p aborted fl re b r))

  pub refills : (k : State) (new : List ℕ) → splice (x ++ (enc c p (cell k fl re b) ++ r)) (p + 32) (take (length b) new) ≡ x ++ (enc c p (cell k fl re (overlay b new)) ++ r)
  refills k new =
      let n = take (length b) new in
      let y = take (length n) b in
      let rest = drop (length n) b ++ (slack (length b) ++ r) in
      let ly : length y ≡ length n = length-take-le (length n) b (omega (arith, length-take (length b) new)) in
      let cut : b ++ (slack (length b) ++ r) ≡ y ++ rest = ap (λ (l : List ℕ). l ++ (slack (length b) ++ r)) (sym (take-append-drop (length n) b)) ∙ append_assoc y (drop (length n) b) (slack (length b) ++ r) in
      let lo : length b ≡ length (overlay b new) = sym (length-overlay b new) in
      ap (λ (t : List ℕ). splice (x ++ t) (p + 32) n) (by_parts c p k fl re b r)
      ∙ ap (λ (t : List ℕ). splice (x ++ parts c p (stored k (length b + 32)) fl (typ k) re t) (p + 32) n) cut
      ∙ set_body c p (stored k (length b + 32)) fl (typ k) re x y rest n e ly
      ∙ ap (λ (l : List ℕ). x ++ parts c p (stored k (length b + 32)) fl (typ k) re (n ++ (l ++ (slack (length b) ++ r)))) (overlaid b new)
      ∙ ap (λ (t : List ℕ). x ++ parts c p (stored k (length b + 32)) fl (typ k) re t) (sym (append_assoc n (drop (length new) b) (slack (length b) ++ r)))
      ∙ ap (λ (m : ℕ). x ++ parts c p (stored k (m + 32)) fl (typ k) re (overlay b new ++ (slack m ++ r))) lo
      ∙ ap (λ (t : List ℕ). x ++ t) (sym (by_parts c p k fl re (overlay b new) r))
