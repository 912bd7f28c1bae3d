-- A block at a position: the leaf library's scan and header, asked there with signed numbers, and what they say of the block.
use Rattle.std.specs.Prelude.{Result, Ok, Err}
use mathlib.Core.Path.{◌≡◌, refl, sym, ap, ap₂, ◌∙◌}
use mathlib.Core.Bool.{Bool, true, false, cond, ◌&&◌}
use mathlib.Core.List.{List}
use Prim.Native.Nat.{ℕ, zero, suc, ◌+◌, ◌-◌, ◌*◌, ◌/◌, ◌%◌, ◌≤◌, ◌<◌, min}
use native.Mathlib.Omega.{arith}
use borrow.Author.Tests.{le-leb, eq-eqb, ne_eqb}
use lib.Dec.{eqb, leb}
use lib.ListN.{length, drop}
use lib.IntN.{ℤ, pos}
use mir.Syntax.{w32}
use mir.Val.{SFits, to_z, of_z}
use mir.Facts.{to_z-of_z}
use Rattle.model.specs.declared.LogRecord.{LogRecord}
use Rattle.model.specs.declared.Reading.{Reading}
use Rattle.model.specs.declared.Place.{Place}
use Rattle.model.specs.declared.Error.{Error}
use Rattle.model.specs.declared.ReadVerdict.{ReadVerdict}
use Rattle.model.specs.declared.ReadVerdict.TheVariants.{Read}
use Rattle.model.specs.declared.Frame.{Frame}
use Rattle.model.specs.declared.Frame.TheVariants.{Absent, Unsound, Padding, Data}
use Rattle.model.specs.declared.HeaderFields.{HeaderFields}
use Rattle.model.specs.declared.Block.{Block}
use Rattle.model.specs.Bytes.{word, long}
use Rattle.model.specs.DataFrameHeader.{header_at}
use Rattle.model.specs.FrameDescriptor.{align, frame_at}
use Rattle.model.specs.LogBufferDescriptor.{reading, sound, partition_of, good_partition, good_offset, within_term, place_of}
use Rattle.model.specs.TermReader.{natural, fields_of, header_by, header_call}
use Rattle.model.specs.TermScan.{scan_over, scan_from, scan_by, scan_of}
use Rattle.model.specs.Image.{Image as State, moved_to, refuse_if, readable, unsound_at, unsound_frame_of, poll_verdict, block_end, block_length, block_by, block_poll_of}
use Rattle.model.proofs.FrameLaws.{Lies, lies}
use Rattle.model.proofs.HeaderRows.{header-by}
use Rattle.model.proofs.Rows.{no_row}
use Rattle.model.proofs.ScanRows.{scan-goes}
use Rattle.image.specs.Images.{block_said, block_read}
use Rattle.image.proofs.Places.{At, at_place}
use Rattle.image.proofs.Rungs.{after, poll-after}
use Rattle.image.proofs.Replies.{only-moved}

-- ---- how far a scan goes: not back, and not past the term

between : (b : Bool) (x y low high : ℕ) → (low ≤ x) × (x ≤ high) → (low ≤ y) × (y ≤ high) → (low ≤ cond b x y) × (cond b x y ≤ high)
between true x y low high h k = h
between false x y low high h k = k

module _ (log : List ℕ) (base term limit at : ℕ) (here : at ≤ term) where
  over-in : (x : Frame) (b : Bool) (go : ℕ → ℕ) → frame_at (drop (base + at) log) (term - at) ≡ x → ((a : ℕ) → a ≤ term → (a ≤ go a) × (go a ≤ term))
      → (at ≤ scan_over x b at limit go) × (scan_over x b at limit go ≤ term)
  over-in Absent b go e h = (omega arith, here)
  over-in (Unsound n) b go e h = (omega arith, here)
  over-in (Padding n) b go e h =
      let k : Lies n (term - at) = lies (drop (base + at) log) (term - at) (Padding n) e refl in
      between b (at + align n) at at term (omega arith, omega (arith, k.inside)) (omega arith, here)
  over-in (Data n) b go e h =
      let k : Lies n (term - at) = lies (drop (base + at) log) (term - at) (Data n) e refl in
      let m : at + align n ≤ term = omega (arith, k.inside) in
      let g = h (at + align n) m in
      between (leb (at + align n) limit) (go (at + align n)) at at term (omega (arith, g.0), g.1) (omega arith, here)

pub scan-in : (fuel : ℕ) (log : List ℕ) (base term limit : ℕ) (b : Bool) (at : ℕ) → at ≤ term
    → (at ≤ scan_from fuel log base term limit b at) × (scan_from fuel log base term limit b at ≤ term)
unfolding scan_from
scan-in zero log base term limit b at here = (omega arith, here)
scan-in (suc fuel) log base term limit b at here =
    between (leb limit at) at _ at term (omega arith, here)
    (over-in log base term limit at here (frame_at (drop (base + at) log) (term - at)) b (λ a. scan_from fuel log base term limit false a) refl
    (λ a h. scan-in fuel log base term limit false a h))

-- ---- asked with signed numbers

-- a number as it is passed on
abbrev pub signed : ℕ → ℤ
signed n = to_z w32 (of_z w32 (pos n))

signed_is : (n : ℕ) → n < 2147483648 → signed n ≡ pos n
signed_is n h = let f : SFits w32 (pos n) = record { sfits = omega arith } in to_z-of_z f

bits : (n : ℕ) → n < 2147483648 → n ≡ of_z w32 (pos n)
bits n h = omega arith

sent : (n : ℕ) → n < 2147483648 → n ≡ word (signed n)
sent n h = bits n h ∙ ap word (sym (signed_is n h))

module _ (r : LogRecord) (log : List ℕ) (v : Reading) (p : ℕ) (ev : v ≡ reading r) (h : sound v (length log) ≡ true) (a : p % 32 ≡ 0) where
  place : At v (length log) p
  place = at_place v (length log) p h a

  k-small : p / v.term % 3 < 2147483648
  k-small = omega (arith, place.partition)

  at_small : p % v.term < 2147483648
  at_small = omega (arith, place.below, place.term-high)

  within : (n : ℕ) → n ≤ v.term → within_term n v ≡ true
  within n le = let k : v.term ≤ 2147483647 = omega (arith, place.term-high) in rw (le-leb n v.term le, le-leb v.term 2147483647 k)

  offset-good : good_offset (p % v.term) v ≡ true
  offset-good = rw (eq-eqb (p % v.term % 32) 0 place.at-32) (within (p % v.term + 1) (omega (arith, place.below)))

  partition-good : good_partition (p / v.term % 3) ≡ true
  partition-good = le-leb _ _ place.partition

  -- the place that the scan and the header are asked for
  abbrev named : Place
  named = record { read = v; partition = p / v.term % 3; offset = p % v.term }

  named-is : named ≡ place_of r (signed (p / v.term % 3)) (signed (p % v.term))
  named-is =
      let k : p / v.term % 3 ≡ word (signed (p / v.term % 3)) = sent _ k-small in
      let at : p % v.term ≡ word (signed (p % v.term)) = sent _ at_small in
      cc

  pub scan-is : (end : ℕ) → end ≤ v.term
      → scan_by (scan_from v.term log (partition_of p v.term * v.term) v.term end true (p % v.term)) (cond (unsound_at v log p end 1) (Err (unsound_frame_of v log p)) (Ok tt))
      ≡ scan_of r log (signed (p / v.term % 3)) (signed (p % v.term)) (signed end)
  scan-is end e =
      let s : end < 2147483648 = omega (arith, place.term-high) in
      let n : end ≡ natural (signed end) = ap natural (sym (signed_is end s)) in
      let g : (good_partition (p / v.term % 3) && (good_offset (p % v.term) v && within_term end v)) ≡ true = rw (partition-good, offset-good) (within end e) in
      scan-goes r log (signed (p / v.term % 3)) (signed (p % v.term)) named named-is (signed end) end n (sym (no_row _ _ g h))

  header_is : Ok (fields_of v (p % v.term) (header_at (drop (partition_of p v.term * v.term + p % v.term) log)))
      ≡ header_call r log (signed (p / v.term % 3)) (signed (p % v.term))
  header_is =
      let g : (good_partition (p / v.term % 3) && good_offset (p % v.term) v) ≡ true = rw partition-good offset-good in
      let f = fields_of v (p % v.term) (header_at (drop (partition_of p v.term * v.term + p % v.term) log)) in
      ap (header_by f) (no_row _ _ g h) ∙ header-by r log (signed (p / v.term % 3)) (signed (p % v.term)) named named-is

  id-field : (fields_of v (p % v.term) (header_at (drop (partition_of p v.term * v.term + p % v.term) log))).term_id
      ≡ to_z w32 (header_at (drop (partition_of p v.term * v.term + p % v.term) log)).id
  unfolding fields_of
  id-field = refl

  pub term-id-is : (f : HeaderFields) → header_call r log (signed (p / v.term % 3)) (signed (p % v.term)) ≡ Ok f
      → f.term_id ≡ to_z w32 (header_at (drop (partition_of p v.term * v.term + p % v.term) log)).id
  term-id-is f q =
      let e : Ok (fields_of v (p % v.term) (header_at (drop (partition_of p v.term * v.term + p % v.term) log))) ≡ Ok f = header_is ∙ q in
      let s : fields_of v (p % v.term) (header_at (drop (partition_of p v.term * v.term + p % v.term) log)) ≡ f = cc in
      ap (λ (x : HeaderFields). x.term_id) (sym s) ∙ id-field

  pub not-refused : (e : Error) → header_call r log (signed (p / v.term % 3)) (signed (p % v.term)) ≡ Err e → ⊥
  not-refused e q = let t = header_is ∙ q in let z : ◌≡◌ {A = ℕ} 0 1 = cc in omega arith

-- ---- what the scan's answer says

first-of : (b : Bool) (n : ℕ) (u e : Error) → scan_by n (cond b (Err u) (Ok tt)) ≡ Err e → (b ≡ true) × (e ≡ u)
first-of true n u e h = (refl, cc)
first-of false n u e h = absurd (let z : ◌≡◌ {A = ℕ} 0 1 = cc in omega arith)

offset-of : (b : Bool) (u : Error) (n m : ℕ) → scan_by n (cond b (Err u) (Ok tt)) ≡ Ok m → (b ≡ false) × (n ≡ m)
offset-of true u n m h = absurd (let z : ◌≡◌ {A = ℕ} 0 1 = cc in omega arith)
offset-of false u n m h = (refl, cc)

module _ (v : Reading) (log : List ℕ) (limit p q end : ℕ) (ep : p ≡ q) (ee : end ≡ min v.term (p % v.term + (p + limit - p))) (S : Result ℕ Error)
    (answer : S ≡ scan_by (scan_from v.term log (partition_of p v.term * v.term) v.term end true (p % v.term)) (cond (unsound_at v log p end 1) (Err (unsound_frame_of v log p)) (Ok tt))) where
  abbrev stops : ℕ → ℕ → ℕ
  stops x e = scan_from v.term log (partition_of x v.term * v.term) v.term e true (x % v.term)

  end_is : end ≡ block_end v q limit
  end_is = let d : p + limit - p ≡ limit = omega arith in ee ∙ ap (λ (x : ℕ). min v.term (p % v.term + x)) d ∙ ap (λ (x : ℕ). block_end v x limit) ep

  pub block-unsound : (e : Error) → S ≡ Err e → (unsound_at v log q (block_end v q limit) 1 ≡ true) × (e ≡ unsound_frame_of v log q)
  block-unsound e h =
      let u = first-of (unsound_at v log p end 1) (stops p end) (unsound_frame_of v log p) e (sym answer ∙ h) in
      (ap₂ (λ (x y : ℕ). unsound_at v log x y 1) (sym ep) (sym end_is) ∙ u.0, u.1 ∙ ap (unsound_frame_of v log) ep)

  pub block-sound : (m : ℕ) → S ≡ Ok m → unsound_at v log q (block_end v q limit) 1 ≡ false
  block-sound m h = ap₂ (λ (x y : ℕ). unsound_at v log x y 1) (sym ep) (sym end_is) ∙ (offset-of (unsound_at v log p end 1) (unsound_frame_of v log p) (stops p end) m (sym answer ∙ h)).0

  pub block_size : (m : ℕ) → S ≡ Ok m → m - p % v.term ≡ block_length v log q limit
  block_size m h =
      ap (λ (x : ℕ). x - p % v.term) (sym (offset-of (unsound_at v log p end 1) (unsound_frame_of v log p) (stops p end) m (sym answer ∙ h)).1)
      ∙ ap₂ (λ (x y : ℕ). stops x y - x % v.term) ep end_is

  pub block_in : (m : ℕ) → p % v.term ≤ v.term → S ≡ Ok m → (p % v.term ≤ m) × (m ≤ v.term)
  block_in m l h =
      let e = (offset-of (unsound_at v log p end 1) (unsound_frame_of v log p) (stops p end) m (sym answer ∙ h)).1 in
      let k = scan-in v.term log (partition_of p v.term * v.term) v.term end true (p % v.term) l in
      (omega (arith, k.0), omega (arith, k.1))

-- ---- the block that is answered

module _ (v : Reading) (log : List ℕ) (i : State) (limit n : ℕ) (en : n ≡ block_length v log (long i.position) limit) where
  pub block-empty : n ≡ 0 → Ok (record { offset = 0; length = 0; session_id = pos 0; term_id = pos 0 }) ≡ block_by v log i (block_length v log (long i.position) limit) (Ok Read)
  block-empty h =
      let made : ℕ → (Result Block Error) = λ (x : ℕ). block_by v log i x (Ok Read) in
      sym (ap made (sym en ∙ h))

  pub block-some : (p : ℕ) (id : ℤ) → (n ≡ 0 → ⊥) → p ≡ long i.position → id ≡ to_z w32 (header_at (drop (partition_of p v.term * v.term + p % v.term) log)).id
      → Ok (record { offset = p % v.term; length = n; session_id = i.session; term_id = id }) ≡ block_by v log i (block_length v log (long i.position) limit) (Ok Read)
  block-some p id h ep ei =
      let some : Bool → ℕ → ℕ → (Result Block Error) = λ (b : Bool) (x m : ℕ). cond b (Ok (record { offset = 0; length = 0; session_id = pos 0; term_id = pos 0 }))
      (Ok (record { offset = x % v.term; length = m; session_id = i.session; term_id = to_z w32 (header_at (drop (partition_of x v.term * v.term + x % v.term) log)).id })) in
      ap (λ (z : ℤ). Ok (record { offset = p % v.term; length = n; session_id = i.session; term_id = z })) ei ∙ sym (ap (λ (b : Bool). some b p n) (ne_eqb n 0 h)) ∙ ap₂ (λ (x m : ℕ). some (eqb m 0) x m) ep en

pub block-kept : (v : Reading) (log : List ℕ) (i : State) (limit : ℕ) → moved_to i (block_read v log i limit).next.position ≡ (block_read v log i limit).next
block-kept v log i limit = only-moved i (block_length v log (long i.position) limit) (refuse_if (unsound_at v log (long i.position) (block_end v (long i.position) limit) 1) (unsound_frame_of v log (long i.position)) (Ok Read))

-- ---- the call, over the code's numbers

pub as-block : (r : LogRecord) (log : List ℕ) (i : State) (bytes : ℤ) (v : Reading) (limit : ℕ) → v ≡ reading r → limit ≡ natural bytes → (x : Result ReadVerdict Error) → x ≡ readable true v (length log) i (Ok Read)
    → block_said v log i limit (after x (refuse_if (unsound_at v log (long i.position) (block_end v (long i.position) limit) 1) (unsound_frame_of v log (long i.position)) (Ok Read))) ≡ block_poll_of r log i bytes
unfolding block_poll_of
as-block r log i bytes v limit ev el x ex =
    ap (block_said v log i limit) (poll-after v log i true (block_end v (long i.position) limit) 1 x ex)
    ∙ ap₂ (λ (u : Reading) (l : ℕ). block_said u log i l (poll_verdict u log i true (block_end u (long i.position) l) 1)) ev el
