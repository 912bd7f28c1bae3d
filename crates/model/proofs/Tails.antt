-- The record through the calls: what is read of it after a tail moved and after a rotation, that the tails stay in step, and the
-- publisher's position as a natural number.
use mathlib.Core.Path.{◌≡◌, refl, sym, ap, ap₂, ◌∙◌, subst}
use mathlib.Core.Bool.{Bool, true, false}
use Prim.Native.Nat.{ℕ, ◌+◌, ◌*◌, ◌%◌, ◌≤◌, ◌<◌, min}
use native.Mathlib.Omega.{arith}
use lib.ListN.{length, get_or, set, length-set}
use lib.Seq.{get_or-set_same, get_or-set_other}
use lib.IntN.{ℤ, pos, ◌+ℤ◌, ◌*ℤ◌}
use mir.Syntax.{w32}
use mir.Val.{to_z}
use mir.Facts.{of_z-to_z, to_z_pos}
use Rattle.model.specs.declared.LogRecord.{LogRecord}
use Rattle.model.specs.declared.Reading.{Reading}
use Rattle.model.specs.Bytes.{word, long}
use Rattle.model.specs.LogBufferDescriptor.{id_plus, id_minus, id_of, offset_of, raw_of, tail_of, reading_of, active, reading, publisher_position, changed, with_tail, with_count, with_limit, with_closed, noted, with_slowest, with_mark, is_marked, due, next_tail, rotated}
use Rattle.model.proofs.Choice.{eq_yes}
use Rattle.model.proofs.RawTail.{raw-id, raw-offset}
use Rattle.model.proofs.Sound.{id-small}

-- ---- readings with other numbers

abbrev pub reading_with_tail : Reading → ℕ → ℕ → ℕ → Reading
reading_with_tail v count id offset =
    record { term = v.term; mtu = v.mtu; count = count; initial = v.initial; session = v.session; stream = v.stream; connected = v.connected; limit = v.limit; id = id; offset = offset; closed = v.closed; slowest = v.slowest }

abbrev pub with_rest : Reading → ℕ → Bool → Reading
with_rest v limit closed =
    record { term = v.term; mtu = v.mtu; count = v.count; initial = v.initial; session = v.session; stream = v.stream; connected = v.connected; limit = limit; id = v.id; offset = v.offset; closed = closed; slowest = v.slowest }

abbrev pub with-slow : Reading → ℕ → Reading
with-slow v slowest =
    record { term = v.term; mtu = v.mtu; count = v.count; initial = v.initial; session = v.session; stream = v.stream; connected = v.connected; limit = v.limit; id = v.id; offset = v.offset; closed = v.closed; slowest = slowest }

-- ---- the tails stay in step: the next partition's id is two behind, the last one's one behind

pub record Tails (r : LogRecord) : Type 0 where
  pub three : length r.tails ≡ 3
  pub here : (reading r).id ≡ id_plus (reading r).initial (reading r).count
  pub next : id_plus (id_of (tail_of r (((reading r).count + 1) % 3))) 2 ≡ (reading r).id
  pub last : id_plus (id_of (tail_of r (((reading r).count + 2) % 3))) 1 ≡ (reading r).id
  pub high : (reading r).count ≤ 2147483647

count-is : (r : LogRecord) → (reading r).count ≡ word r.active_term_count
unfolding reading_of
count-is r = refl

id-is : (r : LogRecord) → (reading r).id ≡ id_of (tail_of r (word r.active_term_count % 3))
unfolding reading_of
id-is r = refl

-- ---- a tail moved

module _ (r : LogRecord) (h : Tails r) (o : ℕ) (small : o < 4294967296) where
  abbrev moved : LogRecord
  moved = with_tail r (active r) (reading r).id o

  inside : active r < length r.tails
  inside = omega (arith, h.three)

  pub moved-reading : reading moved ≡ reading_with_tail (reading r) (reading r).count (reading r).id o
  unfolding reading_of with_tail changed
  moved-reading =
      ap₂ (λ (i f : ℕ). reading_with_tail (reading r) (reading r).count i f)
      (ap id_of (get_or-set_same r.tails (active r) (raw_of (reading r).id o) (pos 0) inside) ∙ raw-id (reading r).id o (id-small r (active r)) small)
      (ap offset_of (get_or-set_same r.tails (active r) (raw_of (reading r).id o) (pos 0) inside) ∙ raw-offset (reading r).id o small)

  moved_other : (j : ℕ) → ¬ (j ≡ active r) → tail_of moved j ≡ tail_of r j
  unfolding with_tail changed
  moved_other j n = get_or-set_other r.tails (active r) j (raw_of (reading r).id o) (pos 0) n

  moved-three : length moved.tails ≡ 3
  unfolding with_tail changed
  moved-three = length-set r.tails (active r) (raw_of (reading r).id o) ∙ h.three

  pub moved-tails : Tails moved
  moved-tails =
      let e = moved-reading in
      let count : (reading moved).count ≡ (reading r).count = ap (λ (v : Reading). v.count) e in
      let id : (reading moved).id ≡ (reading r).id = ap (λ (v : Reading). v.id) e in
      let initial : (reading moved).initial ≡ (reading r).initial = ap (λ (v : Reading). v.initial) e in
      let c = count-is r in
      record {
        three = moved-three;
        here = id ∙ h.here ∙ ap₂ id_plus (sym initial) (sym count);
        next = ap (λ (n : ℕ). id_plus (id_of (tail_of moved ((n + 1) % 3))) 2) count
            ∙ ap (λ (z : ℤ). id_plus (id_of z) 2) (moved_other (((reading r).count + 1) % 3) (λ (q : ((reading r).count + 1) % 3 ≡ active r). omega arith)) ∙ h.next ∙ sym id;
        last = ap (λ (n : ℕ). id_plus (id_of (tail_of moved ((n + 2) % 3))) 1) count
            ∙ ap (λ (z : ℤ). id_plus (id_of z) 1) (moved_other (((reading r).count + 2) % 3) (λ (q : ((reading r).count + 2) % 3 ≡ active r). omega arith)) ∙ h.last ∙ sym id;
        high = subst (λ (n : ℕ). n ≤ 2147483647) (sym count) h.high;
      }

-- ---- a rotation

module _ (r : LogRecord) (h : Tails r) (below : (reading r).count < 2147483647) where
  abbrev n· : ℕ
  n· = (reading r).count

  abbrev i· : ℕ
  i· = (reading r).id

  abbrev k· : ℕ
  k· = ((reading r).count + 1) % 3

  turned : next_tail r n· i· ≡ with_mark (with_tail r k· (id_plus i· 1) 0) k· false
  unfolding next_tail
  turned = ap (λ (x : LogRecord). with_mark x k· false) (eq_yes (id_plus (id_of (tail_of r k·)) 2) i· (with_tail r k· (id_plus i· 1) 0) r h.next)

  abbrev over : LogRecord
  over = rotated r n· i·

  rotated-is : over ≡ with_count (with_mark (with_tail r k· (id_plus i· 1) 0) k· false) (n· + 1)
  unfolding rotated
  rotated-is = ap (λ (x : LogRecord). with_count x (n· + 1)) turned

  counted : word (to_z w32 (n· + 1)) ≡ n· + 1
  counted = of_z-to_z {w = w32} (record { fits = omega arith })

  within : k· < length r.tails
  within = omega (arith, h.three)

  read-over : reading (with_count (with_mark (with_tail r k· (id_plus i· 1) 0) k· false) (n· + 1)) ≡ reading_with_tail (reading r) (n· + 1) (id_plus i· 1) 0
  unfolding reading_of with_tail with_count with_mark noted changed
  read-over =
      ap (λ (n : ℕ). reading_with_tail (reading r) n (id_of (get_or (set r.tails k· (raw_of (id_plus i· 1) 0)) (n % 3) (pos 0))) (offset_of (get_or (set r.tails k· (raw_of (id_plus i· 1) 0)) (n % 3) (pos 0)))) counted
      ∙ ap₂ (λ (i f : ℕ). reading_with_tail (reading r) (n· + 1) i f)
      (ap id_of (get_or-set_same r.tails k· (raw_of (id_plus i· 1) 0) (pos 0) within) ∙ raw-id (id_plus i· 1) 0 (omega arith) (omega arith))
      (ap offset_of (get_or-set_same r.tails k· (raw_of (id_plus i· 1) 0) (pos 0) within) ∙ raw-offset (id_plus i· 1) 0 (omega arith))

  pub rotated-reading : reading over ≡ reading_with_tail (reading r) (n· + 1) (id_plus i· 1) 0
  rotated-reading = ap reading rotated-is ∙ read-over

  over-other : (j : ℕ) → ¬ (j ≡ k·) → tail_of over j ≡ tail_of r j
  unfolding with_tail with_count with_mark noted changed
  over-other j n = ap (λ (x : LogRecord). tail_of x j) rotated-is ∙ get_or-set_other r.tails k· j (raw_of (id_plus i· 1) 0) (pos 0) n

  over-three : length over.tails ≡ 3
  unfolding with_tail with_count with_mark noted changed
  over-three = ap (λ (x : LogRecord). length x.tails) rotated-is ∙ length-set r.tails k· (raw_of (id_plus i· 1) 0) ∙ h.three

  pub rotated-tails : Tails over
  rotated-tails =
      let e = rotated-reading in
      let count : (reading over).count ≡ n· + 1 = ap (λ (v : Reading). v.count) e in
      let id : (reading over).id ≡ id_plus i· 1 = ap (λ (v : Reading). v.id) e in
      let initial : (reading over).initial ≡ (reading r).initial = ap (λ (v : Reading). v.initial) e in
      let two : (n· + 1 + 1) % 3 ≡ (n· + 2) % 3 = ap (λ (n : ℕ). n % 3) (omega arith) in
      let three : (n· + 1 + 2) % 3 ≡ n· % 3 = omega arith in
      let own : id_of (tail_of r (n· % 3)) ≡ i· = sym (id-is r ∙ ap (λ (n : ℕ). id_of (tail_of r (n % 3))) (sym (count-is r))) in
      record {
        three = over-three;
        here = omega (arith, h.here);
        next = ap (λ (n : ℕ). id_plus (id_of (tail_of over ((n + 1) % 3))) 2) count ∙ ap (λ (k : ℕ). id_plus (id_of (tail_of over k)) 2) two
            ∙ ap (λ (z : ℤ). id_plus (id_of z) 2) (over-other ((n· + 2) % 3) (λ (q : (n· + 2) % 3 ≡ k·). omega arith)) ∙ omega (arith, h.last);
        last = ap (λ (n : ℕ). id_plus (id_of (tail_of over ((n + 2) % 3))) 1) count ∙ ap (λ (k : ℕ). id_plus (id_of (tail_of over k)) 1) three
            ∙ ap (λ (z : ℤ). id_plus (id_of z) 1) (over-other (n· % 3) (λ (q : n· % 3 ≡ k·). omega arith)) ∙ omega arith;
        high = omega arith;
      }

-- ---- the marks

pub moved_marks : (r : LogRecord) (k id o j : ℕ) → is_marked (with_tail r k id o) j ≡ is_marked r j
unfolding with_tail changed
moved_marks r k id o j = refl

module _ (r : LogRecord) (h : Tails r) (below : (reading r).count < 2147483647) where
  pub rotated-mark : (j : ℕ) → ¬ (j ≡ due (reading r).count) → is_marked (rotated r (reading r).count (reading r).id) j ≡ is_marked r j
  unfolding with_tail with_count with_mark noted changed
  rotated-mark j n = ap (λ (x : LogRecord). is_marked x j) (rotated-is r h below) ∙ get_or-set_other r.is_cleared (due (reading r).count) j false false n

  pub rotated-marked : length r.is_cleared ≡ 3 → is_marked (rotated r (reading r).count (reading r).id) (due (reading r).count) ≡ false
  unfolding with_tail with_count with_mark noted changed
  rotated-marked e = ap (λ (x : LogRecord). is_marked x (due (reading r).count)) (rotated-is r h below) ∙ get_or-set_same r.is_cleared (due (reading r).count) false false (omega arith)

  pub rotated-long : length (rotated r (reading r).count (reading r).id).is_cleared ≡ length r.is_cleared
  unfolding with_tail with_count with_mark noted changed
  rotated-long = ap (λ (x : LogRecord). length x.is_cleared) (rotated-is r h below) ∙ length-set r.is_cleared (due (reading r).count) false

-- ---- a partition marked, the slowest reader raised

module _ (r : LogRecord) (h : Tails r) where
  pub marked-reading : (k : ℕ) (b : Bool) → reading (with_mark r k b) ≡ reading r
  unfolding reading_of with_mark noted
  marked-reading k b = refl

  pub marked-tails : (k : ℕ) (b : Bool) → Tails (with_mark r k b)
  unfolding reading_of with_mark noted
  marked-tails k b = record { three = h.three; here = h.here; next = h.next; last = h.last; high = h.high }

  pub marked-same : (k : ℕ) (b : Bool) → k < length r.is_cleared → is_marked (with_mark r k b) k ≡ b
  unfolding with_mark noted
  marked-same k b l = get_or-set_same r.is_cleared k b false l

  pub marked_other : (k : ℕ) (b : Bool) (j : ℕ) → ¬ (j ≡ k) → is_marked (with_mark r k b) j ≡ is_marked r j
  unfolding with_mark noted
  marked_other k b j n = get_or-set_other r.is_cleared k j b false n

  pub marked-long : (k : ℕ) (b : Bool) → length (with_mark r k b).is_cleared ≡ length r.is_cleared
  unfolding with_mark noted
  marked-long k b = length-set r.is_cleared k b

  pub raised-reading : (p : ℤ) → reading (with_slowest r p) ≡ with-slow (reading r) (long p)
  unfolding reading_of with_slowest noted
  raised-reading p = refl

  pub raised-tails : (p : ℤ) → Tails (with_slowest r p)
  unfolding reading_of with_slowest noted
  raised-tails p = record { three = h.three; here = h.here; next = h.next; last = h.last; high = h.high }

  pub raised-marks : (p : ℤ) (j : ℕ) → is_marked (with_slowest r p) j ≡ is_marked r j
  unfolding with_slowest noted
  raised-marks p j = refl

-- ---- limit and close

module _ (r : LogRecord) (h : Tails r) where
  pub limit-reading : (n : ℤ) → reading (with_limit r n) ≡ with_rest (reading r) (long n) (reading r).closed
  unfolding reading_of with_limit changed
  limit-reading n = refl

  pub closed-reading : reading (with_closed r) ≡ with_rest (reading r) (reading r).limit true
  unfolding reading_of with_closed changed
  closed-reading = refl

  pub limit-tails : (n : ℤ) → Tails (with_limit r n)
  unfolding reading_of with_limit changed
  limit-tails n = record { three = h.three; here = h.here; next = h.next; last = h.last; high = h.high }

  pub closed-tails : Tails (with_closed r)
  unfolding reading_of with_closed changed
  closed-tails = record { three = h.three; here = h.here; next = h.next; last = h.last; high = h.high }

-- ---- the publisher's position

abbrev pub reached : Reading → ℕ
reached v = v.count * v.term + min v.offset v.term

-- the active term's count
pub count-of : (v : Reading) → v.initial < 4294967296 → v.count ≤ 2147483647 → v.id ≡ id_plus v.initial v.count → id_minus v.id v.initial ≡ v.count
count-of v a b e = ap (λ (i : ℕ). id_minus i v.initial) e ∙ omega arith

pub position-is : (v : Reading) → v.initial < 4294967296 → v.count ≤ 2147483647 → v.id ≡ id_plus v.initial v.count → publisher_position v ≡ pos (reached v)
position-is v a b e =
    ap (λ (d : ℕ). to_z w32 d *ℤ pos v.term +ℤ pos (min v.offset v.term)) (count-of v a b e)
    ∙ ap (λ (d : ℤ). d *ℤ pos v.term +ℤ pos (min v.offset v.term)) (to_z_pos w32 (omega arith))
