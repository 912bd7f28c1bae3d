-- The invariant of demand 3: the bytes of the log are those of the history's frames, then zeros, and the record stands at the history's
-- end. What an accepted offer, an accepted claim and a trip do to it.
use mathlib.Core.Path.{◌≡◌, refl, sym, ap, ap₂, ◌∙◌, subst}
use mathlib.Core.Bool.{true}
use mathlib.Core.Logic.{inl, inr}
use Prim.Native.Nat.{ℕ, zero, suc, ◌+◌, ◌-◌, ◌*◌, ◌%◌, ◌≤◌, ◌<◌, min}
use native.Mathlib.Nat.{le_of_lt, mod-eq_of_lt, mul-le-mul_right}
use mathlib.Core.List.{List, [], ◌∷◌, ◌++◌, append-nil}
use native.Mathlib.Omega.{arith}
use lib.Dec.{ltb}
use borrow.Author.Tests.{eq-eqb, le-ltb, lt-ltb}
use lib.ListN.{length, take, drop, length-append}
use lib.Seq.{length-take-le}
use lib.Arith.{digits_mod}
use lib.Count.{ones}
use lib.IntN.{ℤ}
use mir.Syntax.{w32}
use mir.Val.{to_z}
use mir.Facts.{of_z-to_z}
use Rattle.model.specs.declared.Claim.{Claim}
use Rattle.model.specs.declared.Reading.{Reading}
use Rattle.model.specs.Bytes.{word, long, splice, zeros}
use Rattle.model.specs.FrameDescriptor.{space, negated}
use Rattle.model.specs.LogBufferDescriptor.{id_plus, id_minus, payload_limit, greatest, sound, Sound}
use Rattle.model.specs.TermAppender.{header, Fragment, cut_from, cut, need, written, padded, claimed, claim_record}
use Rattle.model.specs.History.{Shape, shape_of, State, open·, committed, aborted, Extent, message, claimed·, padding, size_of, size_all, pad_to, term_of, start_of, Among}
use Rattle.model.proofs.Choice.{split, cond-true, cond-false, eq_yes, eq_no, le-case}
use Rattle.model.proofs.Splice.{length-zeros}
use Rattle.model.proofs.Sound.{term-32, sound-by}
use Rattle.model.proofs.Cells.{Cell, cell, stored, typ, head, flen, enc, bytes, sizes, length-bytes, bytes-append, sizes-append, flen-ge, fsize-ge, sizes-32}
use Rattle.model.proofs.Walking.{Small, AllSmall, Fits}
use Rattle.model.proofs.OneSession.{cells, frames, flat}
use Rattle.model.proofs.Tails.{count-of, reading_with_tail}
use Rattle.model.proofs.Writing.{fits_in, fits-append, puts, head-is, put-head, fsize-zeros}
use Rattle.model.proofs.Around.{Pads, message-size, size-all, pads-snoc, size-snoc, flat-snoc, IsClaim, At, at-append, at_new}

-- ---- what opening fixed

pub record Fixed (v : Reading) : Type 0 where
  pub term-low : 65536 ≤ v.term
  pub term-high : v.term ≤ 1073741824
  pub one_bit : ones v.term ≡ 1
  pub mtu-low : 64 ≤ v.mtu
  pub mtu-high : v.mtu ≤ 65504
  pub mtu-32 : v.mtu % 32 ≡ 0
  pub initial-small : v.initial < 4294967296
  pub live : v.connected ≡ 1

-- ---- claim records that have been answered

pub record Known (c : Shape) (h : List Extent) (k : Claim) : Type 0 where
  pub at : At c (start_of c k) (word k.length - 32) h
  pub long : 32 ≤ word k.length
  pub place : word k.partition ≡ term_of c k % 3

unfoldable pub AllKnown : Shape → List Extent → List Claim → Type 0
AllKnown c h [] = Unit {0}
AllKnown c h (k ∷ ks) = Known c h k × AllKnown c h ks

pub known_of : (c : Shape) (h : List Extent) (k : Claim) (ks : List Claim) → AllKnown c h ks → Among k ks → Known c h k
unfolding AllKnown Among
known_of c h k [] a m = absurd m
known_of c h k (l ∷ ks) a (inl e) = subst (Known c h) (sym e) a.0
known_of c h k (l ∷ ks) a (inr m) = known_of c h k ks a.1 m

pub known_on : (c : Shape) (h g : List Extent) (ks : List Claim) → ((q n : ℕ) → At c q n h → At c q n g) → AllKnown c h ks → AllKnown c g ks
unfolding AllKnown
known_on c h g [] f a = tt
known_on c h g (k ∷ ks) f a =
    let o = a.0 in
    (record { at = f (start_of c k) (word k.length - 32) o.at; long = o.long; place = o.place }, known_on c h g ks f a.1)

-- ---- the invariant

-- of the numbers that are read of the record, and the log
pub record Holds (c : Shape) (v : Reading) (log : List ℕ) (h : List Extent) (ks : List Claim) : Type 0 where
  pub is : shape_of v ≡ c
  pub fixed : Fixed v
  pub here : v.id ≡ id_plus v.initial v.count
  pub low : v.count < 2147483648
  pub size : sizes (flat c h) ≡ v.count * c.term + min v.offset c.term
  pub bytes-are : log ≡ bytes c 0 (flat c h) ++ zeros (2147483648 * c.term - sizes (flat c h))
  pub fits : Fits c.term c.term (flat c h)
  pub whole : v.offset % 32 ≡ 0
  pub most : v.offset ≤ 2147483647
  pub bound : v.limit ≤ 4611686018427387904
  pub slow-high : v.slowest ≤ greatest v
  pub slow-32 : v.slowest % 32 ≡ 0
  pub pads : Pads h
  pub known : AllKnown c h ks

below_all : (k T : ℕ) → k < 2147483648 → k * T + T ≤ 2147483648 * T
below_all k T h = omega (arith, mul-le-mul_right T h)

-- ---- frames of messages

small_is : (k : State) (fl re : ℕ) (b : List ℕ) → length b < 2147483616 → Small (cell k fl re b)
unfolding Small flen
small_is k fl re b h = omega arith

cut_small : (f pay fl re : ℕ) (b : List ℕ) → pay ≤ 65472 → AllSmall (cells (cut_from f pay fl re b))
unfolding AllSmall cells cut_from
cut_small zero pay fl re b h = tt
cut_small (suc f) pay fl re b h =
    le-case (λ (l : List Fragment). AllSmall (cells l)) (length b) pay _ _
    (λ k. (small_is committed (fl + 64) re b (omega arith), tt))
    (λ k. (small_is committed fl re (take pay b) (omega (arith, length-take-le pay b (le_of_lt k))), cut_small f pay 0 re (drop pay b) h))

cut-some : (f pay fl re : ℕ) (b : List ℕ) → 32 ≤ sizes (cells (cut_from (suc f) pay fl re b))
unfolding cut_from sizes cells
cut-some f pay fl re b =
    le-case (λ (l : List Fragment). 32 ≤ sizes (cells l)) (length b) pay _ _
    (λ k. omega (arith, fsize-ge (cell committed (fl + 64) re b), flen-ge (cell committed (fl + 64) re b)))
    (λ k. omega (arith, fsize-ge (cell committed fl re (take pay b)), flen-ge (cell committed fl re (take pay b))))

module _ (v : Reading) (log : List ℕ) (h : List Extent) (ks : List Claim) (i : Holds (shape_of v) v log h ks) where
  abbrev c· : Shape
  c· = shape_of v

  abbrev T : ℕ
  T = v.term

  abbrev pay : ℕ
  pay = payload_limit v

  f· : Fixed v
  f· = i.fixed

  pos-T : zero < T
  pos-T = omega (arith, i.fixed.term-low)

  pay-low : 32 ≤ pay
  pay-low = omega (arith, i.fixed.mtu-low)

  pay-32 : pay % 32 ≡ 0
  pay-32 = omega (arith, i.fixed.mtu-low, i.fixed.mtu-32)

  pay-high : pay ≤ 65472
  pay-high = omega (arith, i.fixed.mtu-high)

  -- row 2 is met
  pub long-log : length log ≡ 2147483648 * T
  long-log =
      ap length i.bytes-are ∙ length-append (bytes c· 0 (flat c· h)) (zeros (2147483648 * T - sizes (flat c· h)))
      ∙ omega (arith, length-bytes c· 0 (flat c· h), length-zeros (2147483648 * T - sizes (flat c· h)), i.size, below_all v.count T i.low)

  pub is-sound : (n : ℕ) → n ≡ 3 * T → Sound v n
  is-sound n e =
      record {
        term-low = i.fixed.term-low;
        term-high = i.fixed.term-high;
        one_bit = i.fixed.one_bit;
        mtu-low = i.fixed.mtu-low;
        mtu-high = i.fixed.mtu-high;
        mtu-32 = i.fixed.mtu-32;
        count-high = omega (arith, i.low);
        limit-high = i.bound;
        slowest-high = i.slow-high;
        slowest-32 = i.slow-32;
        offset-32 = i.whole;
        offset-high = i.most;
        three = e;
      }

  pub sound-is : (n : ℕ) → n ≡ 3 * T → sound v n ≡ true
  sound-is n e =
      sym (sound-by v n i.fixed.term-low i.fixed.term-high i.fixed.one_bit i.fixed.mtu-low i.fixed.mtu-high i.fixed.mtu-32
      (omega (arith, i.low)) i.bound i.slow-high i.slow-32 i.whole i.most)
      ∙ eq-eqb n (3 * v.term) e

  even : T % 32 ≡ 0
  even = term-32 v (3 * T) (is-sound (3 * T) refl)

  pub history-size : size_all c· h ≡ v.count * T + min v.offset T
  history-size = size-all c· (omega (arith, pay-low)) pay-32 h i.pads ∙ i.size

  front_long : v.offset ≤ T → length (bytes c· 0 (flat c· h)) ≡ v.count * T + v.offset
  front_long l = omega (arith, length-bytes c· 0 (flat c· h), i.size)

  enough : (n : ℕ) → v.offset + n ≤ T → n ≤ 2147483648 * T - sizes (flat c· h)
  enough n l = omega (arith, i.size, below_all v.count T i.low)

  -- ---- frames behind the last, in the term

  module _ (gs : List Cell) (h' : List Extent) (e : flat c· h' ≡ flat c· h ++ gs) (s : AllSmall gs) (l : v.offset < T) (r : v.offset + sizes gs ≤ T) where
    at-end : sizes (flat c· h) ≡ v.count * T + v.offset
    at-end = omega (arith, i.size)

    grown-size : sizes (flat c· h') ≡ v.count * T + (v.offset + sizes gs)
    grown-size = omega (arith, ap sizes e, sizes-append (flat c· h) gs, at-end)

    grown-fits : Fits T T (flat c· h')
    grown-fits =
        let full : T - 0 % T ≡ T = omega (arith, mod-eq_of_lt pos-T) in
        let here : (0 + sizes (flat c· h)) % T ≡ v.offset = ap (λ (n : ℕ). n % T) (omega (arith, at-end)) ∙ digits_mod v.count l in
        subst (Fits T T) (sym e)
        (subst (λ (n : ℕ). Fits T n (flat c· h ++ gs)) full
        (fits-append T 0 (flat c· h) gs pos-T (subst (λ (n : ℕ). Fits T n (flat c· h)) (sym full) i.fits)
        (subst (λ (n : ℕ). Fits T (T - n) gs) (sym here) (fits_in T (T - v.offset) gs s (omega arith)))))

    grown-log : (log' : List ℕ) → log' ≡ (bytes c· 0 (flat c· h) ++ bytes c· (v.count * T + v.offset) gs) ++ zeros (2147483648 * T - sizes (flat c· h) - sizes gs)
        → log' ≡ bytes c· 0 (flat c· h') ++ zeros (2147483648 * T - sizes (flat c· h'))
    grown-log log' q =
        q
        ∙ ap₂ (λ (p n : ℕ). (bytes c· 0 (flat c· h) ++ bytes c· p gs) ++ zeros n) (omega (arith, at-end)) (omega (arith, grown-size, at-end))
        ∙ ap (λ (b : List ℕ). b ++ zeros (2147483648 * T - sizes (flat c· h'))) (sym (bytes-append c· 0 (flat c· h) gs) ∙ ap (bytes c· 0) (sym e))

    -- with a tail that stands at the end
    grow : (count id offset : ℕ) (log' : List ℕ) (ks' : List Claim)
        → log' ≡ (bytes c· 0 (flat c· h) ++ bytes c· (v.count * T + v.offset) gs) ++ zeros (2147483648 * T - sizes (flat c· h) - sizes gs)
        → id ≡ id_plus v.initial count → count < 2147483648 → count * T + min offset T ≡ v.count * T + (v.offset + sizes gs)
        → offset % 32 ≡ 0 → offset ≤ 2147483647 → Pads h' → AllKnown c· h' ks' → Holds c· (reading_with_tail v count id offset) log' h' ks'
    grow count id offset log' ks' q d k p m o b a =
        record {
          is = refl;
          fixed = record { term-low = f·.term-low; term-high = f·.term-high; one_bit = f·.one_bit; mtu-low = f·.mtu-low; mtu-high = f·.mtu-high; mtu-32 = f·.mtu-32; initial-small = f·.initial-small; live = f·.live };
          here = d;
          low = k;
          size = grown-size ∙ sym p;
          bytes-are = grown-log log' q;
          fits = grown-fits;
          whole = m;
          most = o;
          bound = i.bound;
          slow-high = i.slow-high;
          slow-32 = i.slow-32;
          pads = b;
          known = a;
        }

  -- ---- an accepted offer

  offer-log : (re : ℕ) (m : List ℕ) → v.offset + sizes (cells (cut pay re m)) ≤ T
      → written v log (v.count * T) v.offset (cut pay re m)
      ≡ (bytes c· 0 (flat c· h) ++ bytes c· (v.count * T + v.offset) (cells (cut pay re m))) ++ zeros (2147483648 * T - sizes (flat c· h) - sizes (cells (cut pay re m)))
  offer-log re m l =
      ap (λ (x : List ℕ). written v x (v.count * T) v.offset (cut pay re m)) i.bytes-are
      ∙ puts v v.count i.here v.offset (2147483648 * T - sizes (flat c· h)) (bytes c· 0 (flat c· h)) (cut pay re m) (front_long (omega arith)) l (enough (sizes (cells (cut pay re m))) l)

  -- the fragments of a message take what it needs, at least 32, and are small
  need-size : (re : ℕ) (m : List ℕ) → sizes (cells (cut pay re m)) ≡ need pay (length m)
  need-size re m = message-size c· (omega (arith, pay-low)) pay-32 re m

  need-some : (re : ℕ) (m : List ℕ) → 32 ≤ sizes (cells (cut pay re m))
  unfolding cut
  need-some re m = cut-some (length m) pay 128 re m

  all_small : (re : ℕ) (m : List ℕ) → AllSmall (cells (cut pay re m))
  unfolding cut
  all_small re m = cut_small (suc (length m)) pay 128 re m pay-high

  frames-message : (re : ℤ) (m : List ℕ) → frames c· (message re m) ≡ cells (cut pay (long re) m)
  unfolding frames
  frames-message re m = refl

  no-pads : (e : Extent) → Pads (e ∷ []) → Pads (h ++ (e ∷ []))
  no-pads e p = pads-snoc h e i.pads p

  message-pads : (re : ℤ) (m : List ℕ) → Pads (message re m ∷ [])
  unfolding Pads
  message-pads re m = tt

  pub offer-holds : (re : ℤ) (m : List ℕ) → v.offset + need pay (length m) ≤ T → v.offset + need pay (length m) ≤ 2147483647
      → Holds c· (reading_with_tail v v.count v.id (v.offset + need pay (length m))) (written v log (v.count * T) v.offset (cut pay (long re) m)) (h ++ (message re m ∷ [])) ks
  offer-holds re m l o =
      let gs = cells (cut pay (long re) m) in
      let e : sizes gs ≡ need pay (length m) = need-size (long re) m in
      let g : 32 ≤ sizes gs = need-some (long re) m in
      grow gs (h ++ (message re m ∷ [])) (flat-snoc c· h (message re m) ∙ ap (λ (x : List Cell). flat c· h ++ x) (frames-message re m)) (all_small (long re) m) (omega arith) (omega arith)
      v.count v.id (v.offset + need pay (length m)) (written v log (v.count * T) v.offset (cut pay (long re) m)) ks (offer-log (long re) m (omega arith)) i.here i.low
      (omega arith) (omega (arith, sizes-32 gs, i.whole)) o (no-pads (message re m) (message-pads re m))
      (known_on c· h (h ++ (message re m ∷ [])) ks (λ q n a. at-append c· q n h (message re m ∷ []) a) i.known)

  message-long : (re : ℤ) (m : List ℕ) → size_of c· (message re m) ≡ need pay (length m)
  unfolding size_of
  message-long re m = refl

  pub offer-ends : (re : ℤ) (m : List ℕ) → v.offset ≤ T → v.count * T + v.offset + need pay (length m) ≡ size_all c· (h ++ (message re m ∷ []))
  offer-ends re m l = omega (arith, size-snoc c· h (message re m), message-long re m, history-size)

  -- ---- an accepted claim

  claim-log : (n : ℕ) → v.offset + space n ≤ T
      → claimed v log (v.count * T) n
      ≡ (bytes c· 0 (flat c· h) ++ bytes c· (v.count * T + v.offset) (cell open· 192 0 (zeros n) ∷ [])) ++ zeros (2147483648 * T - sizes (flat c· h) - sizes (cell open· 192 0 (zeros n) ∷ []))
  unfolding claimed bytes sizes stored typ
  claim-log n l =
      let p = v.count * T + v.offset in
      ap₂ (λ (x y : List ℕ). splice x p y) i.bytes-are (head-is v v.count i.here v.offset (negated (n + 32)) 192 1)
      ∙ put-head c· v.count v.offset (2147483648 * T - sizes (flat c· h)) (bytes c· 0 (flat c· h)) open· 192 n (front_long (omega arith)) (omega arith) (enough (space n) l)
      ∙ ap₂ (λ (x : List ℕ) (m : ℕ). (bytes c· 0 (flat c· h) ++ x) ++ zeros m) (sym (append-nil (enc c· p (cell open· 192 0 (zeros n))))) (omega (arith, fsize-zeros open· 192 n))

  frames-claim : (b : List ℕ) → frames c· (claimed· open· b) ≡ cell open· 192 0 b ∷ []
  unfolding frames
  frames-claim b = refl

  claim-pads : (b : List ℕ) → Pads (claimed· open· b ∷ [])
  unfolding Pads
  claim-pads b = tt

  id-back : v.id < 4294967296 → word (to_z w32 v.id) ≡ v.id
  id-back l = of_z-to_z {w = w32} (record { fits = omega arith })

  pub own-count : id_minus v.id v.initial ≡ v.count
  own-count = count-of v i.fixed.initial-small (omega (arith, i.low)) i.here

  claim-term : v.id < 4294967296 → (n : ℕ) → term_of c· (claim_record v (v.count % 3) n) ≡ v.count
  unfolding term_of claim_record
  claim-term s n = ap (λ (d : ℕ). id_minus d v.initial) (id-back s) ∙ own-count

  claim-offset : (n : ℕ) → word (claim_record v (v.count % 3) n).offset ≡ v.offset
  unfolding claim_record
  claim-offset n = refl

  claim-starts : v.id < 4294967296 → v.offset ≤ T → (n : ℕ) → start_of c· (claim_record v (v.count % 3) n) ≡ size_all c· h
  unfolding start_of
  claim-starts s l n = ap₂ (λ (d o : ℕ). d * T + o) (claim-term s n) (claim-offset n) ∙ omega (arith, history-size)

  is-claim : (n : ℕ) → IsClaim (n + 32 - 32) (claimed· open· (zeros n))
  unfolding IsClaim
  is-claim n = omega (arith, length-zeros n)

  partition-is : (n : ℕ) → word (claim_record v (v.count % 3) n).partition ≡ v.count % 3
  unfolding claim_record
  partition-is n = refl

  claim-spot : v.id < 4294967296 → (n : ℕ) → word (claim_record v (v.count % 3) n).partition ≡ term_of c· (claim_record v (v.count % 3) n) % 3
  claim-spot s n = partition-is n ∙ ap (λ (d : ℕ). d % 3) (sym (claim-term s n))

  claim-length : (n : ℕ) → word (claim_record v (v.count % 3) n).length ≡ n + 32
  unfolding claim_record
  claim-length n = refl

  claim-known : v.id < 4294967296 → v.offset ≤ T → (n : ℕ) → Known c· (h ++ (claimed· open· (zeros n) ∷ [])) (claim_record v (v.count % 3) n)
  claim-known s l n =
      record {
        at = subst (λ (q : ℕ). At c· q (word (claim_record v (v.count % 3) n).length - 32) (h ++ (claimed· open· (zeros n) ∷ []))) (sym (claim-starts s l n))
            (subst (λ (m : ℕ). At c· (size_all c· h) (m - 32) (h ++ (claimed· open· (zeros n) ∷ []))) (sym (claim-length n)) (at_new c· (n + 32 - 32) h (claimed· open· (zeros n)) (is-claim n)));
        long = omega (arith, claim-length n);
        place = claim-spot s n;
      }

  one-small : (k : State) (fl n : ℕ) → n < 2147483616 → AllSmall (cell k fl 0 (zeros n) ∷ [])
  unfolding AllSmall
  one-small k fl n l = (small_is k fl 0 (zeros n) (omega (arith, length-zeros n)), tt)

  one_size : (k : State) (fl n : ℕ) → sizes (cell k fl 0 (zeros n) ∷ []) ≡ space n
  unfolding sizes
  one_size k fl n = omega (arith, fsize-zeros k fl n)

  both-known : (g : List Extent) (k : Claim) → Known c· g k → AllKnown c· g ks → AllKnown c· g (k ∷ ks)
  unfolding AllKnown
  both-known g k a b = (a, b)

  pub claim-holds : v.id < 4294967296 → (n : ℕ) → n ≤ pay → v.offset + space n ≤ T → v.offset + space n ≤ 2147483647
      → Holds c· (reading_with_tail v v.count v.id (v.offset + space n)) (claimed v log (v.count * T) n) (h ++ (claimed· open· (zeros n) ∷ [])) (claim_record v (v.count % 3) n ∷ ks)
  claim-holds s n p l o =
      let gs = cell open· 192 0 (zeros n) ∷ [] in
      let h' = h ++ (claimed· open· (zeros n) ∷ []) in
      let e : sizes gs ≡ space n = one_size open· 192 n in
      grow gs h' (flat-snoc c· h (claimed· open· (zeros n)) ∙ ap (λ (x : List Cell). flat c· h ++ x) (frames-claim (zeros n))) (one-small open· 192 n (omega (arith, pay-high))) (omega arith) (omega arith)
      v.count v.id (v.offset + space n) (claimed v log (v.count * T) n) (claim_record v (v.count % 3) n ∷ ks) (claim-log n l) i.here i.low
      (omega arith) (omega (arith, i.whole)) o (no-pads (claimed· open· (zeros n)) (claim-pads (zeros n)))
      (both-known h' (claim_record v (v.count % 3) n) (claim-known s (omega arith) n) (known_on c· h h' ks (λ q m a. at-append c· q m h (claimed· open· (zeros n) ∷ []) a) i.known))

  claim-long : (n : ℕ) → size_of c· (claimed· open· (zeros n)) ≡ space n
  unfolding size_of
  claim-long n = ap space (length-zeros n)

  pub claim-ends : (n : ℕ) → v.offset ≤ T → v.count * T + v.offset + space n ≡ size_all c· (h ++ (claimed· open· (zeros n) ∷ []))
  claim-ends n l = omega (arith, size-snoc c· h (claimed· open· (zeros n)), claim-long n, history-size)

  -- ---- a trip: the log is padded as the history is

  size-mod : v.offset < T → size_all c· h % T ≡ v.offset
  size-mod l = ap (λ (n : ℕ). n % T) (history-size ∙ omega arith) ∙ digits_mod v.count l

  size-full : T ≤ v.offset → size_all c· h % T ≡ 0
  size-full l =
      let e : size_all c· h ≡ (v.count + 1) * T + 0 = omega (arith, history-size) in
      ap (λ (n : ℕ). n % T) e ∙ digits_mod (v.count + 1) pos-T

  abbrev left : ℕ
  left = T - v.offset - 32

  room-left : v.offset < T → T - v.offset ≡ left + 32
  room-left l = omega (arith, i.whole, even)

  space-left : v.offset < T → space left ≡ T - v.offset
  space-left l = omega (arith, i.whole, even)

  pad-log : v.offset < T
      → splice log (v.count * T + v.offset) (header v v.offset (T - v.offset) 192 0)
      ≡ (bytes c· 0 (flat c· h) ++ bytes c· (v.count * T + v.offset) (cell aborted 192 0 (zeros left) ∷ [])) ++ zeros (2147483648 * T - sizes (flat c· h) - sizes (cell aborted 192 0 (zeros left) ∷ []))
  unfolding bytes sizes stored typ
  pad-log l =
      let p = v.count * T + v.offset in
      ap₂ (λ (x y : List ℕ). splice x p y) i.bytes-are (head-is v v.count i.here v.offset (T - v.offset) 192 0 ∙ ap (λ (n : ℕ). head c· v.offset (c·.initial + v.count) n 192 0) (room-left l))
      ∙ put-head c· v.count v.offset (2147483648 * T - sizes (flat c· h)) (bytes c· 0 (flat c· h)) aborted 192 left (front_long (omega arith)) l (enough (space left) (omega (arith, space-left l)))
      ∙ ap₂ (λ (x : List ℕ) (m : ℕ). (bytes c· 0 (flat c· h) ++ x) ++ zeros m) (sym (append-nil (enc c· p (cell aborted 192 0 (zeros left))))) (omega (arith, fsize-zeros aborted 192 left))

  frames-padding : frames c· (padding (T - v.offset)) ≡ cell aborted 192 0 (zeros left) ∷ []
  unfolding frames
  frames-padding = refl

  padding-pads : v.offset < T → Pads (padding (T - v.offset) ∷ [])
  unfolding Pads
  padding-pads l = (omega (arith, i.whole, even), omega (arith, i.whole, even), tt)

  pad-holds : v.offset < T → (count id offset : ℕ) → id ≡ id_plus v.initial count → count < 2147483648 → count * T + min offset T ≡ v.count * T + T → offset % 32 ≡ 0 → offset ≤ 2147483647
      → Holds c· (reading_with_tail v count id offset) (splice log (v.count * T + v.offset) (header v v.offset (T - v.offset) 192 0)) (h ++ (padding (T - v.offset) ∷ [])) ks
  pad-holds l count id offset d k p m o =
      let gs = cell aborted 192 0 (zeros left) ∷ [] in
      let s : sizes gs ≡ T - v.offset = one_size aborted 192 left ∙ space-left l in
      grow gs (h ++ (padding (T - v.offset) ∷ [])) (flat-snoc c· h (padding (T - v.offset)) ∙ ap (λ (x : List Cell). flat c· h ++ x) frames-padding) (one-small aborted 192 left (omega (arith, f·.term-high))) l (omega arith)
      count id offset (splice log (v.count * T + v.offset) (header v v.offset (T - v.offset) 192 0)) ks (pad-log l) d k (omega arith) m o (no-pads (padding (T - v.offset)) (padding-pads l))
      (known_on c· h (h ++ (padding (T - v.offset) ∷ [])) ks (λ q n a. at-append c· q n h (padding (T - v.offset) ∷ []) a) i.known)

  -- nothing is left of the term
  full-holds : T ≤ v.offset → (count id offset : ℕ) → id ≡ id_plus v.initial count → count < 2147483648 → count * T + min offset T ≡ v.count * T + T → offset % 32 ≡ 0 → offset ≤ 2147483647
      → Holds c· (reading_with_tail v count id offset) log h ks
  full-holds l count id offset d k p m o =
      record {
        is = refl;
        fixed = record { term-low = f·.term-low; term-high = f·.term-high; one_bit = f·.one_bit; mtu-low = f·.mtu-low; mtu-high = f·.mtu-high; mtu-32 = f·.mtu-32; initial-small = f·.initial-small; live = f·.live };
        here = d;
        low = k;
        size = omega (arith, i.size);
        bytes-are = i.bytes-are;
        fits = i.fits;
        whole = m;
        most = o;
        bound = i.bound;
        slow-high = i.slow-high;
        slow-32 = i.slow-32;
        pads = i.pads;
        known = i.known;
      }

  pads-full : T ≤ v.offset → pad_to c· h ≡ h
  unfolding pad_to
  pads-full l = eq_yes (size_all c· h % T) 0 h (h ++ (padding (T - size_all c· h % T) ∷ [])) (size-full l)

  pads-some : zero < v.offset → v.offset < T → pad_to c· h ≡ h ++ (padding (T - v.offset) ∷ [])
  unfolding pad_to
  pads-some z l =
      eq_no (size_all c· h % T) 0 h (h ++ (padding (T - size_all c· h % T) ∷ [])) (λ (e : size_all c· h % T ≡ 0). omega (arith, size-mod l))
      ∙ ap (λ (n : ℕ). h ++ (padding (T - n) ∷ [])) (size-mod l)

  padded-full : T ≤ v.offset → padded v log (v.count * T) ≡ log
  unfolding padded
  padded-full l = cond-false (ltb v.offset T) _ log (le-ltb v.offset T l)

  padded-some : v.offset < T → padded v log (v.count * T) ≡ splice log (v.count * T + v.offset) (header v v.offset (T - v.offset) 192 0)
  unfolding padded
  padded-some l = cond-true (ltb v.offset T) _ log (lt-ltb v.offset T l)

  pub trip-holds : zero < v.offset → (count id offset : ℕ) → id ≡ id_plus v.initial count → count < 2147483648 → count * T + min offset T ≡ v.count * T + T → offset % 32 ≡ 0 → offset ≤ 2147483647
      → Holds c· (reading_with_tail v count id offset) (padded v log (v.count * T)) (pad_to c· h) ks
  trip-holds z count id offset d k p m o =
      split T v.offset
      (λ l.
      subst (λ (x : List ℕ). Holds c· (reading_with_tail v count id offset) x (pad_to c· h) ks) (sym (padded-full l))
      (subst (λ (g : List Extent). Holds c· (reading_with_tail v count id offset) log g ks) (sym (pads-full l)) (full-holds l count id offset d k p m o)))
      (λ l.
      subst (λ (x : List ℕ). Holds c· (reading_with_tail v count id offset) x (pad_to c· h) ks) (sym (padded-some l))
      (subst (λ (g : List Extent). Holds c· (reading_with_tail v count id offset) (splice log (v.count * T + v.offset) (header v v.offset (T - v.offset) 192 0)) g ks) (sym (pads-some z l))
      (pad-holds l count id offset d k p m o)))
