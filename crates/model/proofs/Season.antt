-- A season, proved: opening starts the invariant, every call keeps it, and from any answered position of a term not cleared a log that it
-- holds of replays to what the history tells from there on.
use Rattle.std.specs.Prelude.{Result, Ok, Err, ⊤}
use Rattle.model.specs.declared.Error.{Error}
use mathlib.Core.Path.{◌≡◌, refl, sym, ap, ap₂, ◌∙◌, subst}
use mathlib.Core.Logic.{◌⊎◌, inl, inr}
use mathlib.Core.Bool.{Bool, true, false, cond, not}
use Prim.Native.Nat.{ℕ, zero, suc, ◌+◌, ◌-◌, ◌*◌, ◌/◌, ◌%◌, ◌≤◌, ◌<◌}
use native.Mathlib.Nat.{mod-eq_of_lt, mul-le-mul_right, le-div_iff_mul-le, zero-add}
use mathlib.Core.List.{List, [], ◌∷◌, ◌++◌, append_assoc, append-nil}
use native.Mathlib.Omega.{arith}
use lib.Dec.{ltb, leb, eqb}
use lib.ListN.{length, drop}
use lib.Seq.{drop_at}
use lib.IntN.{ℤ, pos}
use lib.Signed.{lt_z}
use borrow.Author.Tests.{ltb-true}
use Rattle.model.specs.declared.LogRecord.{LogRecord}
use Rattle.model.specs.declared.Claim.{Claim}
use Rattle.model.specs.declared.Reading.{Reading}
use Rattle.model.specs.declared.Error.TheVariants.{IllegalRecord}
use Rattle.model.specs.declared.Claimed.{Claimed}
use Rattle.model.specs.Bytes.{word, zeros}
use Rattle.model.specs.FrameDescriptor.{space}
use Rattle.model.specs.LogBufferDescriptor.{id_bits, id_plus, id_minus, active, id_of, tail_of, reading_of, reading, publisher_position, sound, Sound, is_marked}
use Rattle.model.specs.Publication.{opened_record, open_verdict, open_by, open_bytes_by, open_of, open_bytes}
use Rattle.model.specs.FragmentAssembler.{part_length}
use Rattle.model.specs.History.{Call, offer, claim, fill, commit, abort, set_limit, close, clear, raise, Answer, offered, claimed, outcome, World, step, answers, left, Shape, shape_of, State, Extent, message, claimed·, padding, size_of, size_all, pad_to, edit, written·, turned, open·, committed, aborted, start_of, after_done, tell, told, messages, total, learn, Terms, no_terms, tell_terms, told_terms, Given, AllGiven}
use Rattle.model.specs.Demand as Demand
use Rattle.model.specs.Demand.{EndAt, Ends, IsAnswer, Answered, from, Replayed, ReplayedFree, GivesAll, opened, shape, history, cleared_by, Start, Upheld, Season, Demand3}
use Rattle.model.proofs.Choice.{cond-case, le-no}
use Rattle.model.proofs.RawTail.{raw-bits, raw-id, raw-offset}
use Rattle.model.proofs.Sound.{sound-true, initial-small}
use Rattle.model.proofs.Splice.{length-zeros}
use Rattle.model.proofs.Cells.{Cell, bytes, sizes, length-bytes, bytes-append, sizes-append, sizes-32}
use Rattle.model.proofs.Walking.{Fits}
use Rattle.model.proofs.Rooms.{fits-back}
use Rattle.model.proofs.OneSession.{flat, Asm, made}
use Rattle.model.proofs.Writing.{length-overlay}
use Rattle.model.proofs.Around.{Pads, pads-front, size-all, flat_append}
use Rattle.model.proofs.Tails.{Tails, reached, position-is}
use Rattle.model.proofs.Cut.{need-some, need-covers}
use Rattle.model.proofs.Rising.{rises}
use Rattle.model.specs.Corollaries.{Rising, Usual, AllUsual}
use Rattle.model.proofs.Window.{Shows, Window}
use Rattle.model.proofs.Keeping.{AllKnown, known_of, Holds, is-sound, sound-is, history-size}
use Rattle.model.proofs.Kept.{Marks, Inv}
use Rattle.model.proofs.Calls.{Keeps, offer-keeps, claim-keeps}
use Rattle.model.proofs.Clearing.{clear-keeps, raise-keeps, limit-keeps, close-keeps, get_d-zeros}
use Rattle.model.proofs.Claims.{commit-keeps, abort-keeps, fill-keeps}
use Rattle.model.proofs.Usual.{step-usual}
use Rattle.model.proofs.Replaying.{replays, replays-free, gives_all}

-- ---- every call

own-keeps : (r : LogRecord) (log : List ℕ) (h : List Extent) (ks : List Claim) (s : Terms) → Inv (shape_of (reading r)) (record { record· = r; log = log }) h ks s
    → (y : Call) → Given (shape_of (reading r)) ks s y → Keeps (shape_of (reading r)) h ks s y (step (record { record· = r; log = log }) y)
own-keeps r log h ks s i (offer m re) g = offer-keeps r log h ks s i.tails i.long i.all i.holds i.window i.marks m re
own-keeps r log h ks s i (claim n) g = claim-keeps r log h ks s i.tails i.long i.all i.holds i.window i.marks n
own-keeps r log h ks s i (fill k b) g =
    fill-keeps r log h ks s i.tails i.long i.all i.holds i.window i.marks k (known_of (shape_of (reading r)) h k ks i.holds.known g.0) g.1 b
own-keeps r log h ks s i (commit k) g =
    commit-keeps r log h ks s i.tails i.long i.all i.holds i.window i.marks k (known_of (shape_of (reading r)) h k ks i.holds.known g.0) g.1
own-keeps r log h ks s i (abort k) g =
    abort-keeps r log h ks s i.tails i.long i.all i.holds i.window i.marks k (known_of (shape_of (reading r)) h k ks i.holds.known g.0) g.1
own-keeps r log h ks s i (set_limit n) g = limit-keeps r log h ks s i.tails i.long i.all i.holds i.window i.marks n
own-keeps r log h ks s i close g = close-keeps r log h ks s i.tails i.long i.all i.holds i.window i.marks
own-keeps r log h ks s i (clear k) g = clear-keeps r log h ks s i.tails i.long i.all i.holds i.window i.marks k
own-keeps r log h ks s i (raise p) g = raise-keeps r log h ks s i.tails i.long i.all i.holds i.window i.marks p

-- whatever the shape is called
pub step_keeps : (c : Shape) (w : World) (h : List Extent) (ks : List Claim) (s : Terms) → Inv c w h ks s → (y : Call) → Given c ks s y → Keeps c h ks s y (step w y)
step_keeps c w h ks s i y g =
    subst (λ (c : Shape). Inv c w h ks s → Given c ks s y → Keeps c h ks s y (step w y)) i.holds.is
    (λ i g. own-keeps w.record· w.log h ks s i y g) i g

any-usual : (c : Shape) (w : World) (h : List Extent) (ks : List Claim) (s : Terms) → Inv c w h ks s → (y : Call) → Usual y (step w y).answer
any-usual c w h ks s i y =
    subst (λ (c : Shape). Inv c w h ks s → Usual y (step w y).answer) i.holds.is (λ i. step-usual w.record· w.log h ks s i y) i

-- ---- lists of calls

-- the claim records answered so far
unfoldable later : List Claim → List (Call × Answer) → List Claim
later ks [] = ks
later ks (t ∷ ts) = later (learn ks t.1) ts

record Ran (c : Shape) (w : World) (h : List Extent) (ks : List Claim) (s : Terms) (calls : List Call) : Type 0 where
  inv : Inv c (left w calls) (told c h (answers w calls)) (later ks (answers w calls)) (told_terms s (answers w calls))
  ends : Ends c h (answers w calls)
  usual : AllUsual (answers w calls)

runs : (c : Shape) (w : World) (h : List Extent) (ks : List Claim) (s : Terms) (calls : List Call) → Inv c w h ks s → AllGiven c ks s w calls → Ran c w h ks s calls
unfolding answers left told later told_terms AllGiven Ends AllUsual
runs c w h ks s [] i g = record { inv = i; ends = tt; usual = tt }
runs c w h ks s (x ∷ xs) i g =
    let k = step_keeps c w h ks s i x g.0 in
    let r = runs c (step w x).next (tell c h x (step w x).answer) (learn ks (step w x).answer) (tell_terms s x (step w x).answer) xs k.0 g.1 in
    record { inv = r.inv; ends = (k.1, r.ends); usual = (any-usual c w h ks s i x, r.usual) }

-- ---- positions at which an extent ends

pub record Boundary (c : Shape) (p : ℕ) (h : List Extent) : Type 0 where
  pub front : List Extent
  pub back : List Extent
  pub cut : h ≡ front ++ back
  pub at : size_all c front ≡ p

bound-more : (c : Shape) (p : ℕ) (h g : List Extent) → Boundary c p h → Boundary c p (h ++ g)
bound-more c p h g b =
    record { front = b.front; back = b.back ++ g; cut = ap (λ (l : List Extent). l ++ g) b.cut ∙ append_assoc b.front b.back g; at = b.at }

bound-end : (c : Shape) (h : List Extent) → Boundary c (size_all c h) h
bound-end c h = record { front = h; back = []; cut = sym (append-nil h); at = refl }

bound-pad : (c : Shape) (p : ℕ) (h : List Extent) → Boundary c p h → Boundary c p (pad_to c h)
unfolding pad_to
bound-pad c p h b =
    cond-case (Boundary c p) (eqb (size_all c h % c.term) 0) h _ (λ e. b) (λ e. bound-more c p h (padding (c.term - size_all c h % c.term) ∷ []) b)

bound-if : (c : Shape) (p : ℕ) (h : List Extent) (t : Bool) → Boundary c p h → Boundary c p (cond t (pad_to c h) h)
bound-if c p h t b = cond-case (Boundary c p) t (pad_to c h) h (λ e. bound-pad c p h b) (λ e. b)

bound-cons : (c : Shape) (p : ℕ) (e : Extent) (h : List Extent) → Boundary c p h → Boundary c (size_of c e + p) (e ∷ h)
unfolding size_all
bound-cons c p e h b = record { front = e ∷ b.front; back = b.back; cut = ap (λ (l : List Extent). e ∷ l) b.cut; at = ap (λ (n : ℕ). size_of c e + n) b.at }

-- an edit keeps sizes
module _ (c : Shape) (f : Extent → Extent) (keeps : (e : Extent) → size_of c (f e) ≡ size_of c e) where
  edit-bound : (q p : ℕ) (front back : List Extent) → size_all c front ≡ p → Boundary c p (edit c f q (front ++ back))
  unfolding edit size_all
  edit-bound q p [] back e = record { front = []; back = edit c f q back; cut = refl; at = e }
  edit-bound q p (x ∷ front) back e =
      subst (λ (n : ℕ). Boundary c n (edit c f q (x ∷ front ++ back))) e
      (cond-case (Boundary c (size_of c x + size_all c front)) (leb (size_of c x) q) _ _
      (λ y. bound-cons c (size_all c front) x (edit c f (q - size_of c x) (front ++ back)) (edit-bound (q - size_of c x) (size_all c front) front back refl))
      (λ y. subst (λ (n : ℕ). Boundary c (n + size_all c front) (f x ∷ (front ++ back))) (keeps x) (bound-cons c (size_all c front) (f x) (front ++ back) (record { front = front; back = back; cut = refl; at = refl }))))

  bound-edit : (q p : ℕ) (h : List Extent) → Boundary c p h → Boundary c p (edit c f q h)
  bound-edit q p h b = subst (λ (l : List Extent). Boundary c p (edit c f q l)) (sym b.cut) (edit-bound q p b.front b.back b.at)

written-size : (c : Shape) (b : List ℕ) (e : Extent) → size_of c (written· b e) ≡ size_of c e
unfolding size_of
written-size c b (message re m) = refl
written-size c b (claimed· s body) = ap space (length-overlay body b)
written-size c b (padding n) = refl

turned-size : (c : Shape) (s : State) (e : Extent) → size_of c (turned s e) ≡ size_of c e
unfolding size_of
turned-size c s (message re m) = refl
turned-size c s (claimed· t body) = refl
turned-size c s (padding n) = refl

done-bound : (c : Shape) (p : ℕ) (h g : List Extent) (a : Result ⊤ Error) → Boundary c p h → Boundary c p g → Boundary c p (after_done h g a)
done-bound c p h g (Ok _) b d = d
done-bound c p h g (Err e) b d = b

offer-bound : (c : Shape) (p : ℕ) (h : List Extent) (m : List ℕ) (re : ℤ) (t : Bool) (a : Result ℤ Error) → Boundary c p h → Boundary c p (tell c h (offer m re) (offered t a))
unfolding tell
offer-bound c p h m re t (Ok q) b = bound-more c p h (message re m ∷ []) b
offer-bound c p h m re t (Err e) b = bound-if c p h t b

claim-bound : (c : Shape) (p : ℕ) (h : List Extent) (n : ℤ) (t : Bool) (a : Result Claimed Error) → Boundary c p h → Boundary c p (tell c h (claim n) (claimed t a))
unfolding tell
claim-bound c p h n t (Ok given) b = bound-more c p h _ b
claim-bound c p h n t (Err e) b = bound-if c p h t b

tell-bound : (c : Shape) (p : ℕ) (h : List Extent) (y : Call) (a : Answer) → Boundary c p h → Boundary c p (tell c h y a)
unfolding tell
tell-bound c p h (offer m re) (offered t a) b = offer-bound c p h m re t a b
tell-bound c p h (offer m re) (claimed t a) b = b
tell-bound c p h (offer m re) (outcome a) b = b
tell-bound c p h (claim n) (offered t a) b = b
tell-bound c p h (claim n) (claimed t a) b = claim-bound c p h n t a b
tell-bound c p h (claim n) (outcome a) b = b
tell-bound c p h (fill k x) (offered t a) b = b
tell-bound c p h (fill k x) (claimed t a) b = b
tell-bound c p h (fill k x) (outcome a) b = done-bound c p h _ a b (bound-edit c (written· x) (written-size c x) (start_of c k) p h b)
tell-bound c p h (commit k) (offered t a) b = b
tell-bound c p h (commit k) (claimed t a) b = b
tell-bound c p h (commit k) (outcome a) b = done-bound c p h _ a b (bound-edit c (turned committed) (turned-size c committed) (start_of c k) p h b)
tell-bound c p h (abort k) (offered t a) b = b
tell-bound c p h (abort k) (claimed t a) b = b
tell-bound c p h (abort k) (outcome a) b = done-bound c p h _ a b (bound-edit c (turned aborted) (turned-size c aborted) (start_of c k) p h b)
tell-bound c p h (set_limit n) a b = b
tell-bound c p h close a b = b
tell-bound c p h (clear k) a b = b
tell-bound c p h (raise q) a b = b

told-bound : (c : Shape) (p : ℕ) (h : List Extent) (ts : List (Call × Answer)) → Boundary c p h → Boundary c p (told c h ts)
unfolding told
told-bound c p h [] b = b
told-bound c p h (t ∷ ts) b = told-bound c p (tell c h t.0 t.1) ts (tell-bound c p h t.0 t.1 b)

same-offered : (p n : ℕ) (a : Result ℤ Error) → Demand.IsOffered p a → Demand.EndOffered n a → n ≡ p
same-offered p n (Ok q) i e = cc
same-offered p n (Err x) i e = absurd i

same-claimed : (p n : ℕ) (a : Result Claimed Error) → Demand.IsClaimed p a → Demand.EndClaimed n a → n ≡ p
same-claimed p n (Ok given) i e = cc
same-claimed p n (Err x) i e = absurd i

same_answer : (p n : ℕ) (a : Answer) → IsAnswer p a → EndAt n a → n ≡ p
same_answer p n (offered t a) i e = same-offered p n a i e
same_answer p n (claimed t a) i e = same-claimed p n a i e
same_answer p n (outcome a) i e = absurd i

-- an answered position is the end of an extent, and stays one
answered-bound : (c : Shape) (p : ℕ) (h : List Extent) (ts : List (Call × Answer)) → Answered p ts → Ends c h ts → Boundary c p (told c h ts)
unfolding told Answered Ends
answered-bound c p h [] a e = absurd a
answered-bound c p h (t ∷ ts) (inl a) e =
    let g = tell c h t.0 t.1 in
    told-bound c p g ts (subst (λ (n : ℕ). Boundary c n g) (same_answer p (size_all c g) t.1 a e.0) (bound-end c g))
answered-bound c p h (t ∷ ts) (inr a) e = answered-bound c p (tell c h t.0 t.1) ts a e.1

pub start-bound : (c : Shape) (p : ℕ) (ts : List (Call × Answer)) → ((p ≡ 0) ⊎ Answered p ts) → Ends c [] ts → Boundary c p (told c [] ts)
unfolding size_all
start-bound c p ts (inl z) e = told-bound c p [] ts (record { front = []; back = []; cut = refl; at = sym z })
start-bound c p ts (inr a) e = answered-bound c p [] ts a e

-- ---- the messages of a history, and their bytes, take less than its extents

messages-fit : (c : Shape) (h : List Extent) → 0 < c.payload → total (messages h) + length (messages h) ≤ size_all c h
unfolding messages total size_all size_of
messages-fit c [] z = omega arith
messages-fit c (message re m ∷ h) z = omega (arith, messages-fit c h z, need-covers c.payload (length m) z)
messages-fit c (claimed· open· b ∷ h) z = omega arith
messages-fit c (claimed· committed b ∷ h) z = omega (arith, messages-fit c h z)
messages-fit c (claimed· aborted b ∷ h) z = omega (arith, messages-fit c h z)
messages-fit c (padding n ∷ h) z = omega (arith, messages-fit c h z)

-- so those of three terms are few
pub record Few (r : LogRecord) (ms : List (List ℕ)) : Type 0 where
  pub messages : length ms ≤ 3 * (reading r).term
  pub bytes : total ms ≤ 3221225472

-- ---- the extents from a boundary on

some_size : (c : Shape) → 32 ≤ c.payload → (e : Extent) (h : List Extent) → Pads (e ∷ h) → 32 ≤ size_of c e
unfolding size_of Pads
some_size c l (message re m) h p = need-some c.payload (length m)
some_size c l (claimed· k b) h p = omega arith
some_size c l (padding n) h p = p.1

pads-tail : (e : Extent) (h : List Extent) → Pads (e ∷ h) → Pads h
unfolding Pads
pads-tail (message re m) h p = p
pads-tail (claimed· k b) h p = p
pads-tail (padding n) h p = p.2

pub pads-back : (h g : List Extent) → Pads (h ++ g) → Pads g
pads-back [] g p = p
pads-back (e ∷ h) g p = pads-back h g (pads-tail e (h ++ g) p)

from-here : (c : Shape) (back : List Extent) → from c 0 back ≡ back
unfolding from
from-here c [] = refl
from-here c (e ∷ back) = refl

from_is : (c : Shape) → 32 ≤ c.payload → (front back : List Extent) → Pads (front ++ back) → from c (size_all c front) (front ++ back) ≡ back
unfolding from size_all
from_is c l [] back p = from-here c back
from_is c l (e ∷ front) back p =
    let s = some_size c l e (front ++ back) p in
    let n : size_of c e + size_all c front - size_of c e ≡ size_all c front = omega arith in
    le-no (size_of c e + size_all c front) 0 _ _ (omega arith) ∙ ap (λ (m : ℕ). from c m (front ++ back)) n ∙ from_is c l front back (pads-tail e (front ++ back) p)

-- ---- a log that the invariant holds of replays from any boundary of a term not cleared

module _ (r : LogRecord) (log : List ℕ) (h : List Extent) (ks : List Claim) (s : Terms) (i : Inv (shape_of (reading r)) (record { record· = r; log = log }) h ks s) (p : ℕ)
    (b : Boundary (shape_of (reading r)) p h) (kept : s.cleared ≤ p / (reading r).term) where
  abbrev v : Reading
  v = reading r

  abbrev c : Shape
  c = shape_of (reading r)

  abbrev T : ℕ
  T = (reading r).term

  abbrev all : List ℕ
  all = i.all

  abbrev g : Holds (shape_of (reading r)) (reading r) i.all h ks
  g = i.holds

  abbrev z : ℕ
  z = 2147483648 * (reading r).term - sizes (flat (shape_of (reading r)) h)

  pub pay : 32 ≤ c.payload
  pay = omega (arith, g.fixed.mtu-low)

  pub pos-T : zero < T
  pos-T = omega (arith, g.fixed.term-low)

  pub pads : Pads (b.front ++ b.back)
  pads = subst Pads b.cut g.pads

  flat-is : flat c h ≡ flat c b.front ++ flat c b.back
  flat-is = ap (flat c) b.cut ∙ flat_append c b.front b.back

  front-size : sizes (flat c b.front) ≡ p
  front-size = sym (size-all c (omega (arith, pay)) (omega (arith, g.fixed.mtu-low, g.fixed.mtu-32)) b.front (pads-front b.front b.back pads)) ∙ b.at

  whole-size : p + sizes (flat c b.back) ≡ sizes (flat c h)
  whole-size = sym (ap sizes flat-is ∙ sizes-append (flat c b.front) (flat c b.back) ∙ ap (λ (n : ℕ). n + sizes (flat c b.back)) front-size)

  pub lies : drop p all ≡ bytes c p (flat c b.back) ++ zeros z
  lies =
      ap (drop p) (g.bytes-are ∙ ap (λ (l : List Cell). bytes c 0 l ++ zeros z) flat-is ∙ ap (λ (l : List ℕ). l ++ zeros z) (bytes-append c 0 (flat c b.front) (flat c b.back))
      ∙ append_assoc (bytes c 0 (flat c b.front)) (bytes c (0 + sizes (flat c b.front)) (flat c b.back)) (zeros z))
      ∙ drop_at (bytes c 0 (flat c b.front)) (bytes c (0 + sizes (flat c b.front)) (flat c b.back) ++ zeros z) p (length-bytes c 0 (flat c b.front) ∙ front-size)
      ∙ ap (λ (n : ℕ). bytes c n (flat c b.back) ++ zeros z) (zero-add (sizes (flat c b.front)) ∙ front-size)

  pub fit : Fits T (T - p % T) (flat c b.back)
  fit =
      let full : T ≡ T - 0 % T = omega (arith, mod-eq_of_lt pos-T) in
      subst (λ (n : ℕ). Fits T (T - n % T) (flat c b.back)) (zero-add (sizes (flat c b.front)) ∙ front-size)
      (fits-back T 0 (flat c b.front) (flat c b.back) pos-T (subst (Fits T (T - 0 % T)) flat-is (subst (λ (n : ℕ). Fits T n (flat c h)) full g.fits)))

  pub roof : p + sizes (flat c b.back) ≤ (s.cleared + 3) * T
  roof =
      let n : v.count + 1 ≤ s.cleared + 3 = omega (arith, i.marks.turns, i.marks.high) in
      omega (arith, whole-size, g.size, mul-le-mul_right T n)

  most : p + sizes (flat c b.back) ≤ 2147483648 * T
  most =
      let n : v.count + 1 ≤ 2147483648 = omega (arith, g.low) in
      omega (arith, whole-size, g.size, mul-le-mul_right T n)

  reaches : publisher_position v ≡ pos (p + sizes (flat c b.back))
  reaches = position-is v g.fixed.initial-small (omega (arith, g.low)) g.here ∙ ap pos (sym (whole-size ∙ g.size))

  on-32 : p % 32 ≡ 0
  on-32 = ap (λ (n : ℕ). n % 32) (sym front-size) ∙ sizes-32 (flat c b.front)

  replay-here : (session : ℤ) (buffer : List ℕ) → length buffer ≤ 2147483647 → Demand.Holds c (part_length (length buffer)) (from c p h)
      → Replayed (record { record· = r; log = log }) p session buffer (messages (from c p h))
  replay-here session buffer small holds =
      let same : from c p h ≡ b.back = ap₂ (from c) (sym b.at) b.cut ∙ from_is c pay b.front b.back pads in
      subst (λ (x : List Extent). Replayed (record { record· = r; log = log }) p session buffer (messages x)) (sym same)
      (replays r log (is-sound v all h ks g (length log) i.long) (sound-is v all h ks g (length log) i.long) all s.cleared p i.window kept on-32 (flat c b.back) z lies fit roof most reaches
      session buffer small (messages b.back)
      (ap (λ (a : Asm). a.out) (made c (part_length (length buffer)) b.back [] (omega (arith, pay)) (subst (Demand.Holds c (part_length (length buffer))) same holds))))

  gives-here : (session : ℤ) (buffer : List ℕ) → length buffer ≤ 2147483647 → Demand.Holds c (part_length (length buffer)) (from c p h)
      → GivesAll (record { record· = r; log = log }) p session buffer (messages (from c p h))
  gives-here session buffer small holds =
      let same : from c p h ≡ b.back = ap₂ (from c) (sym b.at) b.cut ∙ from_is c pay b.front b.back pads in
      subst (λ (x : List Extent). GivesAll (record { record· = r; log = log }) p session buffer (messages x)) (sym same)
      (gives_all r log (is-sound v all h ks g (length log) i.long) (sound-is v all h ks g (length log) i.long) all s.cleared p i.window kept on-32 (flat c b.back) z lies fit roof most reaches
      session buffer small (messages b.back)
      (made c (part_length (length buffer)) b.back [] (omega (arith, pay)) (subst (Demand.Holds c (part_length (length buffer))) same holds)))

  free-here : reached v < (s.cleared + 3) * T → (session : ℤ) (buffer : List ℕ) → length buffer ≤ 2147483647 → Demand.Holds c (part_length (length buffer)) (from c p h)
      → ReplayedFree (record { record· = r; log = log }) p session buffer (messages (from c p h))
  free-here short session buffer small holds =
      let same : from c p h ≡ b.back = ap₂ (from c) (sym b.at) b.cut ∙ from_is c pay b.front b.back pads in
      subst (λ (x : List Extent). ReplayedFree (record { record· = r; log = log }) p session buffer (messages x)) (sym same)
      (replays-free r log (is-sound v all h ks g (length log) i.long) (sound-is v all h ks g (length log) i.long) all s.cleared p i.window kept on-32 (flat c b.back) z lies fit roof most reaches
      session buffer small (omega (arith, whole-size, g.size)) (messages b.back)
      (ap (λ (a : Asm). a.out) (made c (part_length (length buffer)) b.back [] (omega (arith, pay)) (subst (Demand.Holds c (part_length (length buffer))) same holds))))

  -- the messages of a window, and their bytes, are few
  few-here : Few r (messages (from c p h))
  few-here =
      let same : from c p h ≡ b.back = ap₂ (from c) (sym b.at) b.cut ∙ from_is c pay b.front b.back pads in
      let l : s.cleared * T ≤ p = (le-div_iff_mul-le pos-T).0 kept in
      let e = size-all c (omega (arith, pay)) (omega (arith, g.fixed.mtu-low, g.fixed.mtu-32)) b.back (pads-back b.front b.back pads) in
      let f = messages-fit c b.back (omega (arith, pay)) in
      subst (λ (x : List Extent). Few r (messages x)) (sym same) (record { messages = omega (arith, roof); bytes = omega (arith, roof, g.fixed.term-high) })

pub few-from : (c : Shape) (w : World) (h : List Extent) (ks : List Claim) (s : Terms) → Inv c w h ks s → (p : ℕ) → Boundary c p h → s.cleared ≤ p / c.term → Few w.record· (messages (from c p h))
few-from c w h ks s i =
    subst (λ (c : Shape). Inv c w h ks s → (p : ℕ) → Boundary c p h → s.cleared ≤ p / c.term → Few w.record· (messages (from c p h)))
    i.holds.is (λ i p b k. few-here w.record· w.log h ks s i p b k) i

pub replay-from : (c : Shape) (w : World) (h : List Extent) (ks : List Claim) (s : Terms) → Inv c w h ks s → (p : ℕ) → Boundary c p h → s.cleared ≤ p / c.term
    → (session : ℤ) (buffer : List ℕ) → length buffer ≤ 2147483647 → Demand.Holds c (part_length (length buffer)) (from c p h) → Replayed w p session buffer (messages (from c p h))
replay-from c w h ks s i =
    subst (λ (c : Shape). Inv c w h ks s → (p : ℕ) → Boundary c p h → s.cleared ≤ p / c.term
    → (session : ℤ) (buffer : List ℕ) → length buffer ≤ 2147483647 → Demand.Holds c (part_length (length buffer)) (from c p h) → Replayed w p session buffer (messages (from c p h)))
    i.holds.is (λ i p b k session buffer small holds. replay-here w.record· w.log h ks s i p b k session buffer small holds) i

pub gives-from : (c : Shape) (w : World) (h : List Extent) (ks : List Claim) (s : Terms) → Inv c w h ks s → (p : ℕ) → Boundary c p h → s.cleared ≤ p / c.term
    → (session : ℤ) (buffer : List ℕ) → length buffer ≤ 2147483647 → Demand.Holds c (part_length (length buffer)) (from c p h) → GivesAll w p session buffer (messages (from c p h))
gives-from c w h ks s i =
    subst (λ (c : Shape). Inv c w h ks s → (p : ℕ) → Boundary c p h → s.cleared ≤ p / c.term
    → (session : ℤ) (buffer : List ℕ) → length buffer ≤ 2147483647 → Demand.Holds c (part_length (length buffer)) (from c p h) → GivesAll w p session buffer (messages (from c p h)))
    i.holds.is (λ i p b k session buffer small holds. gives-here w.record· w.log h ks s i p b k session buffer small holds) i

position-end : (c : Shape) (w : World) (h : List Extent) (ks : List Claim) (s : Terms) → Inv c w h ks s → publisher_position (reading w.record·) ≡ pos (size_all c h)
position-end c w h ks s i =
    subst (λ (c : Shape). Inv c w h ks s → publisher_position (reading w.record·) ≡ pos (size_all c h)) i.holds.is
    (λ i. position-is (reading w.record·) i.holds.fixed.initial-small (omega (arith, i.holds.low)) i.holds.here ∙ ap pos (sym (history-size (reading w.record·) i.all h ks i.holds))) i

-- ---- opening

module _ (log : List ℕ) (term mtu initial session stream : ℤ) (fresh : (open_of log term mtu initial session stream).answer ≡ Ok tt) where
  abbrev r₀ : LogRecord
  r₀ = opened_record term mtu initial session stream

  abbrev w₀ : World
  w₀ = opened log term mtu initial session stream

  passes : open_verdict r₀ (length log) ≡ Ok tt
  unfolding open_of
  passes = go (open_verdict r₀ (length log)) fresh
    where
      go : (x : Result ⊤ Error) → (open_by r₀ x).answer ≡ Ok tt → x ≡ Ok tt
      go (Ok _) e = refl
      go (Err q) e = absurd (let z : ◌≡◌ {A = ℕ} 0 1 = cc in omega arith)

  sound₀ : sound (reading r₀) (length log) ≡ true
  unfolding open_verdict
  sound₀ = go (sound (reading r₀) (length log)) passes
    where
      go : (b : Bool) → ◌≡◌ {A = Result ⊤ Error} (cond (not b) (Err IllegalRecord) (Ok tt)) (Ok tt) → b ≡ true
      go true e = refl
      go false e = absurd (let z : ◌≡◌ {A = ℕ} 0 1 = cc in omega arith)

  facts : Sound (reading r₀) (length log)
  facts = sound-true (reading r₀) (length log) sound₀

  record_is : w₀.record· ≡ r₀
  unfolding open_of
  record_is = ap (λ (x : Result ⊤ Error). (open_by r₀ x).next) passes

  log_is : w₀.log ≡ zeros (length log)
  unfolding open_bytes
  log_is = ap (open_bytes_by log) passes

  abbrev b₀ : ℕ
  b₀ = id_bits (word initial)

  initial-is : (reading r₀).initial ≡ b₀
  unfolding reading_of opened_record
  initial-is = refl

  count-is : (reading r₀).count ≡ 0
  unfolding reading_of opened_record
  count-is = refl

  id-is : (reading r₀).id ≡ b₀
  unfolding reading_of opened_record
  id-is = raw-bits (word initial) 0 (omega arith)

  offset-is : (reading r₀).offset ≡ 0
  unfolding reading_of opened_record
  offset-is = raw-offset (word initial) 0 (omega arith)

  second : id_of (tail_of r₀ 1) ≡ id_minus b₀ 2
  unfolding opened_record
  second = raw-id (id_minus (word initial) 2) 0 (omega arith) (omega arith) ∙ omega arith

  third : id_of (tail_of r₀ 2) ≡ id_minus b₀ 1
  unfolding opened_record
  third = raw-id (id_minus (word initial) 1) 0 (omega arith) (omega arith) ∙ omega arith

  three-tails : length r₀.tails ≡ 3
  unfolding opened_record
  three-tails = refl

  live : (reading r₀).connected ≡ 1
  unfolding reading_of opened_record
  live = refl

  limit_is : (reading r₀).limit ≡ 0
  unfolding reading_of opened_record
  limit_is = refl

  tails₀ : Tails r₀
  tails₀ =
      record {
        three = three-tails;
        here = omega (arith, id-is, initial-is, count-is);
        next = ap (λ (n : ℕ). id_plus (id_of (tail_of r₀ ((n + 1) % 3))) 2) count-is ∙ omega (arith, second, id-is);
        last = ap (λ (n : ℕ). id_plus (id_of (tail_of r₀ ((n + 2) % 3))) 1) count-is ∙ omega (arith, third, id-is);
        high = omega (arith, count-is);
      }

  abbrev all₀ : ℕ → List ℕ
  all₀ T = zeros (2147483648 * T)

  holds₀ : Holds (shape_of (reading r₀)) (reading r₀) (all₀ (reading r₀).term) [] []
  unfolding flat sizes bytes Fits Pads AllKnown
  holds₀ =
      record {
        is = refl;
        fixed = record { term-low = facts.term-low; term-high = facts.term-high; one_bit = facts.one_bit; mtu-low = facts.mtu-low; mtu-high = facts.mtu-high; mtu-32 = facts.mtu-32; initial-small = initial-small r₀ (active r₀); live = live };
        here = tails₀.here;
        low = omega (arith, count-is);
        size = omega (arith, nothing, offset-is);
        bytes-are = ap zeros (omega arith);
        fits = tt;
        whole = omega (arith, offset-is);
        most = omega (arith, offset-is);
        bound = omega (arith, limit_is);
        slow-high = facts.slowest-high;
        slow-32 = facts.slowest-32;
        pads = tt;
        known = tt;
      }
    where
      nothing : (reading r₀).count * (reading r₀).term ≡ 0
      nothing = ap (λ (n : ℕ). n * (reading r₀).term) count-is ∙ omega arith

  marked : (t : ℕ) → t ≤ 2 → is_marked r₀ (t % 3) ≡ ltb 0 t
  unfolding opened_record
  marked zero l = refl
  marked (suc zero) l = refl
  marked (suc (suc zero)) l = refl
  marked (suc (suc (suc t))) l = absurd (omega arith)

  three-marks : length r₀.is_cleared ≡ 3
  unfolding opened_record
  three-marks = refl

  marks₀ : Marks r₀ no_terms
  marks₀ = record { three = three-marks; turns = count-is; low = omega arith; high = omega arith; are = λ t a b. marked t b }

  window₀ : (T n m : ℕ) → Window T (zeros n) (zeros m) 0
  unfolding Window Shows
  window₀ T n m t a b i l = get_d-zeros n (t % 3 * T + i) ∙ sym (get_d-zeros m (t * T + i))

  inv₀ : Inv (shape_of (reading r₀)) (record { record· = r₀; log = zeros (length log) }) [] [] no_terms
  inv₀ =
      record {
        tails = tails₀;
        long = length-zeros (length log) ∙ facts.three;
        all = all₀ (reading r₀).term;
        holds = holds₀;
        window = window₀ (reading r₀).term (length log) (2147483648 * (reading r₀).term);
        marks = marks₀;
      }

  pub inv-open : Inv (shape w₀) w₀ [] [] no_terms
  inv-open =
      subst (λ (l : List ℕ). Inv (shape_of (reading w₀.record·)) (record { record· = w₀.record·; log = l }) [] [] no_terms) (sym log_is)
      (subst (λ (r : LogRecord). Inv (shape_of (reading r)) (record { record· = r; log = zeros (length log) }) [] [] no_terms) (sym record_is) inv₀)

  pub tails-open : Tails w₀.record·
  tails-open = inv-open.tails

  pub reached-open : reached (reading w₀.record·) ≡ 0
  reached-open = ap (λ (r : LogRecord). reached (reading r)) record_is ∙ omega (arith, nothing, offset-is)
    where
      nothing : (reading r₀).count * (reading r₀).term ≡ 0
      nothing = ap (λ (n : ℕ). n * (reading r₀).term) count-is ∙ omega arith

  -- in any list of calls no two answered positions are alike
  pub no-two-alike : (calls : List Call) → Rising 0 (answers w₀ calls)
  no-two-alike calls = subst (λ (n : ℕ). Rising n (answers w₀ calls)) reached-open (rises w₀ calls inv-open.tails)

  -- the log that they leave shows their history, and each answered position is an end in it
  pub kept : (calls : List Call) → AllGiven (shape w₀) [] no_terms w₀ calls
      → ((ks : List Claim) × Inv (shape w₀) (left w₀ calls) (history w₀ calls) ks (told_terms no_terms (answers w₀ calls))) × Ends (shape w₀) [] (answers w₀ calls)
  kept calls given = let r = runs (shape w₀) w₀ [] [] no_terms calls inv-open given in ((later [] (answers w₀ calls), r.inv), r.ends)

  -- the messages from a start on are few
  pub few-messages : (calls : List Call) → AllGiven (shape w₀) [] no_terms w₀ calls → (p : ℕ) → Start w₀ calls p → Few (left w₀ calls).record· (messages (from (shape w₀) p (history w₀ calls)))
  few-messages calls given p st =
      let r = runs (shape w₀) w₀ [] [] no_terms calls inv-open given in
      few-from (shape w₀) (left w₀ calls) (history w₀ calls) (later [] (answers w₀ calls)) (told_terms no_terms (answers w₀ calls)) r.inv p (start-bound (shape w₀) p (answers w₀ calls) st.told r.ends) st.kept

  pub usual : (calls : List Call) → AllGiven (shape w₀) [] no_terms w₀ calls → AllUsual (answers w₀ calls)
  usual calls given = (runs (shape w₀) w₀ [] [] no_terms calls inv-open given).usual

-- ---- the season

pub season : Season
unfolding Season
season log term mtu initial session stream fresh calls given =
    let w = opened log term mtu initial session stream in
    let c = shape w in
    let r = runs c w [] [] no_terms calls (inv-open log term mtu initial session stream fresh) given in
    record {
      replayed = λ p st ses buffer small holds.
          replay-from c (left w calls) (history w calls) (later [] (answers w calls)) (told_terms no_terms (answers w calls)) r.inv p
          (start-bound c p (answers w calls) st.told r.ends) st.kept ses buffer small holds;
      gives = λ p st ses buffer small holds.
          gives-from c (left w calls) (history w calls) (later [] (answers w calls)) (told_terms no_terms (answers w calls)) r.inv p
          (start-bound c p (answers w calls) st.told r.ends) st.kept ses buffer small holds;
      adds-up = position-end c (left w calls) (history w calls) (later [] (answers w calls)) (told_terms no_terms (answers w calls)) r.inv;
      ends = r.ends;
    }

-- ---- demand 3

free-from : (c : Shape) (w : World) (h : List Extent) (ks : List Claim) (s : Terms) → Inv c w h ks s → Boundary c 0 h → s.cleared ≡ 0 → lt_z (publisher_position (reading w.record·)) (pos (3 * c.term)) ≡ true
    → (session : ℤ) (buffer : List ℕ) → length buffer ≤ 2147483647 → Demand.Holds c (part_length (length buffer)) h → ReplayedFree w 0 session buffer (messages h)
free-from c w h ks s i =
    subst (λ (c : Shape). Inv c w h ks s → Boundary c 0 h → s.cleared ≡ 0 → lt_z (publisher_position (reading w.record·)) (pos (3 * c.term)) ≡ true
    → (session : ℤ) (buffer : List ℕ) → length buffer ≤ 2147483647 → Demand.Holds c (part_length (length buffer)) h → ReplayedFree w 0 session buffer (messages h))
    i.holds.is
    (λ i b none short session buffer small holds.
    let v = reading w.record· in
    let low : s.cleared ≤ 0 / v.term = omega arith in
    let far : reached v < 3 * v.term = ltb-true (reached v) (3 * v.term) (sym (ap (λ (z : ℤ). lt_z z (pos (3 * v.term))) (position-is v i.holds.fixed.initial-small (omega (arith, i.holds.low)) i.holds.here)) ∙ short) in
    let more : reached v < (s.cleared + 3) * v.term = subst (λ (n : ℕ). reached v < (n + 3) * v.term) (sym none) (omega arith) in
    subst (λ (x : List Extent). ReplayedFree w 0 session buffer (messages x)) (from-here (shape_of v) h)
    (free-here w.record· w.log h ks s i 0 b low more session buffer small (subst (Demand.Holds (shape_of v) (part_length (length buffer))) (sym (from-here (shape_of v) h)) holds))) i

pub demand3 : Demand3
unfolding Demand3 Season
demand3 log term mtu initial session stream fresh calls given none short =
    let w = opened log term mtu initial session stream in
    let c = shape w in
    let h = history w calls in
    let r = runs c w [] [] no_terms calls (inv-open log term mtu initial session stream fresh) given in
    let u = season log term mtu initial session stream fresh calls given in
    let zero : Start w calls 0 = record { told = inl refl; kept = omega arith } in
    record {
      replayed = free-from c (left w calls) h (later [] (answers w calls)) (told_terms no_terms (answers w calls)) r.inv (start-bound c 0 (answers w calls) (inl refl) r.ends) none short;
      gives = λ ses buffer small holds.
          subst (λ (x : List Extent). GivesAll (left w calls) 0 ses buffer (messages x)) (from-here c h)
          (u.gives 0 zero ses buffer small (subst (Demand.Holds c (part_length (length buffer))) (sym (from-here c h)) holds));
      adds-up = u.adds-up;
      ends = u.ends;
    }
