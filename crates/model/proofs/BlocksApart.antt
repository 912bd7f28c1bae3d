-- An accepted call's position is where the stream had come to and what the call takes; from there the blocks follow by arithmetic.
use Rattle.std.specs.Prelude.{Result, Ok, Err, ⊤}
use Rattle.model.specs.declared.Error.{Error}
use mathlib.Core.Path.{◌≡◌, refl, sym, ap, subst, ◌∙◌}
use Prim.Native.Nat.{ℕ, ◌+◌, ◌-◌, ◌*◌, ◌/◌, ◌%◌, ◌≤◌}
use mathlib.Core.Bool.{Bool, true, false, cond}
use mathlib.Core.List.{List, [], ◌∷◌}
use native.Mathlib.Nat.{mul-le-mul_right}
use native.Mathlib.Omega.{arith}
use borrow.Author.Tests.{leb-true}
use lib.Dec.{eqb, ltb}
use lib.ListN.{length}
use lib.IntN.{ℤ, pos}
use Rattle.model.specs.declared.LogRecord.{LogRecord}
use Rattle.model.specs.declared.Reading.{Reading}
use Rattle.model.specs.declared.RecordReply.{RecordReply}
use Rattle.model.specs.declared.Error.TheVariants.{IllegalRecord}
use Rattle.model.specs.declared.Claimed.{Claimed}
use Rattle.model.specs.Bytes.{word, long}
use Rattle.model.specs.FrameDescriptor.{space}
use Rattle.model.specs.LogBufferDescriptor.{reading_of, reading, active, payload_limit, greatest, last_term, changed, with_tail, with_count, with_limit, with_closed, next_tail, rotated, id_of, id_plus, tail_of, sound_record, is_ready, with_mark, with_slowest, noted}
use Rattle.model.specs.TermAppender.{claim_record}
use Rattle.model.specs.Publication.{change_of, place, fits, on_trip, trip_error, trip_next, append_next, need_of, offer_verdict, offered_by, next_by, offer_of, claim_verdict, claimed_by, claim_of, reply_by, clear_verdict, clear_of, raise_verdict, raise_of}
use Rattle.model.specs.History.{Call, offer, claim, fill, commit, abort, set_limit, close, Answer, offered, claimed, outcome, World, step, answers, clear, raise}
use Rattle.model.specs.Demand.{opened, shape}
use Rattle.model.specs.BlocksApart.{takes, Takes, ApartBy, Apart, block_at, FreeBy, Free, BlocksApart}
use Rattle.model.proofs.Choice.{cond-case}
use Rattle.model.proofs.Cut.{need-some, need-32, times_32}
use Rattle.model.proofs.Sound.{term-32}
use Rattle.model.proofs.Tails.{Tails, reached}
use Rattle.model.proofs.Rising.{Lets, Through, lets-through, offer-lets, claim-lets, fits-up, step-up}
use Rattle.model.proofs.Season as Season

-- ---- what an accepted call takes

abbrev TookOffered : ℕ → ℕ → ℕ → Result ℤ Error → Type 0
TookOffered size low high (Ok p) = (p ≡ pos high) × Takes size low high
TookOffered size low high (Err e) = Unit {0}

abbrev TookClaimed : ℕ → ℕ → ℕ → Result Claimed Error → Type 0
TookClaimed size low high (Ok given) = (given.position ≡ pos high) × Takes size low high
TookClaimed size low high (Err e) = Unit {0}

abbrev Took : ℕ → ℕ → ℕ → Answer → Type 0
Took size low high (offered t a) = TookOffered size low high a
Took size low high (claimed t a) = TookClaimed size low high a
Took size low high (outcome a) = Unit {0}

module _ (r : LogRecord) (n needed : ℕ) (h : Tails r) (t : Through (reading r) n needed) (some : 32 ≤ needed) (even : needed % 32 ≡ 0)
    (inside : (reading r).offset + needed ≤ (reading r).term) where
  abbrev v : Reading
  v = reading r

  abbrev next : LogRecord
  next = with_tail r (active r) v.id (v.offset + needed)

  ends : reached (reading next) ≡ place v + needed
  ends = (fits-up r n needed h t some inside).0

  fitted : (place v + needed ≡ reached (reading next)) × Takes needed (reached v) (reached (reading next))
  fitted =
      let e = ends in
      let c : v.count * v.term % 32 ≡ 0 = times_32 v.count v.term (term-32 v n t.is-sound) in
      (sym e, (even, some, omega (arith, e, c, t.is-sound.offset-32), omega (arith, e)))

module _ (r : LogRecord) (log : List ℕ) (h : Tails r) where
  abbrev v· : Reading
  v· = reading r

  offer-took : (m : ℕ) (x : Result ⊤ Error) → Lets v· (length log) (need_of v· m) x
      → TookOffered (need_of v· m) (reached v·) (reached (reading (next_by r v· (need_of v· m) x))) (offered_by r v· (need_of v· m) x)
  unfolding append_next
  offer-took m (Ok _) l = go (fits v· (need_of v· m)) refl (lets-through v· (length log) (need_of v· m) l)
    where
      go : (b : Bool) → fits v· (need_of v· m) ≡ b → Through v· (length log) (need_of v· m)
          → TookOffered (need_of v· m) (reached v·)
          (reached (reading (cond b (with_tail r (active r) v·.id (v·.offset + need_of v· m)) (trip_next (with_tail r (active r) v·.id (v·.offset + need_of v· m)) v· (is_ready r)))))
          (cond b (Ok (pos (place v· + need_of v· m))) (Err (trip_error v· (is_ready r))))
      go true f t =
          let u = fitted r (length log) (need_of v· m) h t (need-some (payload_limit v·) m) (need-32 (payload_limit v·) m) (leb-true _ _ f) in
          (ap pos u.0, u.1)
      go false f t = tt
  offer-took m (Err e) l = tt

  claim-took : (m : ℕ) (x : Result ⊤ Error) → Lets v· (length log) (space m) x
      → TookClaimed (space m) (reached v·) (reached (reading (next_by r v· (space m) x))) (claimed_by r v· m x)
  unfolding append_next
  claim-took m (Ok _) l = go (fits v· (space m)) refl (lets-through v· (length log) (space m) l)
    where
      go : (b : Bool) → fits v· (space m) ≡ b → Through v· (length log) (space m)
          → TookClaimed (space m) (reached v·)
          (reached (reading (cond b (with_tail r (active r) v·.id (v·.offset + space m)) (trip_next (with_tail r (active r) v·.id (v·.offset + space m)) v· (is_ready r)))))
          (cond b (Ok (record { position = pos (place v· + space m); claim = claim_record v· (active r) m })) (Err (trip_error v· (is_ready r))))
      go true f t = let u = fitted r (length log) (space m) h t (omega arith) (omega arith) (leb-true _ _ f) in (ap pos u.0, u.1)
      go false f t = tt
  claim-took m (Err e) l = tt

  step-took : (y : Call) → Took (takes (payload_limit v·) y) (reached v·) (reached (reading (step (record { record· = r; log = log }) y).next.record·)) (step (record { record· = r; log = log }) y).answer
  unfolding step offer_of claim_of
  step-took (offer m re) = offer-took (length m) (offer_verdict v· (length log) (length m)) (offer-lets v· (length log) (length m))
  step-took (claim n) = claim-took (word n) (claim_verdict v· (length log) (word n)) (claim-lets v· (length log) (word n))
  step-took (fill k b) = tt
  step-took (commit k) = tt
  step-took (abort k) = tt
  step-took (set_limit n) = tt
  step-took close = tt
  step-took (clear k) = tt
  step-took (raise p) = tt

-- ---- no call changes the mtu, so the payload limit is that of the opening

abbrev Same : LogRecord → LogRecord → Type 0
Same r x = x.mtu_length ≡ r.mtu_length

module _ (r : LogRecord) where
  tail-same : (k id o : ℕ) → Same r (with_tail r k id o)
  unfolding with_tail changed
  tail-same k id o = refl

  turned_same : (x : LogRecord) (count id : ℕ) → Same r x → Same r (rotated x count id)
  unfolding rotated next_tail with_tail with_mark noted with_count changed
  turned_same x count id e =
      cond-case (Same r) (eqb (id_plus (id_of (tail_of x ((count + 1) % 3))) 2) id) (with_tail x ((count + 1) % 3) (id_plus id 1) 0) x (λ q. e) (λ q. e)

  append-same : (v : Reading) (needed : ℕ) → Same r (append_next r v needed)
  unfolding append_next on_trip
  append-same v needed =
      let moved = with_tail r (active r) v.id (v.offset + needed) in
      let m = tail-same (active r) v.id (v.offset + needed) in
      cond-case (Same r) (fits v needed) moved _ (λ q. m)
      (λ q. cond-case (Same r) (ltb (greatest v) (place v + v.offset)) moved _ (λ q. m)
      (λ q. cond-case (Same r) (last_term v.count) moved _ (λ q. m)
      (λ q. cond-case (Same r) (is_ready r) _ moved (λ q. turned_same moved v.count v.id m) (λ q. m))))

  next-same : (v : Reading) (needed : ℕ) (x : Result ⊤ Error) → Same r (next_by r v needed x)
  next-same v needed (Ok _) = append-same v needed
  next-same v needed (Err e) = refl

  change-same : (next : LogRecord) → Same r next → Same r (change_of r next).next
  unfolding change_of
  change-same next e = go (sound_record (reading next))
    where
      go : (b : Bool) → Same r (cond {A = RecordReply} b (record { next = next; answer = Ok tt }) (record { next = r; answer = Err IllegalRecord })).next
      go true = e
      go false = refl

reply-same : (r next : LogRecord) (x : Result ⊤ Error) → Same r next → Same r (reply_by r next x).next
reply-same r next (Ok _) e = e
reply-same r next (Err y) e = refl

step_same : (w : World) (y : Call) → Same w.record· (step w y).next.record·
unfolding step offer_of claim_of clear_of raise_of with_limit with_closed changed with_mark with_slowest noted
step_same w (offer m re) = let v = reading w.record· in next-same w.record· v (need_of v (length m)) (offer_verdict v (length w.log) (length m))
step_same w (claim n) = let v = reading w.record· in next-same w.record· v (space (word n)) (claim_verdict v (length w.log) (word n))
step_same w (fill k b) = refl
step_same w (commit k) = refl
step_same w (abort k) = refl
step_same w (set_limit n) = change-same w.record· (with_limit w.record· n) refl
step_same w close = change-same w.record· (with_closed w.record·) refl
step_same w (clear k) = reply-same w.record· (with_mark w.record· (word k) true) (clear_verdict (reading w.record·) (length w.log) (word k)) refl
step_same w (raise p) = reply-same w.record· (with_slowest w.record· p) (raise_verdict (reading w.record·) (long p)) refl

payload-is : (r : LogRecord) → payload_limit (reading r) ≡ word r.mtu_length - 32
unfolding reading_of
payload-is r = refl

payload_same : (w : World) (y : Call) → payload_limit (reading (step w y).next.record·) ≡ payload_limit (reading w.record·)
payload_same w y = payload-is (step w y).next.record· ∙ ap (λ (z : ℤ). word z - 32) (step_same w y) ∙ sym (payload-is w.record·)

-- ---- a list of calls

lowered : (size low low' : ℕ) (a : Answer) (P : ℕ → Type 0) → low' ≤ low → (P low → P low') → ApartBy size low a P → ApartBy size low' a P
lowered size low low' (offered b (Ok p)) P l f q = (q.0, q.1, (q.2.0, q.2.1, q.2.2, omega (arith, q.2.3)), q.3)
lowered size low low' (offered b (Err e)) P l f q = f q
lowered size low low' (claimed b (Ok given)) P l f q = (q.0, q.1, (q.2.0, q.2.1, q.2.2, omega (arith, q.2.3)), q.3)
lowered size low low' (claimed b (Err e)) P l f q = f q
lowered size low low' (outcome a) P l f q = f q

apart_from : (payload low low' : ℕ) (ts : List (Call × Answer)) → low' ≤ low → Apart payload low ts → Apart payload low' ts
unfolding Apart
apart_from payload low low' [] l r = tt
apart_from payload low low' (t ∷ ts) l r = lowered (takes payload t.0) low low' t.1 (λ (n : ℕ). Apart payload n ts) l (λ q. apart_from payload low low' ts l q) r

apart_by : (payload size low high : ℕ) (a : Answer) (ts : List (Call × Answer)) → low ≤ high → Took size low high a → Apart payload high ts → ApartBy size low a (λ n. Apart payload n ts)
apart_by payload size low high (offered b (Ok p)) ts l q r = (high, q.0, q.1, r)
apart_by payload size low high (offered b (Err e)) ts l q r = apart_from payload high low ts l r
apart_by payload size low high (claimed b (Ok given)) ts l q r = (high, q.0, q.1, r)
apart_by payload size low high (claimed b (Err e)) ts l q r = apart_from payload high low ts l r
apart_by payload size low high (outcome a) ts l q r = apart_from payload high low ts l r

runs-apart : (payload : ℕ) (w : World) (calls : List Call) → Tails w.record· → payload_limit (reading w.record·) ≡ payload → Apart payload (reached (reading w.record·)) (answers w calls)
unfolding answers Apart
runs-apart payload w [] t e = tt
runs-apart payload w (x ∷ xs) t e =
    let s = step-up w.record· w.log t x in
    let low = reached (reading w.record·) in
    let high = reached (reading (step w x).next.record·) in
    apart_by payload (takes payload x) low high (step w x).answer (answers (step w x).next xs) s.above
    (subst (λ (n : ℕ). Took (takes n x) low high (step w x).answer) e (step-took w.record· w.log t x))
    (runs-apart payload (step w x).next xs s.tails (payload_same w x ∙ e))

-- ---- from bytes to blocks

block-free : (each low n size : ℕ) → low % 32 ≡ 0 → n % 32 ≡ 0 → 32 ≤ size → low + size ≤ n → low / 32 * each ≤ block_at each n
block-free each low n size a b c d = mul-le-mul_right each (omega arith)

block-next : (each n : ℕ) → n % 32 ≡ 0 → 32 ≤ n → block_at each n + each ≡ n / 32 * each
block-next each n a b =
    let e : n / 32 ≡ (n - 32) / 32 + 1 = omega arith in
    sym (ap (λ (k : ℕ). k * each) e ∙ omega arith)

abbrev Again : ℕ → ℕ → List (Call × Answer) → Type 0
Again payload each ts = (n : ℕ) → n % 32 ≡ 0 → Apart payload n ts → Free each (n / 32 * each) ts

blocks-free : (payload each low : ℕ) (ts : List (Call × Answer)) → low % 32 ≡ 0 → Apart payload low ts → Free each (low / 32 * each) ts
unfolding Apart Free
blocks-free payload each low [] e q = tt
blocks-free payload each low (t ∷ ts) e q = go (λ n k r. blocks-free payload each n ts k r) t.1 q
  where
    on : Again payload each ts → (n size : ℕ) → Takes size low n → Apart payload n ts → (low / 32 * each ≤ block_at each n) × Free each (block_at each n + each) ts
    on again n size k r = (
      block-free each low n size e k.2 k.1 k.3,
      subst (λ (f : ℕ). Free each f ts) (sym (block-next each n k.2 (omega (arith, k)))) (again n k.2 r),
    )

    go : Again payload each ts → (a : Answer) → ApartBy (takes payload t.0) low a (λ n. Apart payload n ts) → FreeBy each (low / 32 * each) a (λ n. Free each n ts)
    go again (offered b (Ok p)) q = let o = on again q.0 (takes payload t.0) q.2 q.3 in (q.0, q.1, o.0, o.1)
    go again (offered b (Err x)) q = again low e q
    go again (claimed b (Ok given)) q = let o = on again q.0 (takes payload t.0) q.2 q.3 in (q.0, q.1, o.0, o.1)
    go again (claimed b (Err x)) q = again low e q
    go again (outcome x) q = again low e q

pub blocks-apart : BlocksApart
unfolding BlocksApart
blocks-apart log term mtu initial session stream fresh calls =
    let w = opened log term mtu initial session stream in
    let t = Season.tails-open log term mtu initial session stream fresh in
    let a = subst (λ (n : ℕ). Apart (shape w).payload n (answers w calls)) (Season.reached-open log term mtu initial session stream fresh) (runs-apart (shape w).payload w calls t refl) in
    (a, λ each. subst (λ (n : ℕ). Free each n (answers w calls)) (none each) (blocks-free (shape w).payload each 0 (answers w calls) refl a))
  where
    none : (each : ℕ) → 0 / 32 * each ≡ 0
    none each = omega arith
