-- The frames of a history, as a walk passes them, cut into messages: those of an offer give its message, that of a committed claim its body, and the others none.
use mathlib.Core.Path.{◌≡◌, refl, sym, ap, ap₂, ◌∙◌, subst}
use mathlib.Core.Bool.{Bool, true, false}
use mathlib.Core.List.{List, [], ◌∷◌, ◌++◌, append_assoc}
use Prim.Native.Nat.{ℕ, zero, suc, ◌+◌, ◌-◌, ◌/◌, ◌%◌, ◌≤◌, ◌<◌}
use native.Mathlib.Omega.{arith}
use lib.ListN.{length, take, drop, length-drop, take-append-drop}
use Rattle.model.specs.declared.Claim.{Claim}
use Rattle.model.specs.Bytes.{long, zeros}
use Rattle.model.specs.FrameDescriptor.{space, begins, ends}
use Rattle.model.specs.LogBufferDescriptor.{reading}
use Rattle.model.specs.TermAppender.{Fragment, cut_from, cut}
use Rattle.model.specs.History.{World, answers, left, Shape, shape_of, open·, committed, aborted, Extent, message, claimed·, padding, size_of, size_all, Terms, no_terms, told_terms}
use Rattle.model.specs.History.{messages as messages_of}
use Rattle.model.specs.Demand.{opened, shape, history}
use Rattle.model.proofs.Choice.{split}
use Rattle.model.proofs.Splice.{length-zeros}
use Rattle.model.proofs.Cells.{Cell, cell, flen, fsize, sizes}
use Rattle.model.proofs.Walking.{seen as shown}
use Rattle.model.proofs.Cut.{cut-last, cut-more}
use Rattle.model.proofs.OneSession.{cells, frames, flat}
use Rattle.model.proofs.Around.{Pads, message-size}
use Rattle.model.proofs.Kept.{Inv}
use Rattle.model.proofs.Season.{kept}
use Rattle.tally.specs.Walk.{Stream, stream_of, bytes_at, Passed, between}
use Rattle.tally.specs.Histories.{Tallied}
use Rattle.tally.proofs.Histories.{Shows, Laid, done, passed, cells-done, walks-history, laid-front, laid-back, part-laid, history-tallied}
use Rattle.holding.specs.Messages.{Message, Run, idle, running, joined, told, messages}
use Rattle.holding.specs.Holding.{cards}
use Rattle.holding.specs.Theorems.{Piece}
use Rattle.holding.specs.Histories.{placed, bodies, PlacedBodies, HistoryMessages}
use Rattle.holding.proofs.Turning.{no_frames, cut-closed}
use Rattle.holding.proofs.Cutting.{goes_on, closes}

pub placed-bodies : PlacedBodies
unfolding placed bodies messages_of
placed-bodies c p [] = refl
placed-bodies c p (message re m ∷ h) = ap (λ (ms : List (List ℕ)). m ∷ ms) (placed-bodies c (p + size_of c (message re m)) h)
placed-bodies c p (claimed· open· b ∷ h) = refl
placed-bodies c p (claimed· committed b ∷ h) = ap (λ (ms : List (List ℕ)). b ∷ ms) (placed-bodies c (p + size_of c (claimed· committed b)) h)
placed-bodies c p (claimed· aborted b ∷ h) = placed-bodies c (p + size_of c (claimed· aborted b)) h
placed-bodies c p (padding n ∷ h) = placed-bodies c (p + size_of c (padding n)) h

-- ---- the fragments of a message

-- the flags of one that is not the last, by whether it is the first
abbrev mark : Bool → ℕ
mark true = 128
mark false = 0

mark-begins : (t : Bool) → begins (mark t) ≡ t
mark-begins true = refl
mark-begins false = refl

mark-ends : (t : Bool) → ends (mark t) ≡ false
mark-ends true = refl
mark-ends false = refl

last_begins : (t : Bool) → begins (mark t + 64) ≡ t
last_begins true = refl
last_begins false = refl

last-ends : (t : Bool) → ends (mark t + 64) ≡ true
last-ends true = refl
last-ends false = refl

-- a body in two pieces
joined-twice : (t : Bool) (n : ℕ) (m : List ℕ) (r : Run) → joined false (drop n m) (joined t (take n m) r) ≡ joined t m r
joined-twice true n m r = ap running (take-append-drop n m)
joined-twice false n m idle = refl
joined-twice false n m (running b) = ap running (append_assoc b (take n m) (drop n m) ∙ ap (λ (x : List ℕ). b ++ x) (take-append-drop n m))

module _ (s : Stream) where
  -- a frame that is done is a piece by its flags
  piece : (p fl re : ℕ) (b : List ℕ) (begin end : Bool) → begins fl ≡ begin → ends fl ≡ end → Shows s p (cell committed fl re b)
      → Piece s begin end (record { at = p; frame = shown (cell committed fl re b) }) b
  unfolding shown flen
  piece p fl re b begin end x y l =
      let n : length b + 32 - 32 ≡ length b = omega arith in
      record {
        length = flen (cell committed fl re b);
        data-frame = refl;
        first = ap begins l.0 ∙ x;
        last = ap ends l.0 ∙ y;
        bytes = ap (λ (i : ℕ). take i (drop 32 (bytes_at s p))) n ∙ l.1;
      }

  -- these, where they lie from p on and a run is open before them, close with the run g
  abbrev Closes : ℕ → Run → List Cell → Run → List Fragment → Type 0
  Closes p r gs g x = Laid s p (cells x) → messages s r (passed p (cells x ++ gs)) ≡ told (p + sizes (cells x)) g (messages s idle (passed (p + sizes (cells x)) gs))

  cut-closes : (fuel pay re : ℕ) (first : Bool) (m : List ℕ) (p : ℕ) (r : Run) (gs : List Cell) → length m < fuel → 0 < pay
      → Closes p r gs (joined first m r) (cut_from fuel pay (mark first) re m)
  unfolding Laid cells passed sizes shown fsize
  cut-closes zero pay re first m p r gs h k = absurd (omega arith)
  cut-closes (suc fuel) pay re first m p r gs h k =
      split (length m) pay
      (λ o. subst (Closes p r gs (joined first m r)) (sym (cut-last fuel pay (mark first) re m o))
      (λ l.
      let f = cell committed (mark first + 64) re m in
      let e : p + fsize f ≡ p + (fsize f + 0) = omega arith in
      closes s (piece p (mark first + 64) re m first true (last_begins first) (last-ends first) l.2) r (passed (p + fsize f) gs)
      ∙ ap (λ (q : ℕ). told q (joined first m r) (messages s idle (passed q gs))) e))
      (λ o. subst (Closes p r gs (joined first m r)) (sym (cut-more fuel pay (mark first) re m o))
      (λ l.
      let f = cell committed (mark first) re (take pay m) in
      let rest = cells (cut_from fuel pay 0 re (drop pay m)) in
      let e : p + fsize f + sizes rest ≡ p + (fsize f + sizes rest) = omega arith in
      goes_on s (piece p (mark first) re (take pay m) first false (mark-begins first) (mark-ends first) l.2) r (passed (p + fsize f) (rest ++ gs))
      ∙ cut-closes fuel pay re false (drop pay m) (p + fsize f) (joined first (take pay m) r) gs (omega (arith, length-drop pay m)) k l.3
      ∙ ap₂ (λ (q : ℕ) (g : Run). told q g (messages s idle (passed q gs))) e (joined-twice first pay m r)))

  -- an aborted claim and padding give none
  none_of : (p re : ℕ) (b : List ℕ) (fs : List Passed) → Shows s p (cell aborted 192 re b) → messages s idle (record { at = p; frame = shown (cell aborted 192 re b) } ∷ fs) ≡ messages s idle fs
  unfolding shown
  none_of p re b fs l = cut-closed s idle (record { at = p; frame = shown (cell aborted 192 re b) }) fs (ap ends l.0)

-- ---- of a history

module _ (s : Stream) (c : Shape) (k : 0 < c.payload) (even : c.payload % 32 ≡ 0) where
  cut-history : (p : ℕ) (h : List Extent) → Pads h → Laid s p (flat c h) → messages s idle (passed p (done (flat c h))) ≡ placed c p h
  unfolding Pads Laid done flat frames placed passed size_of shown fsize flen cut
  cut-history p [] pads l = no_frames s idle
  cut-history p (message re m ∷ h) pads l =
      let x = cut c.payload (long re) m in
      let end = p + sizes (cells x) in
      ap (λ (fs : List Cell). messages s idle (passed p fs)) (cells-done x (flat c h))
      ∙ cut-closes s (suc (length m)) c.payload (long re) true m p idle (done (flat c h)) (omega arith) k (laid-front s p (cells x) (flat c h) l)
      ∙ ap (λ (ms : List Message). record { body = m; end = end } ∷ ms) (cut-history end h pads (laid-back s p (cells x) (flat c h) l))
      ∙ ap (λ (n : ℕ). record { body = m; end = p + n } ∷ placed c (p + n) h) (message-size c k even (long re) m)
  cut-history p (claimed· open· b ∷ h) pads l = no_frames s idle
  cut-history p (claimed· committed b ∷ h) pads l =
      let end = p + space (length b) in
      closes s (piece s p 192 0 b true true refl refl l.2) idle (passed end (done (flat c h)))
      ∙ ap (λ (ms : List Message). record { body = b; end = end } ∷ ms) (cut-history end h pads l.3)
  cut-history p (claimed· aborted b ∷ h) pads l =
      let end = p + space (length b) in none_of s p 0 b (passed end (done (flat c h))) l.2 ∙ cut-history end h pads l.3
  cut-history p (padding n ∷ h) pads l =
      let b = zeros (n - 32) in
      let end = p + space (length b) in
      let e : end ≡ p + n = omega (arith, length-zeros (n - 32), pads.0, pads.1) in
      none_of s p 0 b (passed end (done (flat c h))) l.2 ∙ cut-history end h pads.2 l.3 ∙ ap (λ (q : ℕ). placed c q h) e

-- ---- the theorem

-- for every such cut of a history
abbrev Same : Shape → World → List Extent → ℕ → ℕ → Type 0
Same c w h from to =
    let s = stream_of w.record· w.log in (t : Tallied c s h from to) → messages s idle (between s from to) ≡ placed c from t.middle

-- of any world that the invariant holds of
by_parts : (c : Shape) (w : World) (h : List Extent) (ks : List Claim) (n : Terms) → Inv c w h ks n → (from to : ℕ) → n.cleared ≤ from / c.term → Same c w h from to
by_parts c w h ks n i from to k = subst (λ (x : Shape). Inv x w h ks n → n.cleared ≤ from / x.term → Same x w h from to) i.holds.is own i k
  where
    own : let x = shape_of (reading w.record·) in Inv x w h ks n → n.cleared ≤ from / x.term → Same x w h from to
    own i k t =
        let x = shape_of (reading w.record·) in
        let s = stream_of w.record· w.log in
        let p = size_all x t.before in
        let q = part-laid w.record· w.log h ks n i t.before t.middle t.behind t.whole (subst (λ (m : ℕ). n.cleared ≤ m / x.term) (sym t.first) k) in
        sym (ap₂ (λ (m n : ℕ). messages s idle (between s m n)) t.first t.second)
        ∙ ap (messages s idle) (walks-history x s p t.middle q.0 q.1 q.2 q.3)
        ∙ cut-history s x q.0 q.1 p t.middle q.2 q.3
        ∙ ap (λ (m : ℕ). placed x m t.middle) t.first

pub history-messages : HistoryMessages
history-messages log term mtu initial session stream fresh calls given from to a b o =
    let w = opened log term mtu initial session stream in
    let k = kept log term mtu initial session stream fresh calls given in
    let t = history-tallied log term mtu initial session stream fresh calls given from to a b o in
    let e = by_parts (shape w) (left w calls) (history w calls) k.0.0 (told_terms no_terms (answers w calls)) k.0.1 from to a.kept t in
    record { parts = t; same = e; same-cards = λ find. ap (cards find) e }
