-- A walk over the frames of a history, as far as they lie in the stream: it passes those before the first claim that is still open, so that its body bytes are
-- those of the messages before it, and it ends there, or where the history does.
use Rattle.std.proofs.Common.{◌≡◌, ℕ, zero, suc, ◌+◌, ◌-◌, ◌*◌, ◌/◌, ◌%◌, ◌<◌, ◌≤◌, true, List, [], ◌∷◌, ◌++◌, length, take, drop, sym, refl, ap, ◌∙◌, subst, ap₂, append_assoc, mod-lt, div-lt_iff_lt-mul, div-add-mod', le-div_iff_mul-le, arith, length-drop, length-take-le, take_at, eq-eqb}
use Rattle.model.specs.declared.Claim.{Claim}
use Rattle.model.specs.declared.LogRecord.{LogRecord}
use Rattle.model.specs.declared.Frame.{Frame}
use Rattle.model.specs.Bytes.{long, zeros, le2, le4, le8, u32}
use Rattle.model.specs.DataFrameHeader.{header_at, header24}
use Rattle.model.specs.LogBufferDescriptor.{partition_of, reading, reading_of}
use Rattle.model.specs.FrameDescriptor.{frame_at, flags_at}
use Rattle.model.specs.TermAppender.{Fragment, fragment, cut_from, cut}
use Rattle.model.specs.History.{World, answers, left, Shape, shape_of, open·, committed, aborted, Extent, message, claimed·, padding, size_all, messages, Terms, no_terms, told_terms}
use Rattle.model.specs.History.{total as total_of}
use Rattle.model.specs.Demand.{opened, shape, history}
use Rattle.model.proofs.Choice.{split}
use Rattle.model.proofs.Cells.{Cell, cell, flags_of, head, solid_at, solid, flen, fsize, enc, bytes, sizes, flen-ge, fsize-ge, length-enc}
use Rattle.model.proofs.Cells.{body_of as body_in}
use Rattle.model.proofs.Walking.{seen as shown, see-enc, Fits, drop-next}
use Rattle.model.proofs.Fields.{u32-le4}
use Rattle.model.proofs.Cut.{cut-last, cut-more}
use Rattle.model.proofs.OneSession.{cells, frames, flat}
use Rattle.model.proofs.Rooms.{room_next}
use Rattle.model.proofs.Around.{Pads, pads-front, size-all, flat_append}
use Rattle.model.proofs.Window.{Window, lies_same}
use Rattle.model.proofs.Window.{shown as shown-term}
use Rattle.model.proofs.Kept.{Inv, inside}
use Rattle.model.proofs.Season.{Boundary, start-bound, pads-back, pay, pos-T, pads, lies, fit, roof, kept}
use Rattle.tally.specs.Walk.{Stream, stream_of, place_at, bytes_at, frame_in, seen, own_id, size, met, Passed, walked, between, end_of}
use Rattle.tally.specs.Tally.{body_of, sum, sums_of}
use Rattle.tally.specs.Histories.{closed, Tallied, HistoryTallied}
use Rattle.tally.proofs.Boundaries.{parted}
use Rattle.tally.proofs.Steps.{met-frame, met-none, stops, goes, at-end}

-- ---- frames in a stream

-- the flags and the body that lie at p are its own
abbrev pub Shows : Stream → ℕ → Cell → Type 0
Shows s p f = (flags_at (bytes_at s p) ≡ flags_of f) × (take (length (body_in f)) (drop 32 (bytes_at s p)) ≡ body_in f)

-- from p on lie these, one after another, each with its position's id
unfoldable pub Laid : Stream → ℕ → List Cell → Type 0
Laid s p [] = Unit {0}
Laid s p (f ∷ fs) = (seen s p ≡ shown f) × (own_id s p ≡ true) × Shows s p f × Laid s (p + fsize f) fs

-- those before the first that is open
unfoldable pub done : List Cell → List Cell
done [] = []
done (cell open· fl re b ∷ fs) = []
done (cell committed fl re b ∷ fs) = cell committed fl re b ∷ done fs
done (cell aborted fl re b ∷ fs) = cell aborted fl re b ∷ done fs

-- as a walk passes them
unfoldable pub passed : ℕ → List Cell → List Passed
passed p [] = []
passed p (f ∷ fs) = record { at = p; frame = shown f } ∷ passed (p + fsize f) fs

module _ (s : Stream) where
  -- a frame that is done is passed
  goes_on : (fuel to p : ℕ) (f : Cell) → seen s p ≡ shown f → own_id s p ≡ true → size (shown f) ≡ fsize f → p + fsize f ≤ to
      → walked (suc fuel) s to p ≡ (record { at = p; frame = shown f } ∷ walked fuel s to (p + fsize f))
  goes_on fuel to p f e o z h =
      let l : 32 ≤ fsize f = omega (arith, flen-ge f, fsize-ge f) in
      let q : size (seen s p) ≡ fsize f = ap size e ∙ z in
      let m : met s to p ≡ shown f = sym (met-frame s p to (omega arith) o (omega arith)) ∙ e in
      let n : size (met s to p) ≡ fsize f = ap size m ∙ z in
      goes s p fuel to (λ w. omega arith)
      ∙ ap₂ (λ (x : Frame) (i : ℕ). record { at = p; frame = x } ∷ walked fuel s to (p + i)) m n

  pub walks : (fuel to p : ℕ) (fs : List Cell) → to ≡ p + sizes fs → to - p ≤ fuel → Laid s p fs → walked fuel s to p ≡ passed p (done fs)
  unfolding Laid done passed sizes shown fsize
  walks fuel to p [] e h l = stops s p fuel to (at-end s to p (omega arith))
  walks fuel to p (cell open· fl re b ∷ fs) e h l =
      let f = cell open· fl re b in
      let z : size (seen s p) ≡ 0 = ap size l.0 in
      stops s p fuel to (sym (ap size (met-none s p to (omega (arith, flen-ge f, fsize-ge f)) z)) ∙ z)
  walks zero to p (cell committed fl re b ∷ fs) e h l = let f = cell committed fl re b in absurd (omega (arith, flen-ge f, fsize-ge f))
  walks (suc fuel) to p (cell committed fl re b ∷ fs) e h l =
      let f = cell committed fl re b in
      goes_on fuel to p f l.0 l.1 refl (omega arith)
      ∙ ap (λ (r : List Passed). record { at = p; frame = shown f } ∷ r) (walks fuel to (p + fsize f) fs (omega arith) (omega (arith, flen-ge f, fsize-ge f)) l.3)
  walks zero to p (cell aborted fl re b ∷ fs) e h l = let f = cell aborted fl re b in absurd (omega (arith, flen-ge f, fsize-ge f))
  walks (suc fuel) to p (cell aborted fl re b ∷ fs) e h l =
      let f = cell aborted fl re b in
      goes_on fuel to p f l.0 l.1 refl (omega arith)
      ∙ ap (λ (r : List Passed). record { at = p; frame = shown f } ∷ r) (walks fuel to (p + fsize f) fs (omega arith) (omega (arith, flen-ge f, fsize-ge f)) l.3)

-- where it ends
pub ends : (p : ℕ) (fs : List Cell) → end_of p (passed p (done fs)) ≡ p + sizes (done fs)
unfolding done passed sizes shown fsize end_of
ends p [] = omega arith
ends p (cell open· fl re b ∷ fs) = omega arith
ends p (cell committed fl re b ∷ fs) = ends (p + fsize (cell committed fl re b)) fs ∙ omega arith
ends p (cell aborted fl re b ∷ fs) = ends (p + fsize (cell aborted fl re b)) fs ∙ omega arith

-- ---- their bodies

unfoldable pub carried : List Cell → ℕ
carried [] = 0
carried (cell open· fl re b ∷ fs) = 0
carried (cell committed fl re b ∷ fs) = length b + carried fs
carried (cell aborted fl re b ∷ fs) = carried fs

pub bodies : (p : ℕ) (fs : List Cell) → sum body_of (passed p (done fs)) ≡ carried fs
unfolding done passed shown flen sum carried
bodies p [] = refl
bodies p (cell open· fl re b ∷ fs) = refl
bodies p (cell committed fl re b ∷ fs) = omega (arith, bodies (p + fsize (cell committed fl re b)) fs)
bodies p (cell aborted fl re b ∷ fs) = omega (arith, bodies (p + fsize (cell aborted fl re b)) fs)

-- a message in fragments carries itself
cut-carries : (fuel pay fl re : ℕ) (m : List ℕ) (gs : List Cell) → length m < fuel → 0 < pay → carried (cells (cut_from fuel pay fl re m) ++ gs) ≡ length m + carried gs
unfolding carried cells
cut-carries zero pay fl re m gs h k = absurd (omega arith)
cut-carries (suc fuel) pay fl re m gs h k =
    split (length m) pay
    (λ l. rw (cut-last fuel pay fl re m l))
    (λ l.
    let d = length-drop pay m in
    rw (cut-more fuel pay fl re m l)
    (omega (arith, cut-carries fuel pay 0 re (drop pay m) gs (omega arith) k, length-take-le pay m (omega arith), d)))

-- and its frames are all done
pub cells-done : (x : List Fragment) (gs : List Cell) → done (cells x ++ gs) ≡ cells x ++ done gs
unfolding done cells
cells-done [] gs = refl
cells-done (fragment fl re b ∷ x) gs = ap (λ (l : List Cell). cell committed fl re b ∷ l) (cells-done x gs)

-- ---- of a history

pads-closed : (h : List Extent) → Pads h → Pads (closed h)
unfolding Pads closed
pads-closed [] p = tt
pads-closed (message re m ∷ h) p = pads-closed h p
pads-closed (claimed· open· b ∷ h) p = tt
pads-closed (claimed· committed b ∷ h) p = pads-closed h p
pads-closed (claimed· aborted b ∷ h) p = pads-closed h p
pads-closed (padding n ∷ h) p = (p.0, p.1, pads-closed h p.2)

module _ (c : Shape) where
  done-is : (h : List Extent) → done (flat c h) ≡ flat c (closed h)
  unfolding done closed flat frames
  done-is [] = refl
  done-is (message re m ∷ h) =
      cells-done (cut c.payload (long re) m) (flat c h) ∙ ap (λ (l : List Cell). cells (cut c.payload (long re) m) ++ l) (done-is h)
  done-is (claimed· open· b ∷ h) = refl
  done-is (claimed· committed b ∷ h) = ap (λ (l : List Cell). cell committed 192 0 b ∷ l) (done-is h)
  done-is (claimed· aborted b ∷ h) = ap (λ (l : List Cell). cell aborted 192 0 b ∷ l) (done-is h)
  done-is (padding n ∷ h) = ap (λ (l : List Cell). cell aborted 192 0 (zeros (n - 32)) ∷ l) (done-is h)

  carried-is : (h : List Extent) → 0 < c.payload → carried (flat c h) ≡ total_of (messages h)
  unfolding carried flat frames messages total_of cut
  carried-is [] k = refl
  carried-is (message re m ∷ h) k = cut-carries (suc (length m)) c.payload 128 (long re) m (flat c h) (omega arith) k ∙ ap (λ (n : ℕ). length m + n) (carried-is h k)
  carried-is (claimed· open· b ∷ h) k = refl
  carried-is (claimed· committed b ∷ h) k = ap (λ (n : ℕ). length b + n) (carried-is h k)
  carried-is (claimed· aborted b ∷ h) k = carried-is h k
  carried-is (padding n ∷ h) k = carried-is h k

  -- Where a history's frames lie from p on, a walk from there up to their end passes those before the first claim that is still open.
  pub walks-history : (s : Stream) (p : ℕ) (h : List Extent) → 0 < c.payload → c.payload % 32 ≡ 0 → Pads h → Laid s p (flat c h)
      → between s p (p + size_all c h) ≡ passed p (done (flat c h))
  walks-history s p h k even pads l =
      let to = p + size_all c h in walks s (to - p) to p (flat c h) (ap (λ (n : ℕ). p + n) (size-all c k even h pads)) (omega arith) l

  -- Of such a walk: its body bytes are those of the messages before that claim, and it ends at that claim, or at the second position if there is none.
  pub told-by-history : (s : Stream) (p : ℕ) (h : List Extent) → 0 < c.payload → c.payload % 32 ≡ 0 → Pads h → Laid s p (flat c h)
      → let fs = between s p (p + size_all c h) in ((sums_of fs).body ≡ total_of (messages h)) × (end_of p fs ≡ p + size_all c (closed h))
  told-by-history s p h k even pads l =
      let to = p + size_all c h in
      let w : between s p to ≡ passed p (done (flat c h)) = walks-history s p h k even pads l in
      let z : sizes (done (flat c h)) ≡ size_all c (closed h) = ap sizes (done-is h) ∙ sym (size-all c k even (closed h) (pads-closed h pads)) in (
        ap (λ (fs : List Passed). sum body_of fs) w ∙ bodies p (flat c h) ∙ carried-is h k,
        ap (end_of p) w ∙ ends p (flat c h) ∙ ap (λ (n : ℕ). p + n) z,
      )

-- ---- a part of a history lies where it does

pub laid-front : (s : Stream) (p : ℕ) (fs gs : List Cell) → Laid s p (fs ++ gs) → Laid s p fs
unfolding Laid
laid-front s p [] gs l = tt
laid-front s p (f ∷ fs) gs l = (l.0, l.1, l.2, laid-front s (p + fsize f) fs gs l.3)

pub laid-back : (s : Stream) (p : ℕ) (fs gs : List Cell) → Laid s p (fs ++ gs) → Laid s (p + sizes fs) gs
unfolding Laid sizes
laid-back s p [] gs l = rw (plus-zero p) l
  where
    plus-zero : (n : ℕ) → n + 0 ≡ n
    plus-zero n = omega arith
laid-back s p (f ∷ fs) gs l =
    let e : p + fsize f + sizes fs ≡ p + (fsize f + sizes fs) = omega arith in
    subst (λ (q : ℕ). Laid s q gs) e (laid-back s (p + fsize f) fs gs l.3)

-- ---- the log that a history's calls left

-- what a frame shows, whatever lies behind it
module _ (c : Shape) (p : ℕ) (f : Cell) (rest : List ℕ) where
  flags-of : flags_at (enc c p f ++ rest) ≡ flags_of f
  unfolding enc solid solid_at head header24 le4 le2
  flags-of = refl

  body-of : take (length (body_in f)) (drop 32 (enc c p f ++ rest)) ≡ body_in f
  unfolding enc solid solid_at head header24 le4 le2 le8
  body-of =
      ap (take (length (body_in f))) (append_assoc (body_in f) (zeros (fsize f - flen f)) rest)
      ∙ take_at (body_in f) (zeros (fsize f - flen f) ++ rest) (length (body_in f)) refl

-- a frame's header has the id of its position's term in the stream
abbrev pub Ids : Stream → Shape → Type 0
Ids s c = (p : ℕ) (f : Cell) (rest : List ℕ) → (header_at (enc c p f ++ rest)).id ≡ (s.initial + p / s.term) % 4294967296

-- `all` is the stream's log, of which the partitions show three terms from `low` on.
module _ (s : Stream) (c : Shape) (z low : ℕ) (all : List ℕ) (some : 0 < s.term) (three : length s.log ≡ 3 * s.term) (window : Window s.term s.log all low) (ids : Ids s c) where
  abbrev T : ℕ
  T = s.term

  -- a frame of the stream's log lies in the partition of its position
  lies-here : (p : ℕ) (f : Cell) (rest : List ℕ) → drop p all ≡ enc c p f ++ rest → fsize f ≤ T - p % T → low ≤ p / T → p < (low + 3) * T
      → bytes_at s p ≡ enc c p f ++ drop (place_at T p + length (enc c p f)) s.log
  lies-here p f rest e k a b =
      let last : p / T < low + 3 = (div-lt_iff_lt-mul some).1 b in
      let room : p % T < T = mod-lt p some in
      let three-of : partition_of p T < 3 = mod-lt (p / T) (omega arith) in
      lies_same T s.log all (partition_of p T) (p / T) (shown-term T s.log all low (p / T) window a (omega arith)) (p % T) (enc c p f) rest
      (omega (arith, length-enc c p f)) (inside T (partition_of p T) (length s.log) three three-of) (ap (λ (n : ℕ). drop n all) (div-add-mod' p T) ∙ e)

  pub laid : (p : ℕ) (fs : List Cell) → drop p all ≡ bytes c p fs ++ zeros z → low ≤ p / T → p + sizes fs ≤ (low + 3) * T → Fits T (T - p % T) fs → Laid s p fs
  unfolding Laid Fits bytes sizes frame_in own_id
  laid p [] e a b k = tt
  laid p (f ∷ fs) e a b k =
      let rest = drop (place_at T p + length (enc c p f)) s.log in
      let whole : drop p all ≡ enc c p f ++ (bytes c (p + fsize f) fs ++ zeros z) = e ∙ append_assoc (enc c p f) (bytes c (p + fsize f) fs) (zeros z) in
      let here : bytes_at s p ≡ enc c p f ++ rest = lies-here p f _ whole k.1 a (omega (arith, flen-ge f, fsize-ge f)) in
      let next : low * T ≤ p + fsize f = omega (arith, (le-div_iff_mul-le {k = T} {x = low} {y = p} some).0 a) in (
        ap (λ (l : List ℕ). frame_at l (T - p % T)) here ∙ see-enc c p f rest (T - p % T) k.0 k.1,
        eq-eqb _ _ (ap (λ (l : List ℕ). (header_at l).id) here ∙ ids p f rest),
        (ap flags_at here ∙ flags-of c p f rest, ap (λ (l : List ℕ). take (length (body_in f)) (drop 32 l)) here ∙ body-of c p f rest),
        laid (p + fsize f) fs (drop-next c p f fs (zeros z) all e) ((le-div_iff_mul-le {k = T} {x = low} {y = p + fsize f} some).1 next) (omega arith)
            (subst (λ (r : ℕ). Fits T r fs) (room_next T p (fsize f) some k.1) k.2),
      )

-- a sound log's frames have the ids of its record
own-ids : (r : LogRecord) (log : List ℕ) → Ids (stream_of r log) (shape_of (reading r))
unfolding stream_of reading_of enc solid solid_at head header24 le4 le2 u32
own-ids r log p f rest = u32-le4 _ [] (omega arith) ∙ omega arith

-- With the invariant of a season, any part of the history that begins in a term not cleared lies from there on.
pub part-laid : (r : LogRecord) (log : List ℕ) (h : List Extent) (ks : List Claim) (t : Terms) → let c = shape_of (reading r) in Inv c (record { record· = r; log = log }) h ks t
    → (a b d : List Extent) → h ≡ a ++ (b ++ d) → t.cleared ≤ size_all c a / c.term
    → (0 < c.payload) × (c.payload % 32 ≡ 0) × Pads b × Laid (stream_of r log) (size_all c a) (flat c b)
unfolding stream_of
part-laid r log h ks t i a b d e k =
    let c = shape_of (reading r) in
    let s = stream_of r log in
    let p = size_all c a in
    let o : Boundary c p h = record { front = a; back = b ++ d; cut = e; at = refl } in
    let rest : Laid s p (flat c (b ++ d)) =
    laid s c (2147483648 * c.term - sizes (flat c h)) t.cleared i.all (pos-T r log h ks t i p o k) i.long i.window (own-ids r log) p (flat c (b ++ d))
    (lies r log h ks t i p o k) k (roof r log h ks t i p o k) (fit r log h ks t i p o k) in (
      omega (arith, pay r log h ks t i p o k),
      omega (arith, i.holds.fixed.mtu-low, i.holds.fixed.mtu-32),
      pads-front b d (pads-back a (b ++ d) (pads r log h ks t i p o k)),
      laid-front s p (flat c b) (flat c d) (subst (Laid s p) (flat_append c b d) rest),
    )

-- ---- the theorem

-- of any world that the invariant holds of, between two boundaries
by-bounds : (c : Shape) (w : World) (h : List Extent) (ks : List Claim) (t : Terms) → Inv c w h ks t → (from to : ℕ) → Boundary c from h → Boundary c to h → from ≤ to → t.cleared ≤ from / c.term
    → Tallied c (stream_of w.record· w.log) h from to
by-bounds c w h ks t i from to a b o k =
    subst (λ (x : Shape). Inv x w h ks t → Boundary x from h → Boundary x to h → t.cleared ≤ from / x.term → Tallied x (stream_of w.record· w.log) h from to) i.holds.is own i a b k
  where
    own : let x = shape_of (reading w.record·) in Inv x w h ks t → Boundary x from h → Boundary x to h → t.cleared ≤ from / x.term → Tallied x (stream_of w.record· w.log) h from to
    own i a b k =
        let x = shape_of (reading w.record·) in
        let s = stream_of w.record· w.log in
        let p = parted x from to h a b o in
        let l = part-laid w.record· w.log h ks t i p.before p.between· p.behind p.whole (subst (λ (n : ℕ). t.cleared ≤ n / x.term) (sym p.first) k) in
        let g = told-by-history x s (size_all x p.before) p.between· l.0 l.1 l.2 l.3 in
        let q : size_all x p.before + size_all x p.between· ≡ to = p.second in
        record {
          before = p.before;
          middle = p.between·;
          behind = p.behind;
          whole = p.whole;
          first = p.first;
          second = q;
          body = sym (ap₂ (λ (m n : ℕ). (sums_of (between s m n)).body) p.first q) ∙ g.0;
          end = sym (ap₂ (λ (m n : ℕ). end_of m (between s m n)) p.first q) ∙ g.1 ∙ ap (λ (m : ℕ). m + size_all x (closed p.between·)) p.first;
        }

pub history-tallied : HistoryTallied
history-tallied log term mtu initial session stream fresh calls given from to a b o =
    let w = opened log term mtu initial session stream in
    let k = kept log term mtu initial session stream fresh calls given in
    by-bounds (shape w) (left w calls) (history w calls) k.0.0 (told_terms no_terms (answers w calls)) k.0.1 from to
    (start-bound (shape w) from (answers w calls) a.told k.1) (start-bound (shape w) to (answers w calls) b.told k.1) o a.kept
