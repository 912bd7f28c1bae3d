-- Any replay from a position of a term in the window, only while below the publisher's position, comes to an end, having taken in what
-- the frames from there on hold up to the first claim still open.
use Rattle.std.specs.Prelude.{Result, Ok, Err}
use mathlib.Core.Path.{◌≡◌, refl, sym, ap, ap₂, ◌∙◌, subst}
use mathlib.Core.Bool.{Bool, true, false, cond, not, ◌&&◌}
use mathlib.Core.Logic.{◌⊎◌, inl, inr, ⊎_elim}
use Prim.Native.Nat.{ℕ, zero, suc, ◌+◌, ◌-◌, ◌*◌, ◌/◌, ◌%◌, ◌≤◌, ◌<◌}
use native.Mathlib.Nat.{le_refl, mod-lt, div-add-mod', div-lt_iff_lt-mul, le-div_iff_mul-le, div-mul-le_self, mul_left_comm}
use mathlib.Core.List.{List, [], ◌∷◌, ◌++◌, append_assoc, append-nil}
use native.Mathlib.Omega.{arith}
use borrow.Author.Tests.{le-leb, eq-eqb, lt-ltb, le-ltb}
use lib.Signed.{lt_z}
use lib.Dec.{leb, ltb, eqb}
use lib.ListN.{length, take, drop, get_or, replicate, length-append}
use lib.Seq.{drop_at, drop-drop}
use lib.IntN.{ℤ, pos}
use Rattle.model.specs.declared.LogRecord.{LogRecord}
use Rattle.model.specs.declared.Polled.{Polled}
use Rattle.model.specs.declared.Replayed.{Replayed as ReplayedMessage}
use Rattle.model.specs.declared.Replayed.TheVariants.{End}
use Rattle.model.specs.declared.Assembled.{Assembled}
use Rattle.model.specs.declared.Assembled.TheVariants.{Nothing, Fragment, Message}
use Rattle.model.specs.declared.Error.{Error}
use Rattle.model.specs.declared.ReadVerdict.TheVariants.{Read}
use Rattle.model.specs.declared.Error.TheVariants.{IllegalArgument, IllegalRecord, PositionOutOfRange}
use Rattle.model.specs.Bytes.{zeros, long}
use Rattle.model.specs.FrameDescriptor.{frame_at, is_unsound, unsound_frame_at}
use Rattle.model.specs.LogBufferDescriptor.{partition_of, reading, publisher_position, greatest, good_position, sound, Sound}
use Rattle.model.specs.TermReader.{Walked, walk, natural, good_entries, numbers, laid, first_unsound}
use Rattle.model.specs.Image.{Image, new_image, readable, poll_verdict, PollReply, poll_reply, poll_of}
use Rattle.model.specs.FragmentAssembler.{Assembly, assemble_of}
use Rattle.model.specs.Replay.{Replaying, handed_out, after, feed, feed_all, entries_of, with_image, round, start, is_below, is_over, turn, Polls, rounds, QuietPoll, Quiet, free_rounds, ReplayState, NextReply, giving, given_by, assembled_to, poll_one, turn_by, next_from, next_of, standing, message_by, replayed}
use Rattle.model.specs.History.{Shape, shape_of, open·, committed, aborted}
use Rattle.model.specs.Demand.{Allowed, Replayed, ReplayedFree, GivesAll}
use Rattle.model.proofs.Sound.{term-32}
use Rattle.model.proofs.Choice.{cond-true, cond-false, split, same?, eq_yes, eq_no, le_yes}
use Rattle.model.proofs.Both.{both_true}
use Rattle.model.proofs.Cells.{Cell, cell, fsize, bytes, sizes, length-bytes, bytes-append, sizes-append, flen-ge, fsize-ge, sizes-32}
use Rattle.model.proofs.Walking.{AllSmall, norm, Fits, Clear, seen, ents_of, Goes, goes, Stuck, moves, see-here, see-end, few}
use Rattle.model.proofs.Rooms.{norm-pos, fits-back}
use Rattle.model.proofs.Window.{Shows, Window, shown, walk_same, frame_same, lies_same}
use Rattle.model.proofs.Kept.{inside}
use Rattle.model.proofs.Rising.{clash}
use Rattle.model.proofs.OneSession.{frags_of, Asm, empty, takes-in, takes-append, takes-lost, takes-grow}
use Rattle.model.proofs.Assembling.{fresh-same}
use Rattle.model.proofs.Feeding.{feed_each, feed-all, Like, all-fed, one-lost}

-- a poll's answer by its two numbers
polled_as : ℕ → ℕ → Result Polled Error
polled_as n m = Ok (record { fragments = n; entries = m })

fits-small : (T r : ℕ) (fs gs : List Cell) → Fits T r (fs ++ gs) → AllSmall fs
unfolding Fits AllSmall
fits-small T r [] gs h = tt
fits-small T r (f ∷ fs) gs h = (h.0, fits-small T (norm T (r - fsize f)) fs gs h.2)

-- ---- lists of frames

clear-append : (fs gs : List Cell) → Clear fs → Clear gs → Clear (fs ++ gs)
unfolding Clear
clear-append [] gs h k = k
clear-append (cell open· fl re b ∷ fs) gs h k = h
clear-append (cell committed fl re b ∷ fs) gs h k = clear-append fs gs h k
clear-append (cell aborted fl re b ∷ fs) gs h k = clear-append fs gs h k

frags-append : (fs gs : List Cell) → Clear fs → frags_of (fs ++ gs) ≡ frags_of fs ++ frags_of gs
unfolding Clear frags_of
frags-append [] gs h = refl
frags-append (cell open· fl re b ∷ fs) gs h = absurd h
frags-append (cell committed fl re b ∷ fs) gs h = ap {B = List (ℕ × List ℕ)} (λ (r : List (ℕ × List ℕ)). (fl, b) ∷ r) (frags-append fs gs h)
frags-append (cell aborted fl re b ∷ fs) gs h = frags-append fs gs h

frags-stuck : (fs : List Cell) → Stuck fs → frags_of fs ≡ []
unfolding Stuck frags_of
frags-stuck [] h = refl
frags-stuck (cell open· fl re b ∷ fs) h = refl
frags-stuck (cell committed fl re b ∷ fs) h = absurd h
frags-stuck (cell aborted fl re b ∷ fs) h = absurd h

sizes-some : (fs : List Cell) → ¬ (sizes fs ≡ 0) → zero < length fs
unfolding sizes
sizes-some [] h = absurd (h refl)
sizes-some (f ∷ fs) h = omega arith

sizes-zero : (fs : List Cell) → sizes fs ≡ 0 → fs ≡ []
unfolding sizes
sizes-zero [] h = refl
sizes-zero (f ∷ fs) h = absurd (omega (arith, fsize-ge f, flen-ge f))

pub mul-32 : (k t : ℕ) → t % 32 ≡ 0 → k * t % 32 ≡ 0
mul-32 k t h =
    let e : t ≡ 32 * (t / 32) = omega arith in
    let f : k * t ≡ 32 * (k * (t / 32)) = ap (λ (x : ℕ). k * x) e ∙ mul_left_comm k 32 (t / 32) in
    omega arith

never-unsound : (f : Cell) → is_unsound (seen f) ≡ false
unfolding seen
never-unsound (cell open· fl re b) = refl
never-unsound (cell committed fl re b) = refl
never-unsound (cell aborted fl re b) = refl

neither : (a b x : Bool) → x ≡ false → (a && (b && x)) ≡ false
neither true true x e = e
neither true false x e = refl
neither false b x e = refl

module _ (r : LogRecord) (log : List ℕ) (snd : Sound (reading r) (length log)) (good : sound (reading r) (length log) ≡ true) where
  abbrev T : ℕ
  T = (reading r).term

  abbrev c· : Shape
  c· = shape_of (reading r)

  -- `all` is the stream's log, of which the partitions show three terms from `low` on; `fs` are its frames from position p₀ on
  module _ (all : List ℕ) (low p₀ : ℕ) (win : Window T log all low) (first : low ≤ p₀ / T) (on-32 : p₀ % 32 ≡ 0) (fs : List Cell) (z : ℕ)
      (e : drop p₀ all ≡ bytes c· p₀ fs ++ zeros z) (fits : Fits T (T - p₀ % T) fs) (roof : p₀ + sizes fs ≤ (low + 3) * T) (most : p₀ + sizes fs ≤ 2147483648 * T)
      (reaches : publisher_position (reading r) ≡ pos (p₀ + sizes fs)) where
    t : zero < T
    t = omega (arith, snd.term-low)

    even : T % 32 ≡ 0
    even = term-32 (reading r) (length log) snd

    -- the position behind a front of the frames
    abbrev at· : List Cell → ℕ
    at· front = p₀ + sizes front

    -- what lies behind a front of the frames
    rest : (front back : List Cell) → fs ≡ front ++ back → drop (at· front) all ≡ bytes c· (at· front) back ++ zeros z
    rest front back q =
        sym (drop-drop (sizes front) p₀ all)
        ∙ ap (drop (sizes front))
        (e ∙ ap (λ (l : List Cell). bytes c· p₀ l ++ zeros z) q ∙ ap (λ (l : List ℕ). l ++ zeros z) (bytes-append c· p₀ front back)
        ∙ append_assoc (bytes c· p₀ front) (bytes c· (p₀ + sizes front) back) (zeros z))
        ∙ drop_at (bytes c· p₀ front) (bytes c· (p₀ + sizes front) back ++ zeros z) (sizes front) (length-bytes c· p₀ front)

    fits-at : (front back : List Cell) → fs ≡ front ++ back → Fits T (T - at· front % T) back
    fits-at front back q = fits-back T p₀ front back t (subst (Fits T (T - p₀ % T)) q fits)

    -- the term's start in the stream's log, the partition's in the log
    abbrev origin : ℕ → ℕ
    origin p = p / T * T

    abbrev base : ℕ → ℕ
    base p = partition_of p T * T

    here : (p : ℕ) → origin p + p % T ≡ p
    here p = div-add-mod' p T

    rest_at : (front back : List Cell) → fs ≡ front ++ back
        → drop (origin (at· front) + at· front % T) all ≡ bytes c· (origin (at· front) + at· front % T) back ++ zeros z
    rest_at front back q = subst (λ (p : ℕ). drop p all ≡ bytes c· p back ++ zeros z) (sym (here (at· front))) (rest front back q)

    roomy : (p : ℕ) → zero < T - p % T
    roomy p = omega (arith, mod-lt p t)

    position-32 : (front : List Cell) → at· front % T % 32 ≡ 0
    position-32 front =
        let m : at· front / T * T % 32 ≡ 0 = mul-32 (at· front / T) T even in
        omega (arith, sizes-32 front, here (at· front))

    -- a walk over the stream's log
    abbrev walked : ℕ → ℕ → Walked
    walked p lim = walk T all (origin p) T T (p % T) lim []

    walks : (front back : List Cell) (lim : ℕ) → fs ≡ front ++ back → Goes T (at· front % T) back (walked (at· front) lim)
    walks front back lim q =
        goes c· T z (origin (at· front)) all T (at· front % T) lim back (rest_at front back q)
        (subst (λ (r : ℕ). Fits T r back) (sym (norm-pos T (T - at· front % T) (roomy (at· front)))) (fits-at front back q))

    -- a walk that does not move stands before what is free or being written
    stops : (front back : List Cell) (lim : ℕ) → fs ≡ front ++ back → zero < lim → (walked (at· front) lim).moved ≡ 0 → Stuck back
    stops front back lim q l m =
        moves c· T z (origin (at· front)) all T (at· front % T) lim back t (mod-lt (at· front) t) l (rest_at front back q) (fits-at front back q) m

    -- ---- below the publisher's position a partition shows the term

    third : (n : ℕ) → partition_of n T ≤ 2
    third n = let l : n / T % 3 < 3 = mod-lt (n / T) (omega arith) in omega arith

    shows : (front : List Cell) → at· front < (low + 3) * T → Shows T log (partition_of (at· front) T) all (at· front / T)
    shows front b =
        shown T log all low (at· front / T) win
        (omega (arith, (le-div_iff_mul-le {k = T} {x = p₀ / T} {y = at· front} t).1 (omega (arith, div-mul-le_self p₀ T))))
        (let l : at· front / T < low + 3 = (div-lt_iff_lt-mul t).1 (omega arith) in omega arith)

    same-walk : (front : List Cell) (lim : ℕ) → at· front < (low + 3) * T → walk T log (base (at· front)) T T (at· front % T) lim [] ≡ walked (at· front) lim
    same-walk front lim b = walk_same T log all (partition_of (at· front) T) (at· front / T) (shows front b) T (at· front % T) lim even (position-32 front)

    -- ---- the poll reads

    sees-all : (front back : List Cell) → fs ≡ front ++ back → is_unsound (frame_at (drop (origin (at· front) + at· front % T) all) (T - at· front % T)) ≡ false
    unfolding Fits
    sees-all front [] q = ap is_unsound (see-end c· T z (origin (at· front)) all (at· front % T) (T - at· front % T) (rest_at front [] q))
    sees-all front (f ∷ back) q =
        let h = fits-at front (f ∷ back) q in
        ap is_unsound (see-here c· T z (origin (at· front)) all (at· front % T) (T - at· front % T) f back (rest_at front (f ∷ back) q) h.0 h.1) ∙ never-unsound f

    sees : (front back : List Cell) → fs ≡ front ++ back → at· front < (low + 3) * T → is_unsound (frame_at (drop (base (at· front) + at· front % T) log) (T - at· front % T)) ≡ false
    sees front back q b =
        ap is_unsound (frame_same T log all (partition_of (at· front) T) (at· front / T) (shows front b) (at· front % T) (T - at· front % T) (omega (arith, position-32 front, even, mod-lt (at· front) t)))
        ∙ sees-all front back q

    module _ (session : ℤ) (front back : List Cell) (q : fs ≡ front ++ back) (b : at· front < (low + 3) * T) (slots : List ℤ) (limit : ℤ) (lent : good_entries (length slots) (natural limit) ≡ true) where
      abbrev image : Image
      image = new_image (pos (at· front)) session

      abbrev p· : ℕ
      p· = at· front

      reads : poll_verdict (reading r) log image (good_entries (length slots) (natural limit)) T (natural limit) ≡ Ok Read
      unfolding poll_verdict readable
      reads =
          cond-false (not (good_entries (length slots) (natural limit))) (Err IllegalArgument) _ (ap not lent)
          ∙ cond-false (not (sound (reading r) (length log))) (Err IllegalRecord) _ (ap not good)
          ∙ cond-false (not (leb p· (greatest (reading r)) && eqb (p· % 32) 0)) (Err PositionOutOfRange) _
          (ap not (both_true (le-leb p· (greatest (reading r)) (omega (arith, ap sizes q, sizes-append front back))) (eq-eqb (p· % 32) 0 (omega (arith, sizes-32 front)))))
          ∙ cond-false (first_unsound log (base p·) T T (p· % T) (natural limit)) (Err (unsound_frame_at log (base p·) (p· % T))) (Ok Read)
          (neither (ltb (p· % T) T) (ltb 0 (natural limit)) _ (sees front back q b))

      polls : poll_of r log image slots limit ≡ poll_reply image slots (walked p· (natural limit)) (Ok Read)
      unfolding poll_of
      polls =
          ap (poll_reply image slots (walk T log (base p·) T T (p· % T) (natural limit) [])) reads
          ∙ ap (λ (w : Walked). poll_reply image slots w (Ok Read)) (same-walk front (natural limit) b)

    -- ---- where a replay stands: over the frames `front`, all taken in

    module _ (session : ℤ) (buffer : List ℕ) (small : length buffer ≤ 2147483647) where
      abbrev part : ℕ
      part = length buffer / 16

      pub record Stands (p : Replaying) (front back : List Cell) : Type 0 where
        pub cut : fs ≡ front ++ back
        pub clear : Clear front
        pub image : p.image ≡ new_image (pos (at· front)) session
        pub like : Like r log snd good (length buffer) p (takes-in part empty (frags_of front))

      -- one poll more
      module _ (p : Replaying) (front back : List Cell) (s : Stands p front back) (b : at· front < (low + 3) * T) (slots : List ℤ) (limit : ℤ) (lent : good_entries (length slots) (natural limit) ≡ true) where
        abbrev w : Goes T (at· front % T) back (walked (at· front) (natural limit))
        w = walks front back (natural limit) s.cut

        abbrev reply : PollReply
        reply = poll_reply (new_image (pos (at· front)) session) slots (walked (at· front) (natural limit)) (Ok Read)

        polled : poll_of r log p.image slots limit ≡ reply
        polled = ap (λ (i : Image). poll_of r log i slots limit) s.image ∙ polls session front back s.cut b slots limit lent

        onward : fs ≡ (front ++ w.front) ++ w.back
        onward = s.cut ∙ ap (λ (l : List Cell). front ++ l) w.cut ∙ sym (append_assoc front w.front w.back)

        abbrev k : ℕ
        k = partition_of (at· front) T

        -- the image after the poll
        next : Image
        next = new_image (pos (at· (front ++ w.front))) session

        moved_on : reply.next ≡ next
        unfolding next
        moved_on =
            let far : at· front + sizes w.front ≡ at· (front ++ w.front) = omega (arith, sizes-append front w.front) in
            ap (λ (n : ℕ). new_image (pos n) session) (ap (λ (n : ℕ). at· front + n) w.moved ∙ far)

        round_is : round r log limit slots p ≡ feed_each r log snd good k (ents_of (at· front % T) w.front) (with_image p next)
        unfolding round laid
        round_is =
            ap₂ (λ (i : Image) (y : PollReply). feed_all r log (partition_of (long i.position) T) (entries_of y.answer) y.slots (with_image p y.next)) s.image polled
            ∙ ap (λ (i : Image). feed_all r log k (entries_of reply.answer) reply.slots (with_image p i)) moved_on
            ∙ feed-all r log snd good k (walked (at· front) (natural limit)).entries (drop (2 * length (walked (at· front) (natural limit)).entries) slots) (with_image p next)
            ∙ ap (λ (es : List (ℕ × ℕ)). feed_each r log snd good k es (with_image p next)) w.entries

        lies-all : drop (origin (at· front) + at· front % T) all
            ≡ bytes c· (origin (at· front) + at· front % T) w.front ++ (bytes c· (origin (at· front) + at· front % T + sizes w.front) w.back ++ zeros z)
        lies-all =
            rest_at front back s.cut ∙ ap (λ (l : List Cell). bytes c· (origin (at· front) + at· front % T) l ++ zeros z) w.cut
            ∙ ap (λ (l : List ℕ). l ++ zeros z) (bytes-append c· (origin (at· front) + at· front % T) w.front w.back)
            ∙ append_assoc (bytes c· (origin (at· front) + at· front % T) w.front) (bytes c· (origin (at· front) + at· front % T + sizes w.front) w.back) (zeros z)

        -- the frames that were walked over, in the partition
        abbrev walked-bytes : List ℕ
        walked-bytes = bytes c· (origin (at· front) + at· front % T) w.front

        abbrev tail : List ℕ
        tail = drop (k * T + at· front % T + length walked-bytes) log

        lies : drop (k * T + at· front % T) log ≡ walked-bytes ++ tail
        lies =
            let n : length walked-bytes ≡ sizes w.front = length-bytes c· (origin (at· front) + at· front % T) w.front in
            lies_same T log all k (at· front / T) (shows front b) (at· front % T) walked-bytes _ (omega (arith, w.within, roomy (at· front)))
            (inside T k (length log) snd.three (omega (arith, third (at· front)))) lies-all

        tiny : AllSmall w.front
        tiny = fits-small T (T - at· front % T) w.front w.back (subst (Fits T (T - at· front % T)) w.cut (fits-at front back s.cut))

        fed : Like r log snd good (length buffer) (feed_each r log snd good k (ents_of (at· front % T) w.front) (with_image p next)) (takes-in part (takes-in part empty (frags_of front)) (frags_of w.front))
            × ((feed_each r log snd good k (ents_of (at· front % T) w.front) (with_image p next)).image ≡ next)
        fed =
            all-fed r log snd good (length buffer) k (origin (at· front)) small (third (at· front)) (at· front % T) w.front tail
            (with_image p next) (takes-in part empty (frags_of front)) (position-32 front) w.clear tiny
            w.within lies (record { same = s.like.same; out = s.like.out })

        on : Stands (round r log limit slots p) (front ++ w.front) w.back
        unfolding next
        on =
            record {
              cut = onward;
              clear = clear-append front w.front s.clear w.clear;
              image = ap (λ (x : Replaying). x.image) round_is ∙ fed.1;
              like = subst (λ (x : Replaying). Like r log snd good (length buffer) x (takes-in part empty (frags_of (front ++ w.front)))) (sym round_is)
                  (subst (Like r log snd good (length buffer) (feed_each r log snd good k (ents_of (at· front % T) w.front) (with_image p next)))
                  (sym (takes-append part empty (frags_of front) (frags_of w.front)) ∙ ap (takes-in part empty) (sym (frags-append front w.front s.clear))) fed.0);
            }

      shorter : (n : ℕ) (front back : List Cell) (q : fs ≡ front ++ back) → ¬ ((walked (at· front) n).moved ≡ 0) → length (walks front back n q).back < length back
      shorter n front back q m =
          let v = walks front back n q in
          omega (arith, ap length v.cut, length-append v.front v.back, sizes-some v.front (λ k. m (v.moved ∙ k)))

      -- one that stands before what is free or being written has taken in all there is
      complete : (p : Replaying) (front back : List Cell) → Stands p front back → Stuck back → p.out ≡ (takes-in part empty (frags_of fs)).out
      complete p front back s stop =
          s.like.out
          ∙ ap (λ (l : List (ℕ × List ℕ)). (takes-in part empty l).out)
          (sym (append-nil (frags_of front)) ∙ ap (λ (l : List (ℕ × List ℕ)). frags_of front ++ l) (sym (frags-stuck back stop)) ∙ sym (frags-append front back s.clear) ∙ ap frags_of (sym s.cut))

      -- ---- at the publisher's position nothing is left

      behind : (front back : List Cell) → fs ≡ front ++ back → sizes fs ≤ sizes front → Stuck back
      unfolding Stuck
      behind front back q l = subst Stuck (sym (sizes-zero back (omega (arith, ap sizes q, sizes-append front back)))) tt

      below-is : (p : Replaying) (front back : List Cell) → Stands p front back → is_below r p.image.position ≡ ltb (at· front) (p₀ + sizes fs)
      below-is p front back s = ap₂ (λ (i : Image) (x : ℤ). lt_z (pos (long i.position)) x) s.image reaches

      turn_below : (p : Replaying) (front back : List Cell) → Stands p front back → sizes front < sizes fs → (limit : ℤ) (slots : List ℤ) → turn r log limit slots p ≡ round r log limit slots p
      unfolding turn
      turn_below p front back s b limit slots = cond-true (is_below r p.image.position) _ p (below-is p front back s ∙ lt-ltb (at· front) (p₀ + sizes fs) (omega arith))

      turn-over : (p : Replaying) (front back : List Cell) → Stands p front back → sizes fs ≤ sizes front → (limit : ℤ) (slots : List ℤ) → turn r log limit slots p ≡ p
      unfolding turn
      turn-over p front back s b limit slots = cond-false (is_below r p.image.position) _ p (below-is p front back s ∙ le-ltb (at· front) (p₀ + sizes fs) (omega arith))

      module _ (ps : Polls) (allowed : Allowed ps) where
        abbrev at : ℕ → Replaying
        at n = rounds r log ps (start p₀ session buffer) n

        -- one turn more, wherever it stands
        further : (n : ℕ) (front back : List Cell) → Stands (at n) front back → (front' : List Cell) × (back' : List Cell) × Stands (at (suc n)) front' back'
        unfolding rounds
        further n front back s =
            split (sizes fs) (sizes front)
            (λ (l : sizes fs ≤ sizes front). (front, back, subst (λ (x : Replaying). Stands x front back) (sym (turn-over (at n) front back s l (ps.limit n) (ps.slots n))) s))
            (λ (l : sizes front < sizes fs). (
              front ++ (walks front back (natural (ps.limit n)) s.cut).front,
              (walks front back (natural (ps.limit n)) s.cut).back,
              subst (λ (x : Replaying). Stands x (front ++ (walks front back (natural (ps.limit n)) s.cut).front) (walks front back (natural (ps.limit n)) s.cut).back)
                  (sym (turn_below (at n) front back s l (ps.limit n) (ps.slots n))) (on (at n) front back s (omega arith) (ps.slots n) (ps.limit n) (allowed.slots n)),
            ))

        stands : (n : ℕ) → (front : List Cell) × (back : List Cell) × Stands (at n) front back
        unfolding rounds Clear sizes frags_of takes-in
        stands zero = ([], fs, record { cut = refl; clear = tt; image = ap (λ (n : ℕ). new_image (pos n) session) (omega arith); like = record { same = fresh-same c· buffer; out = refl } })
        stands (suc n) = let g = stands n in further n g.0 g.1 g.2

        -- a walk that does not move is quiet
        quiet : (n : ℕ) (front back : List Cell) → Stands (at n) front back → at· front < (low + 3) * T → (walked (at· front) (natural (ps.limit n))).moved ≡ 0 → QuietPoll r log ps (at n) n
        unfolding ents_of polled_as
        quiet n front back s b m =
            let v = walks front back (natural (ps.limit n)) s.cut in
            let none : (walked (at· front) (natural (ps.limit n))).entries ≡ [] = v.entries ∙ ap (ents_of (at· front % T)) (sizes-zero v.front (sym v.moved ∙ m)) in
            let q = polled (at n) front back s b (ps.slots n) (ps.limit n) (allowed.slots n) in
            record {
              comes = ap (λ (y : PollReply). y.answer) q ∙ ap₂ (λ (x y : ℕ). polled_as x y) (v.fragments ∙ ap length none) (ap length none);
              moves = ap (λ (y : PollReply). y.next) q ∙ ap (λ (k : ℕ). new_image (pos k) session) (ap (λ (k : ℕ). at· front + k) m ∙ omega arith) ∙ sym s.image;
            }

        over : (n : ℕ) (front back : List Cell) → Stands (at n) front back → sizes fs ≤ sizes front → is_below r (at n).image.position ≡ false
        over n front back s l = below-is (at n) front back s ∙ le-ltb (at· front) (p₀ + sizes fs) (omega arith)

        seek : (k n : ℕ) (front back : List Cell) → Stands (at n) front back → length back ≤ k → (m : ℕ) × Quiet r log ps (start p₀ session buffer) m
        unfolding rounds
        seek zero n front back s h =
            split (sizes fs) (sizes front) (λ (l : sizes fs ≤ sizes front). (n, inl (over n front back s l)))
            (λ (l : sizes front < sizes fs).
            same? (walked (at· front) (natural (ps.limit n))).moved 0 (λ m. (n, inr (quiet n front back s (omega arith) m)))
            (λ m. absurd (omega (arith, shorter (natural (ps.limit n)) front back s.cut m))))
        seek (suc k) n front back s h =
            split (sizes fs) (sizes front) (λ (l : sizes fs ≤ sizes front). (n, inl (over n front back s l)))
            (λ (l : sizes front < sizes fs).
            same? (walked (at· front) (natural (ps.limit n))).moved 0 (λ m. (n, inr (quiet n front back s (omega arith) m)))
            (λ m. seek k (suc n) (front ++ (walks front back (natural (ps.limit n)) s.cut).front) (walks front back (natural (ps.limit n)) s.cut).back
            (subst (λ (x : Replaying). Stands x (front ++ (walks front back (natural (ps.limit n)) s.cut).front) (walks front back (natural (ps.limit n)) s.cut).back)
            (sym (turn_below (at n) front back s l (ps.limit n) (ps.slots n))) (on (at n) front back s (omega arith) (ps.slots n) (ps.limit n) (allowed.slots n)))
            (omega (arith, shorter (natural (ps.limit n)) front back s.cut m))))

        finishes : (n : ℕ) × Quiet r log ps (start p₀ session buffer) n
        finishes = let g = stands 0 in seek (length g.1) 0 g.0 g.1 g.2 (le_refl (length g.1))

        -- a quiet poll did not move
        stays : (n : ℕ) (front back : List Cell) → Stands (at n) front back → at· front < (low + 3) * T → QuietPoll r log ps (at n) n → (walked (at· front) (natural (ps.limit n))).moved ≡ 0
        stays n front back s b q =
            let m : at· front + (walked (at· front) (natural (ps.limit n))).moved ≡ at· front =
            ap (λ (i : Image). long i.position) (ap (λ (y : PollReply). y.next) (sym (polled (at n) front back s b (ps.slots n) (ps.limit n) (allowed.slots n))) ∙ q.moves ∙ s.image) in
            omega arith

        told : (n : ℕ) → Quiet r log ps (start p₀ session buffer) n → (at n).out ≡ (takes-in part empty (frags_of fs)).out
        told n q =
            let g = stands n in
            complete (at n) g.0 g.1 g.2
            (split (sizes fs) (sizes g.0) (λ (l : sizes fs ≤ sizes g.0). behind g.0 g.1 g.2.cut l)
            (λ (l : sizes g.0 < sizes fs).
            ⊎_elim
            (λ f. clash (is_below r (at n).image.position) (below-is (at n) g.0 g.1 g.2 ∙ lt-ltb (at· g.0) (p₀ + sizes fs) (omega arith)) f)
            (λ y. stops g.0 g.1 (natural (ps.limit n)) g.2.cut (allowed.some n) (stays n g.0 g.1 g.2 (omega arith) y)) q))

        -- ---- a stream that ends before the window does: polls at the publisher's position bring nothing, so they may go on

        module _ (short : p₀ + sizes fs < (low + 3) * T) where
          still-there : (p : Replaying) (front back : List Cell) → Stands p front back → sizes fs ≤ sizes front → (slots : List ℤ) (limit : ℤ) → good_entries (length slots) (natural limit) ≡ true
              → round r log limit slots p ≡ p
          unfolding next ents_of feed_each sizes
          still-there p front back s l slots limit lent =
              let b : at· front < (low + 3) * T = omega (arith, ap sizes s.cut, sizes-append front back) in
              let v = walks front back (natural limit) s.cut in
              let none : back ≡ [] = sizes-zero back (omega (arith, ap sizes s.cut, sizes-append front back)) in
              let nil : v.front ≡ [] = sizes-zero v.front (omega (arith, ap sizes v.cut, sizes-append v.front v.back, ap sizes none)) in
              let far : at· (front ++ v.front) ≡ at· front = omega (arith, sizes-append front v.front, ap sizes nil) in
              round_is p front back s b slots limit lent
              ∙ ap₂ (λ (fs : List Cell) (n : ℕ). feed_each r log snd good (partition_of (at· front) T) (ents_of (at· front % T) fs) (with_image p (new_image (pos n) session))) nil far
              ∙ ap (with_image p) (sym s.image)

          same-rounds : (n : ℕ) → free_rounds r log ps (start p₀ session buffer) n ≡ at n
          unfolding free_rounds rounds
          same-rounds zero = refl
          same-rounds (suc n) =
              let g = stands n in
              ap (round r log (ps.limit n) (ps.slots n)) (same-rounds n)
              ∙ split (sizes fs) (sizes g.0)
              (λ (l : sizes fs ≤ sizes g.0). still-there (at n) g.0 g.1 g.2 l (ps.slots n) (ps.limit n) (allowed.slots n) ∙ sym (turn-over (at n) g.0 g.1 g.2 l (ps.limit n) (ps.slots n)))
              (λ (l : sizes g.0 < sizes fs). sym (turn_below (at n) g.0 g.1 g.2 l (ps.limit n) (ps.slots n)))

          free-finish : (n : ℕ) × QuietPoll r log ps (free_rounds r log ps (start p₀ session buffer) n) n
          free-finish =
              let f = finishes in
              let g = stands f.0 in (
                f.0,
                subst (λ (x : Replaying). QuietPoll r log ps x f.0) (sym (same-rounds f.0))
                    (⊎_elim
                    (λ e. quiet f.0 g.0 g.1 g.2 (omega (arith, ap sizes g.2.cut, sizes-append g.0 g.1))
                    (stuck-moves f.0 g.0 g.1 g.2
                    (split (sizes fs) (sizes g.0) (λ (l : sizes fs ≤ sizes g.0). l)
                    (λ (l : sizes g.0 < sizes fs). clash (is_below r (at f.0).image.position) (below-is (at f.0) g.0 g.1 g.2 ∙ lt-ltb (at· g.0) (p₀ + sizes fs) (omega arith)) e))))
                    (λ y. y) f.1),
              )
            where
              stuck-moves : (n : ℕ) (front back : List Cell) (s : Stands (at n) front back) → sizes fs ≤ sizes front → (walked (at· front) (natural (ps.limit n))).moved ≡ 0
              stuck-moves n front back s l =
                  let v = walks front back (natural (ps.limit n)) s.cut in
                  v.moved ∙ omega (arith, ap sizes v.cut, sizes-append v.front v.back, ap sizes s.cut, sizes-append front back)

          free-told : (n : ℕ) → QuietPoll r log ps (free_rounds r log ps (start p₀ session buffer) n) n → (free_rounds r log ps (start p₀ session buffer) n).out ≡ (takes-in part empty (frags_of fs)).out
          free-told n q = ap (λ (x : Replaying). x.out) (same-rounds n) ∙ told n (inr (subst (λ (x : Replaying). QuietPoll r log ps x n) (same-rounds n) q))

      pub replays-free : p₀ + sizes fs < (low + 3) * T → (ms : List (List ℕ)) → (takes-in part empty (frags_of fs)).out ≡ ms → ReplayedFree (record { record· = r; log = log }) p₀ session buffer ms
      replays-free short ms m = record { finish = λ ps allowed. free-finish ps allowed short; exact = λ ps allowed n q. free-told ps allowed short n q ∙ m }

      pub replays : (ms : List (List ℕ)) → (takes-in part empty (frags_of fs)).out ≡ ms → Replayed (record { record· = r; log = log }) p₀ session buffer ms
      replays ms m = record { finish = λ ps allowed. finishes ps allowed; exact = λ ps allowed n q. told ps allowed n q ∙ m }

      -- ---- message by message: polls of one fragment

      abbrev two : List ℤ
      two = replicate 2 (pos 0)

      lent_two : good_entries (length two) (natural (pos 1)) ≡ true
      lent_two = refl

      abbrev state : Replaying → ReplayState
      state p = record { image = p.image; sessions = p.sessions; buffer = p.buffer }

      -- the replay that a poll of one fragment leads to
      abbrev onto : Replaying → Replaying
      onto p = round r log (pos 1) two p

      -- What a call says: a message, and then it stands further on; or the end, with all given, and then it stands where the next call says so
      -- again.
      record Onward (p : Replaying) (back : List Cell) (y : NextReply) : Type 0 where
        at : Replaying
        front' : List Cell
        back' : List Cell
        stands_on : Stands at front' back'
        less : length back' < length back
        is : y.next ≡ state at
        message : List ℕ
        gives : (rest : List (List ℕ)) → message_by log y.next y.answer rest ≡ message ∷ rest
        grown : at.out ≡ p.out ++ (message ∷ [])

      record Ended (p : Replaying) (y : NextReply) : Type 0 where
        answer : y.answer ≡ Ok End
        given : p.out ≡ (takes-in part empty (frags_of fs)).out
        at : Replaying
        front' : List Cell
        back' : List Cell
        stands_on : Stands at front' back'
        is : y.next ≡ state at
        same : at.out ≡ p.out

      abbrev Said : Replaying → List Cell → NextReply → Type 0
      Said p back y = Ended p y ⊎ Onward p back y

      -- from where nothing was given yet, and with more left
      said-on : (p q : Replaying) (back back' : List Cell) (y : NextReply) → q.out ≡ p.out → length back' ≤ length back → Said q back' y → Said p back y
      said-on p q back back' y e l (inl x) =
          inl (record { answer = x.answer; given = sym e ∙ x.given; at = x.at; front' = x.front'; back' = x.back'; stands_on = x.stands_on; is = x.is; same = x.same ∙ e })
      said-on p q back back' y e l (inr x) =
          inr (record { at = x.at; front' = x.front'; back' = x.back'; stands_on = x.stands_on; less = omega (arith, x.less); is = x.is; message = x.message; gives = x.gives; grown = x.grown ∙ ap (λ (o : List (List ℕ)). o ++ (x.message ∷ [])) e })

      -- the turn, by the poll's reply at a position
      abbrev turning : ReplayState → ℕ → PollReply → Result Polled Error → (ReplayState → NextReply) → NextReply
      turning s q y (Err e) go = giving s (Err e)
      turning s q y (Ok polled) go =
          cond (eqb polled.entries 0)
          (cond (eqb (long y.next.position) q) (giving s (Ok End)) (go (record { image = y.next; sessions = s.sessions; buffer = s.buffer })))
          (given_by (partition_of q T * T) s
          (assembled_to y.next (assemble_of r log s.sessions s.buffer (pos (partition_of q T)) (pos (natural (get_or y.slots 0 (pos 0)) - 32))))
          (assemble_of r log s.sessions s.buffer (pos (partition_of q T)) (pos (natural (get_or y.slots 0 (pos 0)) - 32))).answer go)

      turn_is : (s : ReplayState) (x : Result Polled Error) (go : ReplayState → NextReply) → turn_by r log s x go ≡ turning s (long s.image.position) (poll_one r log s.image) x go
      turn_is s (Err e) go = refl
      turn_is s (Ok _) go = refl

      module _ (kept : (takes-in part empty (frags_of fs)).lost ≡ false) (p : Replaying) (front back : List Cell) (s : Stands p front back) (b : at· front < (low + 3) * T) (go : ReplayState → NextReply) where
        abbrev v : Goes T (at· front % T) back (walked (at· front) 1)
        v = walks front back 1 s.cut

        abbrev q· : ℕ
        q· = at· front

        abbrev reply· : PollReply
        reply· = poll_reply (new_image (pos (at· front)) session) two (walked (at· front) 1) (Ok Read)

        -- the poll's reply, where the replay stands
        turns : turn_by r log (state p) (poll_one r log p.image).answer go ≡ turning (state p) q· reply· reply·.answer go
        turns =
            turn_is (state p) (poll_one r log p.image).answer go
            ∙ ap₂ (λ (i : Image) (y : PollReply). turning (state p) (long i.position) y y.answer go) s.image (polled p front back s b two (pos 1) lent_two)

        abbrev p' : Replaying
        p' = onto p

        s' : Stands (onto p) (front ++ v.front) v.back
        s' = on p front back s b two (pos 1) lent_two

        abbrev image' : Image
        image' = reply·.next

        next-is : next p front back s b two (pos 1) lent_two ≡ image'
        next-is = sym (moved_on p front back s b two (pos 1) lent_two)

        -- nothing came
        quiet-round : (walked q· 1).entries ≡ [] → onto p ≡ with_image p image'
        unfolding feed_each
        quiet-round e =
            round_is p front back s b two (pos 1) lent_two
            ∙ ap₂ (λ (es : List (ℕ × ℕ)) (i : Image). feed_each r log snd good (partition_of q· T) es (with_image p i)) (sym v.entries ∙ e) next-is

        -- one body came
        one-round : (m n : ℕ) → (walked q· 1).entries ≡ (m, n) ∷ [] → onto p ≡ feed r log (partition_of q· T) (with_image p image') (pos m)
        unfolding feed_each
        one-round m n e =
            round_is p front back s b two (pos 1) lent_two
            ∙ ap₂ (λ (es : List (ℕ × ℕ)) (i : Image). feed_each r log snd good (partition_of q· T) es (with_image p i)) (sym v.entries ∙ e) next-is

        less : ¬ ((walked q· 1).moved ≡ 0) → length v.back < length back
        less m = shorter 1 front back s.cut m

        -- no message came
        none_came : (walked q· 1).entries ≡ [] → ((x : Replaying) (f b : List Cell) → Stands x f b → length b < length back → Said x b (go (state x)))
            → Said p back (cond (eqb (q· + (walked q· 1).moved) q·) (giving (state p) (Ok End)) (go (record { image = image'; sessions = p.sessions; buffer = p.buffer })))
        none_came e ih =
            same? (walked q· 1).moved 0
            (λ m.
            subst (Said p back) (sym (eq_yes (q· + (walked q· 1).moved) q· _ _ (omega arith))) (inl (record { answer = refl; given = complete p front back s (stops front back 1 s.cut (omega arith) m); at = p; front' = front; back' = back; stands_on = s; is = refl; same = refl })))
            (λ m.
            subst (Said p back) (ap (λ (x : Replaying). go (state x)) (quiet-round e) ∙ sym (eq_no (q· + (walked q· 1).moved) q· (giving (state p) (Ok End)) _ (λ (z : q· + (walked q· 1).moved ≡ q·). m (omega arith))))
            (said-on p (onto p) back v.back (go (state (onto p))) (ap (λ (x : Replaying). x.out) (quiet-round e)) (omega (arith, less m)) (ih (onto p) (front ++ v.front) v.back s' (less m))))

        -- a body came: what the assembler was given
        abbrev a· : ℕ → Assembly
        a· m = assemble_of r log p.sessions p.buffer (pos (partition_of q· T)) (pos (m - 32))

        came : (m n : ℕ) → (walked q· 1).entries ≡ (m, n) ∷ [] → onto p ≡ after log (partition_of q· T * T) (with_image p image') (a· m)
        unfolding feed
        came m n e = one-round m n e

        -- the assembler never refuses: it would have lost a message
        kept-all : (m n : ℕ) → (walked q· 1).entries ≡ (m, n) ∷ [] → (e : Error) → (a· m).answer ≡ Err e → ⊥
        kept-all m n e x h =
            let k = partition_of q· T in
            let lost : (takes-in part (takes-in part empty (frags_of front)) (frags_of v.front)).lost ≡ true =
            one-lost r log snd good (length buffer) k (origin q·) small (third q·) (q· % T) v.front (tail p front back s b two (pos 1) lent_two) p (takes-in part empty (frags_of front))
            (position-32 front) v.clear (tiny p front back s b two (pos 1) lent_two) v.within (lies p front back s b two (pos 1) lent_two) s.like
            m n (sym v.entries ∙ e) x h in
            let all : (takes-in part (takes-in part (takes-in part empty (frags_of front)) (frags_of v.front)) (frags_of v.back)).lost ≡ true = takes-lost part _ (frags_of v.back) lost in
            let same : takes-in part (takes-in part (takes-in part empty (frags_of front)) (frags_of v.front)) (frags_of v.back) ≡ takes-in part empty (frags_of fs) =
            sym (takes-append part (takes-in part empty (frags_of front)) (frags_of v.front) (frags_of v.back))
            ∙ ap (takes-in part (takes-in part empty (frags_of front))) (sym (frags-append v.front v.back v.clear) ∙ ap frags_of (sym v.cut))
            ∙ sym (takes-append part empty (frags_of front) (frags_of back)) ∙ ap (takes-in part empty) (sym (frags-append front back s.clear) ∙ ap frags_of (sym s.cut)) in
            let z : ◌≡◌ {A = Bool} true false = sym all ∙ ap (λ (x : Asm). x.lost) same ∙ kept in
            let y : ◌≡◌ {A = ℕ} 0 1 = cc in omega arith

        one-came : (m n : ℕ) → (walked q· 1).entries ≡ (m, n) ∷ [] → ¬ ((walked q· 1).moved ≡ 0)
            → ((x : Replaying) (f b : List Cell) → Stands x f b → length b < length back → Said x b (go (state x)))
            → (o : Result Assembled Error) → (a· m).answer ≡ o → Said p back (given_by (partition_of q· T * T) (state p) (assembled_to image' (a· m)) o go)
        one-came m n e u ih (Ok Nothing) h =
            subst (λ (x : ReplayState). Said p back (go x)) (ap state (came m n e))
            (said-on p (onto p) back v.back (go (state (onto p)))
            (ap (λ (x : Replaying). x.out) (came m n e) ∙ ap (λ (o : Result Assembled Error). p.out ++ handed_out log (partition_of q· T * T) (a· m).buffer o) h ∙ append-nil p.out)
            (omega (arith, less u)) (ih (onto p) (front ++ v.front) v.back s' (less u)))
        one-came m n e u ih (Ok (Fragment at k)) h =
            inr (record {
              at = onto p;
              front' = front ++ v.front;
              back' = v.back;
              stands_on = s';
              less = less u;
              is = sym (ap state (came m n e));
              message = take k (drop (partition_of q· T * T + at) log);
              gives = λ rest. refl;
              grown = ap (λ (x : Replaying). x.out) (came m n e) ∙ ap (λ (o : Result Assembled Error). p.out ++ handed_out log (partition_of q· T * T) (a· m).buffer o) h;
            })
        one-came m n e u ih (Ok (Message at k)) h =
            inr (record {
              at = onto p;
              front' = front ++ v.front;
              back' = v.back;
              stands_on = s';
              less = less u;
              is = sym (ap state (came m n e));
              message = take k (drop at (a· m).buffer);
              gives = λ rest. refl;
              grown = ap (λ (x : Replaying). x.out) (came m n e) ∙ ap (λ (o : Result Assembled Error). p.out ++ handed_out log (partition_of q· T * T) (a· m).buffer o) h;
            })
        one-came m n e u ih (Err x) h = absurd (kept-all m n e x h)

        -- what moved where a body came
        moves-some : (m n : ℕ) (es : List (ℕ × ℕ)) → (walked q· 1).entries ≡ (m, n) ∷ es → ¬ ((walked q· 1).moved ≡ 0)
        unfolding ents_of
        moves-some m n es e z =
            let none : (m, n) ∷ es ≡ [] = sym e ∙ v.entries ∙ ap (ents_of (q· % T)) (sizes-zero v.front (sym v.moved ∙ z)) in
            let y : ◌≡◌ {A = ℕ} 0 1 = cc in omega arith

        -- one turn, by what came
        abbrev by_entries : List (ℕ × ℕ) → NextReply
        by_entries es =
            cond (eqb (length es) 0)
            (cond (eqb (q· + (walked q· 1).moved) q·) (giving (state p) (Ok End)) (go (record { image = image'; sessions = p.sessions; buffer = p.buffer })))
            (given_by (partition_of q· T * T) (state p)
            (assembled_to image' (assemble_of r log p.sessions p.buffer (pos (partition_of q· T)) (pos (natural (get_or (laid two es) 0 (pos 0)) - 32))))
            (assemble_of r log p.sessions p.buffer (pos (partition_of q· T)) (pos (natural (get_or (laid two es) 0 (pos 0)) - 32))).answer go)

        turns-to : turn_by r log (state p) (poll_one r log p.image).answer go ≡ by_entries (walked q· 1).entries
        turns-to = turns

        turn-says : (es : List (ℕ × ℕ)) → (walked q· 1).entries ≡ es → ((x : Replaying) (f b : List Cell) → Stands x f b → length b < length back → Said x b (go (state x)))
            → Said p back (turn_by r log (state p) (poll_one r log p.image).answer go)
        unfolding laid numbers
        turn-says [] e ih = subst (Said p back) (sym (turns-to ∙ ap by_entries e)) (none_came e ih)
        turn-says (x ∷ []) e ih =
            subst (Said p back) (sym (turns-to ∙ ap by_entries e)) (one-came x.0 x.1 e (moves-some x.0 x.1 [] e) ih (a· x.0).answer refl)
        turn-says (x ∷ y ∷ es) e ih = absurd (omega (arith, few T all (origin q·) T T (q· % T) 1, ap length e))

      -- a call of `next_of`
      over-is : (p : Replaying) (front back : List Cell) → Stands p front back → is_over r log p.image.position ≡ not (ltb (at· front) (p₀ + sizes fs))
      over-is p front back s =
          let g : good_position (reading r) (at· front) ≡ true =
          both_true (le-leb (at· front) (greatest (reading r)) (omega (arith, ap sizes s.cut, sizes-append front back))) (eq-eqb (at· front % 32) 0 (omega (arith, sizes-32 front))) in
          ap₂ (λ (i : Image) (x : Bool). sound (reading r) (length log) && (good_position (reading r) (long i.position) && not x)) s.image (below-is p front back s)
          ∙ ap₂ (λ (x y : Bool). x && (y && not (ltb (at· front) (p₀ + sizes fs)))) good g

      next-says : (takes-in part empty (frags_of fs)).lost ≡ false → (fuel : ℕ) (p : Replaying) (front back : List Cell) → Stands p front back → length back < fuel
          → Said p back (next_from fuel r log (state p))
      unfolding next_from
      next-says kept zero p front back s l = absurd (omega arith)
      next-says kept (suc fuel) p front back s l =
          split (sizes fs) (sizes front)
          (λ (d : sizes fs ≤ sizes front).
          subst (Said p back) (sym (cond-true (is_over r log p.image.position) _ _ (over-is p front back s ∙ ap not (le-ltb (at· front) (p₀ + sizes fs) (omega arith)))))
          (inl (record { answer = refl; given = complete p front back s (behind front back s.cut d); at = p; front' = front; back' = back; stands_on = s; is = refl; same = refl })))
          (λ (d : sizes front < sizes fs).
          subst (Said p back) (sym (cond-false (is_over r log p.image.position) _ _ (over-is p front back s ∙ ap not (lt-ltb (at· front) (p₀ + sizes fs) (omega arith)))))
          (turn-says kept p front back s (omega arith) (λ x. next_from fuel r log x) (walked (at· front) 1).entries refl
          (λ x f b t m. next-says kept fuel x f b t (omega arith))))

      -- frames are at least 32 bytes, so there are no more than the log's bytes
      few-frames : (gs : List Cell) → length gs ≤ sizes gs
      unfolding sizes
      few-frames [] = omega arith
      few-frames (g ∷ gs) = omega (arith, few-frames gs, flen-ge g, fsize-ge g)

      enough : (front back : List Cell) → fs ≡ front ++ back → length back < suc (3 * T)
      enough front back q =
          let l : low * T ≤ p₀ = (le-div_iff_mul-le t).0 first in
          omega (arith, few-frames back, ap sizes q, sizes-append front back)

      -- row 1 lets every buffer pass that was lent so
      next-is-from : (p : Replaying) (front back : List Cell) → Stands p front back → next_of r log (state p) ≡ next_from (suc (3 * T)) r log (state p)
      unfolding next_of
      next-is-from p front back s = le_yes (length p.buffer) 2147483647 _ _ (omega (arith, s.like.same.long))

      -- what was given so far is some of it
      least : (p : Replaying) (front back : List Cell) → Stands p front back → length p.out ≤ length (takes-in part empty (frags_of fs)).out
      least p front back s =
          let same : takes-in part (takes-in part empty (frags_of front)) (frags_of back) ≡ takes-in part empty (frags_of fs) =
          sym (takes-append part empty (frags_of front) (frags_of back)) ∙ ap (takes-in part empty) (sym (frags-append front back s.clear) ∙ ap frags_of (sym s.cut)) in
          omega (arith, takes-grow part (takes-in part empty (frags_of front)) (frags_of back), ap (λ (a : Asm). length a.out) same, ap length s.like.out)

      all-given : (ms : List (List ℕ)) → (takes-in part empty (frags_of fs)).lost ≡ false → (takes-in part empty (frags_of fs)).out ≡ ms
          → (most : ℕ) (p : Replaying) (front back : List Cell) → Stands p front back → length ms < length p.out + most → p.out ++ replayed most r log (state p) ≡ ms
      unfolding replayed
      all-given ms kept found zero p front back s l = absurd (omega (arith, least p front back s, ap length found))
      all-given ms kept found (suc most) p front back s l =
          let y = next_from (suc (3 * T)) r log (state p) in
          ap (λ (x : NextReply). p.out ++ message_by log x.next x.answer (replayed most r log x.next)) (next-is-from p front back s)
          ∙ ⊎_elim
          (λ x. ap (λ (a : Result ReplayedMessage Error). p.out ++ message_by log y.next a (replayed most r log y.next)) x.answer ∙ append-nil p.out ∙ x.given ∙ found)
          (λ x.
          ap (λ (l : List (List ℕ)). p.out ++ l) (x.gives (replayed most r log y.next) ∙ ap (λ (t : ReplayState). x.message ∷ replayed most r log t) x.is)
          ∙ sym (append_assoc p.out (x.message ∷ []) (replayed most r log (state x.at)))
          ∙ ap (λ (o : List (List ℕ)). o ++ replayed most r log (state x.at)) (sym x.grown)
          ∙ all-given ms kept found most x.at x.front' x.back' x.stands_on (omega (arith, ap length x.grown, length-append p.out (x.message ∷ []))))
          (next-says kept (suc (3 * T)) p front back s (enough front back s.cut))

      -- after as many replies as there are messages, or more, comes the end
      ended : (ms : List (List ℕ)) → (takes-in part empty (frags_of fs)).lost ≡ false → (takes-in part empty (frags_of fs)).out ≡ ms
          → (n : ℕ) (p : Replaying) (front back : List Cell) → Stands p front back → length ms ≤ length p.out + n
          → (next_of r log (standing n r log (state p))).answer ≡ Ok End
      unfolding standing
      ended ms kept found zero p front back s l =
          ap (λ (x : NextReply). x.answer) (next-is-from p front back s)
          ∙ ⊎_elim (λ x. x.answer)
          (λ x. absurd (omega (arith, least x.at x.front' x.back' x.stands_on, ap length x.grown, length-append p.out (x.message ∷ []), ap length found)))
          (next-says kept (suc (3 * T)) p front back s (enough front back s.cut))
      ended ms kept found (suc n) p front back s l =
          ⊎_elim
          (λ x.
          subst (λ (t : ReplayState). (next_of r log (standing n r log t)).answer ≡ Ok End) (sym (ap (λ (y : NextReply). y.next) (next-is-from p front back s) ∙ x.is))
          (ended ms kept found n x.at x.front' x.back' x.stands_on (omega (arith, ap length x.same, ap length x.given, ap length found))))
          (λ x.
          subst (λ (t : ReplayState). (next_of r log (standing n r log t)).answer ≡ Ok End) (sym (ap (λ (y : NextReply). y.next) (next-is-from p front back s) ∙ x.is))
          (ended ms kept found n x.at x.front' x.back' x.stands_on (omega (arith, ap length x.grown, length-append p.out (x.message ∷ [])))))
          (next-says kept (suc (3 * T)) p front back s (enough front back s.cut))

      begins : Stands (start p₀ session buffer) [] fs
      unfolding Clear sizes frags_of takes-in
      begins = record { cut = refl; clear = tt; image = ap (λ (n : ℕ). new_image (pos n) session) (omega arith); like = record { same = fresh-same c· buffer; out = refl } }

      pub gives_all : (ms : List (List ℕ)) → takes-in part empty (frags_of fs) ≡ record { held = []; out = ms; lost = false } → GivesAll (record { record· = r; log = log }) p₀ session buffer ms
      gives_all ms m =
          let kept = ap (λ (a : Asm). a.lost) m in
          let found = ap (λ (a : Asm). a.out) m in
          record {
            each = λ most l. all-given ms kept found most (start p₀ session buffer) [] fs begins (omega arith);
            ended = λ n l. ended ms kept found n (start p₀ session buffer) [] fs begins (omega arith);
          }
