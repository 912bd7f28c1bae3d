-- The entries of a poll over frames, given to the assembler one by one: it takes in what the frames hold.
use Rattle.std.specs.Prelude.{Ok, Err}
use mathlib.Core.Path.{◌≡◌, refl, sym, ap, ap₂, ◌∙◌, subst}
use mathlib.Core.Bool.{Bool, true, cond, ◌&&◌, ◌||◌}
use Prim.Native.Nat.{ℕ, ◌+◌, ◌-◌, ◌*◌, ◌/◌, ◌%◌, ◌≤◌, ◌<◌}
use mathlib.Core.List.{List, [], ◌∷◌, ◌++◌, append_assoc}
use native.Mathlib.Omega.{arith}
use borrow.Author.Tests.{le-leb, le-ltb, eq-eqb}
use lib.Dec.{leb}
use lib.ListN.{length, take, drop, length-append, length-drop}
use lib.Seq.{take_at, drop_at, drop-drop}
use lib.IntN.{ℤ, pos}
use mir.Syntax.{w32}
use mir.Val.{to_z}
use Rattle.model.specs.declared.LogRecord.{LogRecord}
use Rattle.model.specs.declared.Error.{Error}
use Rattle.model.specs.declared.Joining.{Joining}
use Rattle.model.specs.declared.Joining.TheVariants.{Through, Ignore, Full, TooLong, Join, Complete}
use Rattle.model.specs.declared.Error.TheVariants.{IllegalArgument, IllegalRecord}
use Rattle.model.specs.Bytes.{zeros, le2, le4, le8, u32, i32}
use Rattle.model.specs.FrameDescriptor.{align, is_finished, unsound_frame_at, flags_at}
use Rattle.model.specs.DataFrameHeader.{header24}
use Rattle.model.specs.LogBufferDescriptor.{reading, sound, Sound}
use Rattle.model.specs.TermReader.{numbers}
use Rattle.model.specs.FragmentAssembler.{Sessions, part_length, joining, sessions_by, buffer_by, assembled_by, good_frame, assemble_verdict, Assembly, assemble_by, assemble_of}
use Rattle.model.specs.Replay.{Replaying, handed_out, after, feed, feed_all}
use Rattle.model.specs.History.{Shape, shape_of, open·, committed, aborted}
use Rattle.model.proofs.FrameLaws.{length-finished}
use Rattle.model.proofs.Choice.{cond-true}
use Rattle.model.proofs.Both.{both_true}
use Rattle.model.proofs.Fields.{u32-low}
use Rattle.model.proofs.Cells.{Cell, cell, stored, head, flen, fsize, solid_at, solid, enc, bytes, sizes, length-enc, fsize-32}
use Rattle.model.proofs.Walking.{Small, AllSmall, Clear, ents_of, u32-enc}
use Rattle.model.proofs.OneSession.{frags_of, Asm, take_in, takes-in, takes-lost}
use Rattle.model.proofs.Assembling.{sid, Same, drops, joins-alike}

-- where the first body lies
abbrev pub first-of : List (ℕ × ℕ) → ℕ
first-of [] = 0
first-of (e ∷ es) = e.0

-- only a frame that is dropped is refused
dropped : (at n part : ℕ) (x : Joining) (e : Error) → assembled_by at n part x ≡ Err e → drops x ≡ true
dropped at n part Through e h = absurd (let z : ◌≡◌ {A = ℕ} 0 1 = cc in omega arith)
dropped at n part Ignore e h = absurd (let z : ◌≡◌ {A = ℕ} 0 1 = cc in omega arith)
dropped at n part Full e h = refl
dropped at n part (TooLong k) e h = refl
dropped at n part (Join k from) e h = absurd (let z : ◌≡◌ {A = ℕ} 0 1 = cc in omega arith)
dropped at n part (Complete k from) e h = absurd (let z : ◌≡◌ {A = ℕ} 0 1 = cc in omega arith)

-- ---- what a finished frame shows

module _ (c : Shape) (p fl re : ℕ) (b r : List ℕ) where
  abbrev f· : Cell
  f· = cell committed fl re b

  flags-enc : flags_at (enc c p f· ++ r) ≡ fl
  unfolding enc solid solid_at head header24 le4 le2
  flags-enc = refl

  session-enc : i32 (drop 12 (enc c p f· ++ r)) ≡ sid c
  unfolding enc solid solid_at head header24 le4 le2 u32
  session-enc = ap (to_z w32) (u32-low c.session [])

  body-enc : take (length b) (drop 32 (enc c p f· ++ r)) ≡ b
  unfolding enc solid solid_at head header24 le4 le2 le8
  body-enc =
      ap (take (length b)) (append_assoc b (zeros (fsize f· - flen f·)) r)
      ∙ take_at b (zeros (fsize f· - flen f·) ++ r) (length b) refl

  length-is : Small f· → u32 (enc c p f· ++ r) ≡ length b + 32
  unfolding stored flen
  length-is s = u32-enc c p f· r s

-- ---- one frame given to the assembler

module _ (r : LogRecord) (log : List ℕ) (snd : Sound (reading r) (length log)) (good : sound (reading r) (length log) ≡ true) where
  abbrev T : ℕ
  T = (reading r).term

  abbrev c· : Shape
  c· = shape_of (reading r)

  module _ (k base at fl re : ℕ) (b rest : List ℕ) (s : Sessions) (buffer : List ℕ) (small : length buffer ≤ 2147483647) (third : k ≤ 2) (on : at % 32 ≡ 0)
      (frame : drop (k * T + at) log ≡ enc c· (base + at) (cell committed fl re b) ++ rest)
      (tiny : Small (cell committed fl re b)) (room : fsize (cell committed fl re b) ≤ T - at) where
    abbrev long : ℕ
    long = length b + 32

    shows : u32 (drop (k * T + at) log) ≡ long
    shows = ap u32 frame ∙ length-is c· (base + at) fl re b rest tiny

    aligned : align long ≤ T - at
    unfolding fsize flen
    aligned = room

    short : long < 2147483648
    unfolding Small flen
    short = tiny

    reaches : k * T + at + 4 ≤ length log
    unfolding fsize flen
    reaches =
        omega (arith, length-drop (k * T + at) log, ap length frame, length-append (enc c· (base + at) (cell committed fl re b)) rest, length-enc c· (base + at) (cell committed fl re b))

    framed : good_frame log (k * T + at) ≡ true
    framed =
        both_true (le-leb (k * T + at + 4) (length log) reaches)
        (sym (ap is_finished (length-finished (u32 (drop (k * T + at) log)) (λ z. omega (arith, shows)) (omega (arith, shows, short)))))

    passes : assemble_verdict (reading r) log (length buffer) k at ≡ Ok tt
    unfolding assemble_verdict
    passes =
        cond-true (leb (length buffer) 2147483647 && _) _ (Err IllegalArgument)
        (both_true (le-leb (length buffer) 2147483647 small) (both_true (le-leb k 2 third)
        (both_true (both_true (eq-eqb (at % 32) 0 on) (both_true (le-leb (at + 1) T (omega (arith, aligned))) (le-leb T 2147483647 (omega (arith, snd.term-high))))) framed)))
        ∙ cond-true (sound (reading r) (length log)) _ (Err IllegalRecord) good
        ∙ ap₂ (λ (x y : Bool). cond (x || y) (Err (unsound_frame_at log (k * T) at)) (Ok tt)) (le-ltb (u32 (drop (k * T + at) log)) 32 (omega (arith, shows))) (le-ltb (T - at) (align (u32 (drop (k * T + at) log))) (omega (arith, shows, aligned)))

    -- what the call says, by the frame's own numbers
    abbrev says : ℕ → ℤ → ℕ → List ℕ → Assembly
    says n z flags body =
        record {
          answer = assembled_by (at + 32) n (part_length (length buffer)) (joining s z flags n (part_length (length buffer)));
          next = sessions_by s z n (joining s z flags n (part_length (length buffer)));
          buffer = buffer_by buffer body (joining s z flags n (part_length (length buffer)));
        }

    body_is : take (u32 (drop (k * T + at) log) - 32) (drop 32 (drop (k * T + at) log)) ≡ b
    body_is =
        let n : u32 (drop (k * T + at) log) - 32 ≡ length b = omega (arith, shows) in
        ap₂ (λ (m : ℕ) (l : List ℕ). take m (drop 32 l)) n frame ∙ body-enc c· (base + at) fl re b rest

    pub given : assemble_of r log s buffer (pos k) (pos at) ≡ says (length b) (sid c·) fl b
    unfolding assemble_of
    given =
        let n : u32 (drop (k * T + at) log) - 32 ≡ length b = omega (arith, shows) in
        ap (assemble_by s buffer (drop (k * T + at) log) at) passes
        ∙ ap₂ (λ (m : ℕ) (body : List ℕ). says m (i32 (drop 12 (drop (k * T + at) log))) (flags_at (drop (k * T + at) log)) body) n body_is
        ∙ ap₂ (λ (z : ℤ) (flags : ℕ). says (length b) z flags b)
        (ap (λ (l : List ℕ). i32 (drop 12 l)) frame ∙ session-enc c· (base + at) fl re b rest)
        (ap flags_at frame ∙ flags-enc c· (base + at) fl re b rest)

    -- the body in the log
    pub body_at : take (length b) (drop (k * T + (at + 32)) log) ≡ b
    body_at =
        let q : k * T + at + 32 ≡ k * T + (at + 32) = omega arith in
        ap (λ (n : ℕ). take (length b) (drop n log)) (sym q) ∙ ap (take (length b)) (sym (drop-drop 32 (k * T + at) log))
        ∙ ap (λ (l : List ℕ). take (length b) (drop 32 l)) frame ∙ body-enc c· (base + at) fl re b rest

  drop-on : (c : Shape) (k base at : ℕ) (f : Cell) (fs : List Cell) (t : List ℕ) → drop (k * T + at) log ≡ bytes c (base + at) (f ∷ fs) ++ t
      → drop (k * T + (at + fsize f)) log ≡ bytes c (base + (at + fsize f)) fs ++ t
  unfolding bytes
  drop-on c k base at f fs t e =
      let i : k * T + (at + fsize f) ≡ k * T + at + fsize f = omega arith in
      let j : base + at + fsize f ≡ base + (at + fsize f) = omega arith in
      ap (λ (n : ℕ). drop n log) i
      ∙ sym (drop-drop (fsize f) (k * T + at) log)
      ∙ ap (drop (fsize f)) (e ∙ append_assoc (enc c (base + at) f) (bytes c (base + at + fsize f) fs) t)
      ∙ drop_at (enc c (base + at) f) (bytes c (base + at + fsize f) fs ++ t) (fsize f) (length-enc c (base + at) f)
      ∙ ap (λ (n : ℕ). bytes c n fs ++ t) j

  -- ---- entries one after another

  unfoldable pub feed_each : ℕ → List (ℕ × ℕ) → Replaying → Replaying
  feed_each k [] p = p
  feed_each k (e ∷ es) p = feed_each k es (feed r log k p (pos e.0))

  -- read back from the lent slice
  pub feed-all : (k : ℕ) (es : List (ℕ × ℕ)) (slots : List ℤ) (p : Replaying) → feed_all r log k (length es) (numbers es ++ slots) p ≡ feed_each k es p
  unfolding feed_all feed_each numbers
  feed-all k [] slots p = refl
  feed-all k (e ∷ es) slots p = feed-all k es slots (feed r log k p (pos e.0))

  -- a replay's assembler is like an assembler of one session
  pub record Like (size : ℕ) (p : Replaying) (a : Asm) : Type 0 where
    pub same : Same c· size p.sessions p.buffer a.held
    pub out : p.out ≡ a.out

  module _ (size k base : ℕ) (small : size ≤ 2147483647) (third : k ≤ 2) where
    abbrev part : ℕ
    part = size / 16

    one-fed : (at fl re : ℕ) (b rest : List ℕ) (p : Replaying) (a : Asm) → at % 32 ≡ 0
        → drop (k * T + at) log ≡ enc c· (base + at) (cell committed fl re b) ++ rest → Small (cell committed fl re b) → fsize (cell committed fl re b) ≤ T - at
        → Like size p a → Like size (feed r log k p (pos (at + 32))) (take_in part a (fl, b)) × ((feed r log k p (pos (at + 32))).image ≡ p.image)
    unfolding feed
    one-fed at fl re b rest p a on frame tiny room l =
        let q : at + 32 - 32 ≡ at = omega arith in
        let g = given k base at fl re b rest p.sessions p.buffer (omega (arith, l.same.long)) third on frame tiny room in
        let w = ap (λ (n : ℕ). assemble_of r log p.sessions p.buffer (pos k) (pos n)) q ∙ g in
        let j = joins-alike c· size p.sessions p.buffer a.held l.same a.out a.lost log (k * T) (at + 32) fl b (body_at k base at fl re b rest p.sessions p.buffer (omega (arith, l.same.long)) third on frame tiny room) in
        let y = says k base at fl re b rest p.sessions p.buffer (omega (arith, l.same.long)) third on frame tiny room (length b) (sid c·) fl b in (
          subst (λ (y : Assembly). Like size (after log (k * T) p y) (take_in part a (fl, b))) (sym w)
              (subst (λ (n : ℕ). Like size (after log (k * T) p y) (take_in (n / 16) a (fl, b))) l.same.long
              (record { same = j.0; out = ap (λ (o : List (List ℕ)). o ++ handed_out log (k * T) y.buffer y.answer) l.out ∙ j.1 })),
          refl,
        )

    pub all-fed : (at : ℕ) (fs : List Cell) (t : List ℕ) (p : Replaying) (a : Asm) → at % 32 ≡ 0 → Clear fs → AllSmall fs → sizes fs ≤ T - at
        → drop (k * T + at) log ≡ bytes c· (base + at) fs ++ t → Like size p a
        → Like size (feed_each k (ents_of at fs) p) (takes-in part a (frags_of fs)) × ((feed_each k (ents_of at fs) p).image ≡ p.image)
    unfolding feed_each ents_of frags_of takes-in Clear AllSmall sizes bytes
    all-fed at [] t p a on clear tiny room e l = (l, refl)
    all-fed at (cell open· fl re b ∷ fs) t p a on clear tiny room e l = absurd clear
    all-fed at (cell committed fl re b ∷ fs) t p a on clear tiny room e l =
        let f = cell committed fl re b in
        let here = one-fed at fl re b (bytes c· (base + at + fsize f) fs ++ t) p a on (e ∙ append_assoc (enc c· (base + at) f) (bytes c· (base + at + fsize f) fs) t) tiny.0 (omega arith) l in
        let go = all-fed (at + fsize f) fs t (feed r log k p (pos (at + 32))) (take_in part a (fl, b)) (omega (arith, fsize-32 f)) clear tiny.1 (omega arith)
        (drop-on c· k base at f fs t e) here.0 in
        (go.0, go.1 ∙ here.1)
    all-fed at (cell aborted fl re b ∷ fs) t p a on clear tiny room e l =
        let f = cell aborted fl re b in
        all-fed (at + fsize f) fs t p a (omega (arith, fsize-32 f)) clear tiny.1 (omega arith) (drop-on c· k base at f fs t e) l

    -- a frame that the real assembler refuses is one that the other lost
    refused-lost : (at fl re : ℕ) (b rest : List ℕ) (p : Replaying) (a : Asm) (on : at % 32 ≡ 0)
        (frame : drop (k * T + at) log ≡ enc c· (base + at) (cell committed fl re b) ++ rest) (tiny : Small (cell committed fl re b)) (room : fsize (cell committed fl re b) ≤ T - at)
        (l : Like size p a) (e : Error) → (assemble_of r log p.sessions p.buffer (pos k) (pos at)).answer ≡ Err e → (take_in part a (fl, b)).lost ≡ true
    refused-lost at fl re b rest p a on frame tiny room l e h =
        let g = given k base at fl re b rest p.sessions p.buffer (omega (arith, l.same.long)) third on frame tiny room in
        let j = joins-alike c· size p.sessions p.buffer a.held l.same a.out a.lost log (k * T) (at + 32) fl b (body_at k base at fl re b rest p.sessions p.buffer (omega (arith, l.same.long)) third on frame tiny room) in
        let q = dropped (at + 32) (length b) (part_length (length p.buffer)) (joining p.sessions (sid c·) fl (length b) (part_length (length p.buffer))) e (ap (λ (y : Assembly). y.answer) (sym g) ∙ h) in
        subst (λ (n : ℕ). (take_in (n / 16) a (fl, b)).lost ≡ true) l.same.long (j.2 q)

    -- of frames with one body to hand out
    pub one-lost : (at : ℕ) (fs : List Cell) (t : List ℕ) (p : Replaying) (a : Asm) → at % 32 ≡ 0 → Clear fs → AllSmall fs → sizes fs ≤ T - at
        → drop (k * T + at) log ≡ bytes c· (base + at) fs ++ t → Like size p a
        → (m n : ℕ) → ents_of at fs ≡ (m, n) ∷ [] → (e : Error) → (assemble_of r log p.sessions p.buffer (pos k) (pos (m - 32))).answer ≡ Err e
        → (takes-in part a (frags_of fs)).lost ≡ true
    unfolding ents_of frags_of takes-in Clear AllSmall sizes bytes
    one-lost at [] t p a on clear tiny room e l m n s q h = absurd (let z : ◌≡◌ {A = ℕ} 0 1 = cc in omega arith)
    one-lost at (cell open· fl re b ∷ fs) t p a on clear tiny room e l m n s q h = absurd clear
    one-lost at (cell committed fl re b ∷ fs) t p a on clear tiny room e l m n s q h =
        let f = cell committed fl re b in
        let first : at + 32 ≡ m = ap first-of s in
        let place : m - 32 ≡ at = omega arith in
        takes-lost part (take_in part a (fl, b)) (frags_of fs)
        (refused-lost at fl re b (bytes c· (base + at + fsize f) fs ++ t) p a on (e ∙ append_assoc (enc c· (base + at) f) (bytes c· (base + at + fsize f) fs) t) tiny.0 (omega arith) l q
        (ap (λ (x : ℕ). (assemble_of r log p.sessions p.buffer (pos k) (pos x)).answer) (sym place) ∙ h))
    one-lost at (cell aborted fl re b ∷ fs) t p a on clear tiny room e l m n s q h =
        let f = cell aborted fl re b in
        one-lost (at + fsize f) fs t p a (omega (arith, fsize-32 f)) clear tiny.1 (omega arith) (drop-on c· k base at f fs t e) l m n s q h
