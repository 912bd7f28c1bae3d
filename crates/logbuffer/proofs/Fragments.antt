-- Fragments by the tests of the code; and a body that is laid is the assembler's own step.
use Rattle.std.proofs.Common.{◌≡◌, ℕ, Option, Some, None, ◌+◌, ◌*◌, ◌<◌, ◌≤◌, Bool, true, false, cond, not, ◌&&◌, ltb, leb, List, length, get_or, take, drop, ℤ, sym, refl, ap, ◌∙◌, arith, ltb-true, le-ltb, lt-ltb, le-leb, leb-true}
use borrow.Author.Tests.{lt-leb}
use Rattle.model.specs.declared.Joining.{Joining}
use Rattle.model.specs.declared.Joining.TheVariants.{Full, TooLong, Join, Complete}
use Rattle.model.specs.declared.Frame.{Frame}
use Rattle.model.specs.declared.Frame.TheVariants.{Absent, Unsound, Padding, Data}
use Rattle.model.specs.Bytes.{splice}
use Rattle.model.specs.FrameDescriptor.{frame_at, flags_at, begins, ends}
use Rattle.model.specs.FragmentAssembler.{Sessions, entered, place_of, part_length, session_at, body_length, joining, joined}
use Rattle.model.proofs.Both.{and-true, and-false, both_true}
use Rattle.model.proofs.Choice.{cond-true, cond-false, split}
use Rattle.model.proofs.FrameLaws.{lies}
use Rattle.logbuffer.specs.Assembler.{Framed, join_of}
use Rattle.logbuffer.specs.Whole.{data_length}
use Rattle.logbuffer.specs.Fragments.{numbers_of, fragment_at, joins, behind, is_laid, laid_of, laid_bytes}
use Rattle.logbuffer.specs.declared.fragment_assembler.Laid.{Laid}
use Rattle.logbuffer.proofs.Sessions.{more_by, join-begun, join_more}
use Rattle.logbuffer.proofs.Assembly.{join-yes}

-- ---- a data frame's numbers

pub data-only : (x : Frame) (n : ℕ) → data_length x ≡ n → 0 < n → x ≡ Data n
data-only Absent n e h = absurd (omega arith)
data-only (Unsound m) n e h = absurd (omega arith)
data-only (Padding m) n e h = absurd (omega arith)
data-only (Data m) n e h = ap Data e

module _ (log : List ℕ) (at room : ℕ) where
  abbrev n· : ℕ
  n· = data_length (frame_at (drop at log) room)

  pub fragment-none : n· ≡ 0 → None ≡ fragment_at log at room
  unfolding fragment_at
  fragment-none e =
      sym (cond-false (ltb 0 n· && leb (at + n·) (length log)) (Some (numbers_of n· (drop at log))) None (ap (λ (b : Bool). b && leb (at + n·) (length log)) (le-ltb 0 n· (omega (arith, e)))))

  pub fragment-past : length log < at + n· → None ≡ fragment_at log at room
  unfolding fragment_at
  fragment-past h =
      sym (cond-false (ltb 0 n· && leb (at + n·) (length log)) (Some (numbers_of n· (drop at log))) None (ap (λ (b : Bool). ltb 0 n· && b) (lt-leb (at + n·) (length log) h) ∙ and-false (ltb 0 n·)))

  pub fragment-short : length log < at + 32 → None ≡ fragment_at log at room
  fragment-short h =
      split n· 0 (λ l. fragment-none (omega (arith, l)))
      (λ l. fragment-past (omega (arith, h, (lies (drop at log) room (Data n·) (data-only (frame_at (drop at log) room) n· refl l) refl).header)))

  pub fragment-so : 0 < n· → at + n· ≤ length log → Some (numbers_of n· (drop at log)) ≡ fragment_at log at room
  unfolding fragment_at
  fragment-so h l = sym (cond-true (ltb 0 n· && leb (at + n·) (length log)) (Some (numbers_of n· (drop at log))) None (both_true (lt-ltb 0 n· h) (le-leb (at + n·) (length log) l)))

-- ---- a body, laid

-- a test that fails, of five
module _ (a b c d e : Bool) where
  pub no-1 : a ≡ false → (a && (b && (c && (d && e)))) ≡ false
  no-1 h = ap (λ (x : Bool). x && (b && (c && (d && e)))) h

  pub no-2 : b ≡ false → (a && (b && (c && (d && e)))) ≡ false
  no-2 h = ap (λ (x : Bool). a && (x && (c && (d && e)))) h ∙ and-false a

  pub no-3 : c ≡ false → (a && (b && (c && (d && e)))) ≡ false
  no-3 h = ap (λ (x : Bool). a && (b && (x && (d && e)))) h ∙ ap (λ (x : Bool). a && x) (and-false b) ∙ and-false a

  pub no-4 : d ≡ false → (a && (b && (c && (d && e)))) ≡ false
  no-4 h = ap (λ (x : Bool). a && (b && (c && (x && e)))) h ∙ ap (λ (x : Bool). a && (b && x)) (and-false c) ∙ ap (λ (x : Bool). a && x) (and-false b) ∙ and-false a

  pub no-5 : e ≡ false → (a && (b && (c && (d && e)))) ≡ false
  no-5 h =
      ap (λ (x : Bool). a && (b && (c && (d && x)))) h ∙ ap (λ (x : Bool). a && (b && (c && x))) (and-false d)
      ∙ ap (λ (x : Bool). a && (b && x)) (and-false c) ∙ ap (λ (x : Bool). a && x) (and-false b) ∙ and-false a

module _ (count place held flags n : ℕ) (log buffer : List ℕ) (at : ℕ) where
  abbrev Lays : Bool
  Lays = is_laid count place held flags n (length log) (length buffer) at

  abbrev Both : Option Laid → List ℕ → Type 0
  Both r b = (r ≡ laid_of count place held flags n (length log) (length buffer) at) × (b ≡ laid_bytes count place held flags n log buffer at)

  nothing : Lays ≡ false → Both None buffer
  nothing h = (sym (cond-false Lays _ None h), sym (cond-false Lays _ buffer h))

  abbrev a· : Bool
  a· = ltb place 16

  abbrev b· : Bool
  b· = joins count place held flags

  abbrev d· : Bool
  d· = leb (behind held flags + n) (part_length (length buffer))

  abbrev e· : Bool
  e· = leb (at + n) (length log)

  pub lays-nowhere : 16 ≤ place → Both None buffer
  unfolding is_laid
  lays-nowhere h = nothing (no-1 a· b· (ltb 0 n) d· e· (le-ltb place 16 h))

  pub lays-other : joins count place held flags ≡ false → Both None buffer
  unfolding is_laid
  lays-other h = nothing (no-2 a· b· (ltb 0 n) d· e· h)

  pub lays-empty : n ≡ 0 → Both None buffer
  unfolding is_laid
  lays-empty h = nothing (no-3 a· b· (ltb 0 n) d· e· (le-ltb 0 n (omega arith)))

  pub lays-long : part_length (length buffer) < behind held flags + n → Both None buffer
  unfolding is_laid
  lays-long h = nothing (no-4 a· b· (ltb 0 n) d· e· (lt-leb _ _ h))

  pub lays-past : length log < at + n → Both None buffer
  unfolding is_laid
  lays-past h = nothing (no-5 a· b· (ltb 0 n) d· e· (lt-leb _ _ h))

  pub lays : place < 16 → joins count place held flags ≡ true → 0 < n → behind held flags + n ≤ part_length (length buffer) → at + n ≤ length log
      → (r : Option Laid) (b : List ℕ) → r ≡ Some (record { held = behind held flags + n; ends = ends flags }) → b ≡ splice buffer (place * part_length (length buffer) + behind held flags) (take n (drop at log))
      → Both r b
  unfolding is_laid
  lays h j s f l r b er eb =
      let t : Lays ≡ true = both_true (lt-ltb place 16 h) (both_true j (both_true (lt-ltb 0 n s) (both_true (le-leb _ _ f) (le-leb _ _ l)))) in
      (er ∙ sym (cond-true Lays _ None t), eb ∙ sym (cond-true Lays _ buffer t))

-- what it asks, of a body that is laid
pub record Lying (count place held flags n size lent at : ℕ) : Type 0 where
  pub in-16 : place < 16
  pub joins-so : joins count place held flags ≡ true
  pub some : 0 < n
  pub fits : behind held flags + n ≤ part_length lent
  pub lies : at + n ≤ size

pub laid-true : (count place held flags n size lent at : ℕ) → is_laid count place held flags n size lent at ≡ true → Lying count place held flags n size lent at
unfolding is_laid
laid-true count place held flags n size lent at h =
    let a = and-true (ltb place 16) _ h in
    let b = and-true (joins count place held flags) _ a.1 in
    let c = and-true (ltb 0 n) _ b.1 in
    let d = and-true (leb (behind held flags + n) (part_length lent)) (leb (at + n) size) c.1 in
    record { in-16 = ltb-true _ _ a.0; joins-so = b.0; some = ltb-true _ _ c.0; fits = leb-true _ _ d.0; lies = leb-true _ _ d.1 }

-- ---- and what it is to the assembler

-- a frame that joins, of a session at its place
module _ (s : Sessions) (z : ℤ) (flags n part : ℕ) where
  abbrev k· : ℕ
  k· = place_of s z

  abbrev h· : ℕ
  h· = get_or s.held k· 0

  abbrev pub Laying : Joining
  Laying = cond (ends flags) (Complete k· (behind h· flags)) (Join k· (behind h· flags))

  joining-is : (b : Bool) → begins flags ≡ b → k· < 16 → joins s.count k· h· flags ≡ true → behind h· flags + n ≤ part → Laying ≡ joining s z flags n part
  joining-is true e h j f =
      let i : behind h· flags ≡ 0 = cond-true (begins flags) 0 h· e in
      let u : ends flags ≡ false = not-false (ends flags) (sym (cond-true (begins flags) (not (ends flags)) (ltb k· s.count && ltb 0 h·) e) ∙ j) in
      cond-false (ends flags) (Complete k· (behind h· flags)) (Join k· (behind h· flags)) u ∙ ap (Join k·) i
      ∙ sym (cond-false (leb 16 k·) Full (cond (ltb part n) (TooLong k·) (Join k· 0)) (lt-leb 16 k· h) ∙ cond-false (ltb part n) (TooLong k·) (Join k· 0) (le-ltb part n (omega (arith, i, f))))
      ∙ join-begun s z flags n part e u
    where
      not-false : (x : Bool) → not x ≡ true → x ≡ false
      not-false true q = absurd (let w : ◌≡◌ {A = ℕ} 0 1 = cc in omega arith)
      not-false false q = refl
  joining-is false e h j f =
      let i : behind h· flags ≡ h· = cond-false (begins flags) 0 h· e in
      let u = and-true (ltb k· s.count) (ltb 0 h·) (sym (cond-false (begins flags) (not (ends flags)) (ltb k· s.count && ltb 0 h·) e) ∙ j) in
      ap (λ (x : ℕ). cond (ends flags) (Complete k· x) (Join k· x)) i
      ∙ sym (cond-false (ltb part (h· + n)) (TooLong k·) (cond (ends flags) (Complete k· h·) (Join k· h·)) (le-ltb part (h· + n) (omega (arith, i, f))))
      ∙ more_by k· (entered s) h· n part (ends flags) (omega (arith, ltb-true k· s.count u.0, h)) (λ q. omega (arith, ltb-true 0 h· u.1, q))
      ∙ join_more s z flags n part e

module _ (s : Sessions) (buffer log : List ℕ) (i at : ℕ) (f : Framed log i) (small : at ≤ 4294967295) (ids : length s.ids ≡ 16) where
  abbrev frame· : List ℕ
  frame· = drop i log

  abbrev place· : ℕ
  place· = place_of s (session_at frame·)

  abbrev held· : ℕ
  held· = get_or s.held place· 0

  pub laid-joins : Lying s.count place· held· (flags_at frame·) (body_length frame·) (length log) (length buffer) (i + 32) → joined s buffer frame· at (Laying s (session_at frame·) (flags_at frame·) (body_length frame·) (part_length (length buffer))) ≡ join_of s buffer log i at
  laid-joins l =
      ap (joined s buffer frame· at) (joining-is s (session_at frame·) (flags_at frame·) (body_length frame·) (part_length (length buffer)) (begins (flags_at frame·)) refl l.in-16 l.joins-so l.fits)
      ∙ join-yes s buffer log i at f small ids
