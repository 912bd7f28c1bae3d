-- A body that is laid is the definition's step (`lay-goes`, `lay-ends`); else the core leads there.
use Rattle.std.specs.Prelude.{Some, None, Result, Ok}
use Rattle.model.specs.declared.Error.{Error}
use mathlib.Core.Path.{◌≡◌, refl, sym, ap, ap₂, subst, ◌∙◌}
use mathlib.Core.Bool.{true, false}
use mathlib.Core.List.{List}
use Prim.Native.Nat.{ℕ, ◌+◌, ◌-◌, ◌*◌, ◌/◌, ◌%◌, ◌≤◌, ◌<◌, min}
use native.Mathlib.Nat.{mod-lt, mul-le-mul_right}
use native.Mathlib.Omega.{arith}
use borrow.Author.Rules.{rules}
use lib.IntN.{ℤ}
use lib.ListN.{length, take, drop, get_or, set}
use lib.Seq.{set_out}
use mir.Syntax.{w32}
use mir.Val.{to_z, of_z}
use mir.Facts.{to_z-of_z}
use Rattle.model.specs.declared.Assembled.TheVariants.{Nothing, Message}
use Rattle.model.specs.declared.Frame.TheVariants.{Data}
use Rattle.model.specs.declared.Replayed.{Replayed}
use Rattle.model.specs.declared.Replayed.TheVariants.{InBuffer, End}
use Rattle.model.specs.Bytes.{u32}
use Rattle.model.specs.FrameDescriptor.{align, flags_at, ends}
use Rattle.model.specs.LogBufferDescriptor.{partition_of}
use Rattle.model.specs.FragmentAssembler.{Sessions, Assembly, place_in, session_at, body_length}
use Rattle.model.proofs.FrameLaws.{Lies, lies}
use Rattle.logbuffer.specs.Assembler.{sessions_as, entered_with, Framed, join_of}
use Rattle.logbuffer.specs.Fragments.{behind, is_laid, laid_of, laid_bytes}
use Rattle.logbuffer.specs.declared.fragment_assembler.Laid.{Laid}
use Rattle.logbuffer.proofs.Fragments.{Lying, laid-true}
use Rattle.replay.specs.declared.gathering.Current.{Current}
use Rattle.replay.specs.declared.frames.Gathered.{Gathered}
use Rattle.replay.specs.InPlace.{index_at}
use Rattle.replay.specs.Gather.{FrameHere, Gathering, current_of, Knows, gathered_as, gathering_of, led_by}
use Rattle.replay.proofs.Inside.{part-16}
use Rattle.replay.proofs.Gather.{led_to}
use Rattle.replay.proofs.Fragments.{data-framed, After, Spliced, lay-goes, lay-ends, lay-place, laid_none, laid-is, bytes-are, bytes-stay}
use Rattle.replay.proofs.gathering.take.Statement.{statement}
use Rattle.replay.proofs.gathering.take.Tie as tie

-- ---- the frame

module _ (s : tie.Start) where
  abbrev log : List ℕ
  log = s.args.log.now

  abbrev n : ℕ
  n = s.args.frame.length

  abbrev X : ℕ
  X = index_at s.args.term s.args.p

  abbrev o : ℕ
  o = s.args.p % s.args.term

  abbrev fr : List ℕ
  fr = drop X log

  here : FrameHere log s.args.term s.args.p s.args.frame
  here = s.requires.1.1.0

  ids-16 : length s.args.ids.now ≡ 16
  ids-16 = search rules

  framed : Framed log X × (n ≡ u32 fr)
  framed = data-framed log s.args.term 0 s.args.p s.requires.0.0 n s.requires.0.1.0 here.frame

  long : Lies n (s.args.term - o)
  long = lies _ _ (Data n) here.frame refl

  low : o < s.args.term
  low = mod-lt s.args.p s.requires.0.1.0

  near : X < 3221225472
  near =
      let m : partition_of s.args.p s.args.term * s.args.term ≤ 2 * s.args.term = mul-le-mul_right s.args.term (omega arith) in
      omega (arith, s.requires.0.0.fits.high, low)

  session-is : to_z w32 (of_z w32 s.args.frame.session) ≡ session_at fr
  session-is = to_z-of_z {w = w32} {z = s.args.frame.session} (search rules) ∙ here.session-is

turn-to-requires : tie.Need-turn_to-now-requires
turn-to-requires c κs = let s = c in s.requires.1.1.1

-- ---- with its session at hand

module _ (t : tie.After-turn_to-now) where
  abbrev s· : tie.Start
  s· = t.before.before.before.before.before

  abbrev K : ℕ
  K = t.turn_to-now.result.place

  abbrev b : ℕ
  b = t.turn_to-now.result.bytes

  abbrev held· : List ℕ
  held· = t.turn_to-now.new.held

  abbrev count· : ℕ
  count· = s·.args.count

  abbrev ids· : List ℤ
  ids· = s·.args.ids.now

  abbrev buffer₀ : List ℕ
  buffer₀ = s·.args.buffer.now

  place_is : K ≡ place_in (take (min count· 16) ids·) (session_at (fr s·))
  place_is = t.turn_to-now.ensures.0.0.0 ∙ ap (place_in (take (min count· 16) ids·)) (session-is s·)

  named : to_z w32 (of_z w32 t.turn_to-now.result.session) ≡ session_at (fr s·)
  named = to_z-of_z {w = w32} {z = t.turn_to-now.result.session} (search rules) ∙ t.turn_to-now.ensures.0.0.1 ∙ session-is s·

  bytes-now : b ≡ get_or (set held· K b) K 0
  bytes-now = t.turn_to-now.ensures.0.1 ∙ ap (λ (h : List ℕ). get_or h K 0) (sym t.turn_to-now.ensures.1)

  -- where the frame leads, for sessions with such numbers
  abbrev Leads : ℕ → List ℕ → List ℕ → Gathering
  Leads i h bs = led_by s·.args.left s·.args.p (n s·) i (sessions_as count· ids· h) (join_of (sessions_as count· ids· h) bs (log s·) i (o s·))

  asked : Leads (X s·) (set held· K b) buffer₀ ≡ Leads (X s·) (set s·.args.held.now s·.args.current.place s·.args.current.bytes) buffer₀
  asked = ap (λ (h : List ℕ). Leads (X s·) h buffer₀) t.turn_to-now.ensures.1

add_body : tie.Need-overflow_add-body
add_body c = let s = c in record { fits = omega (arith, (here c.before.before.before.before.before).index_is, near c.before.before.before.before.before) }

sub-lay-fragment : tie.Need-overflow_sub-n
sub-lay-fragment c = let s = c in omega (arith, (long c.before.before.before.before.before).header)

-- ---- what was laid, by the definition's frame

module _ (y : tie.After-lay_fragment) where
  abbrev t· : tie.After-turn_to-now
  t· = y.before.before

  abbrev st : tie.Start
  st = s· t·

  abbrev fr· : List ℕ
  fr· = fr st

  abbrev buffer· : List ℕ
  buffer· = y.lay_fragment.new.buffer

  -- by the numbers that were read
  as_read : (g : ℕ → ℕ → ℕ → Type 0) → g st.args.frame.flags (n st - 32) (st.args.frame.index + 32) → g (flags_at fr·) (body_length fr·) (X st + 32)
  as_read g h =
      subst (λ (i : ℕ). g (flags_at fr·) (body_length fr·) (i + 32)) (here st).index_is
      (subst (λ (m : ℕ). g (flags_at fr·) (m - 32) (st.args.frame.index + 32)) (framed st).1 (subst (λ (f : ℕ). g f (n st - 32) (st.args.frame.index + 32)) (here st).flags-are h))

  laid_as : y.lay_fragment.result ≡ laid_of (count· t·) (K t·) (b t·) (flags_at fr·) (body_length fr·) (length (log st)) (length (buffer₀ t·)) (X st + 32)
  laid_as = as_read (λ (f m i : ℕ). y.lay_fragment.result ≡ laid_of (count· t·) (K t·) (b t·) f m (length (log st)) (length (buffer₀ t·)) i) y.lay_fragment.ensures.0

  bytes-as : buffer· ≡ laid_bytes (count· t·) (K t·) (b t·) (flags_at fr·) (body_length fr·) (log st) (buffer₀ t·) (X st + 32)
  bytes-as = as_read (λ (f m i : ℕ). buffer· ≡ laid_bytes (count· t·) (K t·) (b t·) f m (log st) (buffer₀ t·) i) y.lay_fragment.ensures.1

  -- nothing was: the lent buffer is as it was
  stays : y.lay_fragment.result ≡ None → buffer· ≡ buffer₀ t·
  stays h =
      bytes-stay (count· t·) (K t·) (b t·) (flags_at fr·) (body_length fr·) (log st) (buffer₀ t·) (X st) _ laid_as _ bytes-as
      (laid_none (count· t·) (K t·) (b t·) (flags_at fr·) (body_length fr·) (log st) (buffer₀ t·) (X st) _ laid_as _ bytes-as h)

  module _ (w : Laid) (h : y.lay_fragment.result ≡ Some w) where
    so : is_laid (count· t·) (K t·) (b t·) (flags_at fr·) (body_length fr·) (length (log st)) (length (buffer₀ t·)) (X st + 32) ≡ true
    so = (laid-is (count· t·) (K t·) (b t·) (flags_at fr·) (body_length fr·) (log st) (buffer₀ t·) (X st) _ laid_as _ bytes-as w h).0

    lying : Lying (count· t·) (K t·) (b t·) (flags_at fr·) (body_length fr·) (length (log st)) (length (buffer₀ t·)) (X st + 32)
    lying = laid-true _ _ _ _ _ _ _ _ so

    result-is : (w.held ≡ behind (b t·) (flags_at fr·) + body_length fr·) × (w.ends ≡ ends (flags_at fr·))
    result-is = (laid-is (count· t·) (K t·) (b t·) (flags_at fr·) (body_length fr·) (log st) (buffer₀ t·) (X st) _ laid_as _ bytes-as w h).1

    abbrev Left : ℕ → Sessions
    Left m = After (count· t·) (K t·) (b t·) (ids· t·) (held· t·) (buffer₀ t·) (log st) (X st) (o st) m

    abbrev Filled : List ℕ
    Filled = Spliced (count· t·) (K t·) (b t·) (ids· t·) (held· t·) (buffer₀ t·) (log st) (X st) (o st)

    spliced : buffer· ≡ Filled
    spliced = bytes-are (count· t·) (K t·) (b t·) (flags_at fr·) (body_length fr·) (log st) (buffer₀ t·) (X st) _ laid_as _ bytes-as so

    abbrev J : Assembly
    J = join_of (sessions_as (count· t·) (ids· t·) (set (held· t·) (K t·) (b t·))) (buffer₀ t·) (log st) (X st) (o st)

    small : o st ≤ 4294967295
    small = omega (arith, low st, st.requires.0.0.fits.high)

    goes : ends (flags_at fr·) ≡ false → J ≡ record { answer = Ok Nothing; next = Left (behind (b t·) (flags_at fr·) + body_length fr·); buffer = Filled }
    goes = lay-goes (count· t·) (K t·) (b t·) (ids· t·) (held· t·) (buffer₀ t·) (log st) (X st) (o st) (framed st).0 small (ids-16 st) (place_is t·) (bytes-now t·) lying

    ended : ends (flags_at fr·) ≡ true → J ≡ record { answer = Ok (Message (K t· * (length (buffer₀ t·) / 16)) (behind (b t·) (flags_at fr·) + body_length fr·)); next = Left 0; buffer = Filled }
    ended = lay-ends (count· t·) (K t·) (b t·) (ids· t·) (held· t·) (buffer₀ t·) (log st) (X st) (o st) (framed st).0 small (ids-16 st) (place_is t·) (bytes-now t·) lying

    placed : K t· ≡ place_in (take (min (entered_with (count· t·) (K t·)) 16) (set (ids· t·) (K t·) (session_at fr·))) (session_at fr·)
    placed = lay-place (count· t·) (K t·) (b t·) (ids· t·) (held· t·) (buffer₀ t·) (log st) (X st) (o st) (framed st).0 small (ids-16 st) (place_is t·) (bytes-now t·) lying

-- ---- a frame that is given to the core

give-one-requires : tie.Need-give_one-gathered-requires
give-one-requires c κs =
    let s = c in (
      (s.requires.0.1.0, s.requires.0.0.fits),
      (s.requires.1.0, ((here c.before.before.before.before.before.before.before.before.before.before.before.before.before.before.before).index_is, (((long c.before.before.before.before.before.before.before.before.before.before.before.before.before.before.before).header, (long c.before.before.before.before.before.before.before.before.before.before.before.before.before.before.before).small), s.requires.0.1.1))),
    )

returns : tie.Need-returns-in_default
returns c =
    let g = c in
    let w = c in
    let y = c in
    let t = t· c.before.before.before.before.before.before.before.before.before.before.before.before in
    let s = st c.before.before.before.before.before.before.before.before.before.before.before.before in
    let h = g.give_one-gathered.new.held in
    let held-16 : length h ≡ 16 = search rules in
    let e = c.current_as.ensures in (
      ap (λ (x : Current). gathering_of g.give_one-gathered.result g.give_one-gathered.new.ids (set h x.place x.bytes) g.give_one-gathered.new.buffer) e
          ∙ ap (λ (x : List ℕ). gathering_of g.give_one-gathered.result g.give_one-gathered.new.ids x g.give_one-gathered.new.buffer)
          (set_out h 16 0 (omega (arith, held-16)))
          ∙ g.give_one-gathered.ensures
          ∙ ap₂ (λ (x bs : List ℕ). Leads t s.args.frame.index x bs) w.settle.ensures (stays c.before.before.before.before.before.before.before.before.before.before.before.before c.in_default.is)
          ∙ ap (λ (i : ℕ). Leads t i (set (held· t) (K t) (b t)) (buffer₀ t)) (here s).index_is ∙ asked t,
      subst (Knows g.give_one-gathered.result.count g.give_one-gathered.new.ids) (sym e) (λ q. absurd (omega arith)),
    )

-- ---- a body that was laid

module _ (q : tie.After-entered_with-entered) where
  abbrev y· : tie.After-lay_fragment
  y· = q.before.before.before.before.before.before.before

  abbrev w· : Laid
  w· = q.in-Some.laid

  abbrev h· : y·.lay_fragment.result ≡ Some w·
  h· = q.in-Some.is

  abbrev tq : tie.After-turn_to-now
  tq = t· y·

  abbrev sq : tie.Start
  sq = st y·

  abbrev ids-now : List ℤ
  ids-now = q.enter.new.ids

  ids-are : ids-now ≡ set (ids· tq) (K tq) (session_at (fr sq))
  ids-are = q.enter.ensures ∙ ap (set (ids· tq) (K tq)) (named tq)

  -- the sessions as they are left, with so many bytes held
  left_as : (m k : ℕ) → m ≡ k → sessions_as q.entered_with-entered.result ids-now (set (held· tq) (K tq) m) ≡ Left y· w· h· k
  left_as m k e =
      ap₂ (λ (x : ℕ) (i : List ℤ). sessions_as x i (set (held· tq) (K tq) m)) q.entered_with-entered.ensures ids-are
      ∙ ap (λ (x : ℕ). sessions_as (entered_with (count· tq) (K tq)) (set (ids· tq) (K tq) (session_at (fr sq))) (set (held· tq) (K tq) x)) e

  -- where they lead, by their numbers
  led : (r : Gathered) (c : Current) (m k : ℕ) (x z : Result Replayed Error) → r ≡ gathered_as q.entered_with-entered.result (sq.args.left - 1) (sq.args.p + align (n sq)) x
      → c ≡ current_of (K tq) (to_z w32 (of_z w32 tq.turn_to-now.result.session)) m → m ≡ k → x ≡ z
      → gathering_of r ids-now (set (held· tq) c.place c.bytes) (buffer· y·) ≡ led_to (sq.args.left - 1) (sq.args.p + align (n sq)) (Left y· w· h· k) (Filled y· w· h·) z
  led r c m k x z er ec em ex =
      ap₂ (λ (g : Gathered) (u : Current). gathering_of g ids-now (set (held· tq) u.place u.bytes) (buffer· y·)) er ec
      ∙ ap₂ (λ (u : Sessions) (bs : List ℕ). led_to (sq.args.left - 1) (sq.args.p + align (n sq)) u bs x) (left_as m k em) (spliced y· w· h·)
      ∙ ap (led_to (sq.args.left - 1) (sq.args.p + align (n sq)) (Left y· w· h· k) (Filled y· w· h·)) ex

  -- the session at hand is the frame's
  knows : (r : Gathered) (c : Current) (m : ℕ) (x : Result Replayed Error) → r ≡ gathered_as q.entered_with-entered.result (sq.args.left - 1) (sq.args.p + align (n sq)) x
      → c ≡ current_of (K tq) (to_z w32 (of_z w32 tq.turn_to-now.result.session)) m → Knows r.count ids-now c
  knows r c m x er ec =
      subst (λ (u : Gathered). Knows u.count ids-now c) (sym er)
      (subst (Knows q.entered_with-entered.result ids-now) (sym ec)
      (λ _. placed y· w· h· ∙ ap₂ (λ (u : ℕ) (i : List ℤ). place_in (take (min u 16) i) (session_at (fr sq))) (sym q.entered_with-entered.ensures) (sym ids-are) ∙ ap (place_in (take (min q.entered_with-entered.result 16) ids-now)) (sym (named tq))))

add-end : tie.Need-overflow_add-end
add-end c = omega (arith, (sq c).requires.0.1.1, (long (sq c)).small)

mul-end : tie.Need-overflow_mul-end
mul-end c = omega (arith, (sq c).requires.0.1.1, (long (sq c)).small)

add-end-2 : tie.Need-overflow_add-end-2
add-end-2 c = omega (arith, (sq c).requires.0.1.1, (long (sq c)).small)

mul-from : tie.Need-overflow_mul-from
mul-from c =
    let q = c in
    record { fits = omega (arith, part-16 (K (tq c.before)) (length (buffer· (y· c.before))) (lying (y· c.before) (w· c.before) (h· c.before)).in-16, c.buffer-1.given, (sq c.before).well_formed) }

returns-2 : tie.Need-returns-then-laid
returns-2 c =
    let q = c in
    let y = y· c.before.before.before in
    let r = result-is y (w· c.before.before.before) (h· c.before.before.before) in
    let j = ended y (w· c.before.before.before) (h· c.before.before.before) (sym r.1 ∙ c.if-laid.true) in
    let m : length (buffer· y) ≡ length (buffer₀ (tq c.before.before.before)) = c.buffer-1.given in (
      led c.before.before.before _ _ 0 0 _ (Ok (InBuffer (K (tq c.before.before.before) * (length (buffer₀ (tq c.before.before.before)) / 16)) (behind (b (tq c.before.before.before)) (flags_at (fr· y)) + body_length (fr· y)))) c.gathered_as.ensures c.current_as-then-laid.ensures refl
          (ap₂ (λ (i k : ℕ). Ok (InBuffer (K (tq c.before.before.before) * (i / 16)) k)) m r.0)
          ∙ sym (ap (led_by (sq c.before.before.before).args.left (sq c.before.before.before).args.p (n (sq c.before.before.before)) (X (sq c.before.before.before)) (sessions_as (count· (tq c.before.before.before)) (ids· (tq c.before.before.before)) (set (held· (tq c.before.before.before)) (K (tq c.before.before.before)) (b (tq c.before.before.before))))) j) ∙ asked (tq c.before.before.before),
      knows c.before.before.before _ _ _ _ c.gathered_as.ensures c.current_as-then-laid.ensures,
    )

returns-3 : tie.Need-returns
returns-3 c =
    let q = c in
    let y = y· c.before.before.before in
    let r = result-is y (w· c.before.before.before) (h· c.before.before.before) in
    let j = goes y (w· c.before.before.before) (h· c.before.before.before) (sym r.1 ∙ c.if-laid.false) in (
      led c.before.before.before _ _ _ _ _ (Ok End) c.gathered_as-2.ensures c.current_as-2.ensures r.0 refl
          ∙ sym (ap (led_by (sq c.before.before.before).args.left (sq c.before.before.before).args.p (n (sq c.before.before.before)) (X (sq c.before.before.before)) (sessions_as (count· (tq c.before.before.before)) (ids· (tq c.before.before.before)) (set (held· (tq c.before.before.before)) (K (tq c.before.before.before)) (b (tq c.before.before.before))))) j) ∙ asked (tq c.before.before.before),
      knows c.before.before.before _ _ _ _ c.gathered_as-2.ensures c.current_as-2.ensures,
    )

pub take_spec : {M : Type 1} → statement M
take_spec =
    tie.close
    (tie.spec
    turn-to-requires
    add_body
    sub-lay-fragment
    (search rules)
    (search rules)
    (search rules)
    (search rules)
    give-one-requires
    (search rules)
    (λ c. omega (arith, c.buffer-in_default-1.given, c.buffer-1.given))
    returns
    (search rules)
    (search rules)
    add-end
    mul-end
    add-end-2
    mul-from
    (search rules)
    (λ c. omega (arith, c.requires.1.0))
    (search rules)
    (λ c. omega (arith, c.buffer-1.given))
    returns-2
    (search rules)
    (λ c. omega (arith, c.requires.1.0))
    (search rules)
    (λ c. omega (arith, c.buffer-1.given))
    returns-3)
