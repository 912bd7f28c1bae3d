-- The ladder of a call on an image: what it says where it passes, and that what follows it decides then.
use Rattle.std.specs.Prelude.{Result, Ok, Err}
use Rattle.model.specs.declared.Error.{Error}
use mathlib.Core.Path.{◌≡◌, refl, sym, ap, ◌∙◌}
use mathlib.Core.Bool.{Bool, true, false, cond, not}
use mathlib.Core.List.{List}
use Prim.Native.Nat.{ℕ, ◌+◌, ◌-◌, ◌%◌, ◌≤◌, ◌<◌}
use native.Mathlib.Omega.{arith}
use borrow.Author.Tests.{leb-true, eqb-true, le-leb, lt-leb, le-ltb, lt-ltb, eq-eqb, ne_eqb}
use lib.Dec.{leb}
use lib.ListN.{length}
use Rattle.model.specs.declared.Reading.{Reading}
use Rattle.model.specs.declared.Error.TheVariants.{IllegalArgument, IllegalRecord, PositionOutOfRange, NewPositionOutOfRange, NewPositionNotAligned}
use Rattle.model.specs.declared.ReadVerdict.{ReadVerdict}
use Rattle.model.specs.declared.ReadVerdict.TheVariants.{Read, Closed}
use Rattle.model.specs.Bytes.{long}
use Rattle.model.specs.LogBufferDescriptor.{sound, greatest, good_position}
use Rattle.model.specs.Image.{Image as State, refuse_if, readable, reachable, unsound_at, unsound_frame_of, poll_verdict}
use Rattle.model.proofs.Both.{and-true}

-- a verdict, and where it lets the call go on, what follows it
abbrev pub after : Result ReadVerdict Error → Result ReadVerdict Error → Result ReadVerdict Error
after (Ok Read) rest = rest
after (Ok Closed) rest = Ok Closed
after (Err e) rest = Err e

-- an answer whose own answer is known
pub answered : {R z : Result ReadVerdict Error} {f y : ReadVerdict} → R ≡ Ok f → f ≡ y → R ≡ z → Ok y ≡ z
answered h e g = cc

-- the four tests
abbrev steps : Bool → Bool → Bool → Bool → Result ReadVerdict Error → Result ReadVerdict Error
steps a b c d rest = refuse_if (not a) IllegalArgument (refuse_if (not b) IllegalRecord (cond c (Ok Closed) (refuse_if (not d) PositionOutOfRange rest)))

steps-after : (a b c d : Bool) (rest : Result ReadVerdict Error) → after (steps a b c d (Ok Read)) rest ≡ steps a b c d rest
steps-after false b c d rest = refl
steps-after true false c d rest = refl
steps-after true true true d rest = refl
steps-after true true false false rest = refl
steps-after true true false true rest = refl

steps-read : (a b c d : Bool) → steps a b c d (Ok Read) ≡ (Ok Read) → (a ≡ true) × ((b ≡ true) × ((c ≡ false) × (d ≡ true)))
steps-read false b c d h = absurd (let z : ◌≡◌ {A = ℕ} 0 1 = cc in omega arith)
steps-read true false c d h = absurd (let z : ◌≡◌ {A = ℕ} 0 1 = cc in omega arith)
steps-read true true true d h = absurd (let z : ◌≡◌ {A = ℕ} 0 1 = cc in omega arith)
steps-read true true false false h = absurd (let z : ◌≡◌ {A = ℕ} 0 1 = cc in omega arith)
steps-read true true false true h = (refl, (refl, (refl, refl)))

-- what the ladder says where it passes
pub record Readable (g : Bool) (v : Reading) (n p : ℕ) : Type 0 where
  pub good : g ≡ true
  pub sound : sound v n ≡ true
  pub high : p ≤ greatest v
  pub p-32 : p % 32 ≡ 0

module _ (good : Bool) (v : Reading) (n : ℕ) (i : State) where
  pub readable-after : (x rest : Result ReadVerdict Error) → x ≡ readable good v n i (Ok Read) → after x rest ≡ readable good v n i rest
  unfolding readable
  readable-after x rest h =
      ap (λ (y : Result ReadVerdict Error). after y rest) h ∙ steps-after good (sound v n) i.closed (good_position v (long i.position)) rest

  pub readable-read : (Ok Read) ≡ readable good v n i (Ok Read) → Readable good v n (long i.position)
  unfolding readable
  readable-read h =
      let k = steps-read good (sound v n) i.closed (good_position v (long i.position)) (sym h) in
      let q = and-true (leb (long i.position) (greatest v)) _ k.1.1.1 in
      record { good = k.0; sound = k.1.0; high = leb-true _ _ q.0; p-32 = eqb-true _ _ q.1 }

  pub not_good : good ≡ false → (rest : Result ReadVerdict Error) → Err IllegalArgument ≡ readable good v n i rest
  unfolding readable
  not_good h rest = simp h

  pub not_sound : good ≡ true → sound v n ≡ false → (rest : Result ReadVerdict Error) → Err IllegalRecord ≡ readable good v n i rest
  unfolding readable
  not_sound h s rest = simp (h, s)

  pub is-closed : good ≡ true → sound v n ≡ true → i.closed ≡ true → (rest : Result ReadVerdict Error) → Ok Closed ≡ readable good v n i rest
  unfolding readable
  is-closed h s c rest = simp (h, s, c)

  pub by-position : good ≡ true → sound v n ≡ true → i.closed ≡ false → (rest : Result ReadVerdict Error)
      → refuse_if (not (good_position v (long i.position))) PositionOutOfRange rest ≡ readable good v n i rest
  unfolding readable
  by-position h s c rest = simp (h, s, c)

  pub position-by : (b : Bool) → good_position v (long i.position) ≡ b → good ≡ true → sound v n ≡ true → i.closed ≡ false → (rest : Result ReadVerdict Error)
      → refuse_if (not b) PositionOutOfRange rest ≡ readable good v n i rest
  position-by b e h s c rest = ap (λ (t : Bool). refuse_if (not t) PositionOutOfRange rest) (sym e) ∙ by-position h s c rest

-- row 3, by its two tests
module _ (v : Reading) (p q : ℕ) (e : p ≡ q) where
  pub too-high : greatest v < p → good_position v q ≡ false
  too-high h = let k : greatest v < q = omega arith in rw (lt-leb q (greatest v) k)

  pub not_aligned : p ≤ greatest v → (p % 32 ≡ 0 → ⊥) → good_position v q ≡ false
  not_aligned h a =
      let k : q ≤ greatest v = omega arith in
      rw (le-leb q (greatest v) k, ne_eqb (q % 32) 0 (λ (z : q % 32 ≡ 0). a (ap (λ (x : ℕ). x % 32) e ∙ z)))

  pub in-range : p ≤ greatest v → p % 32 ≡ 0 → good_position v q ≡ true
  in-range h a =
      let k : q ≤ greatest v = omega arith in
      rw (le-leb q (greatest v) k, eq-eqb (q % 32) 0 (ap (λ (x : ℕ). x % 32) (sym e) ∙ a))

-- ---- a poll

module _ (v : Reading) (log : List ℕ) (i : State) (good : Bool) (end limit : ℕ) where
  pub poll-after : (x : Result ReadVerdict Error) → x ≡ readable good v (length log) i (Ok Read)
      → after x (refuse_if (unsound_at v log (long i.position) end limit) (unsound_frame_of v log (long i.position)) (Ok Read)) ≡ poll_verdict v log i good end limit
  unfolding poll_verdict
  poll-after x h = readable-after good v (length log) i x _ h

  pub poll-by : (b : Bool) → unsound_at v log (long i.position) end limit ≡ b → Ok Read ≡ readable good v (length log) i (Ok Read)
      → refuse_if b (unsound_frame_of v log (long i.position)) (Ok Read) ≡ poll_verdict v log i good end limit
  poll-by b e h = ap (λ (t : Bool). refuse_if t (unsound_frame_of v log (long i.position)) (Ok Read)) (sym e) ∙ poll-after (Ok Read) h

-- ---- rows 15 and 16

module _ (v : Reading) (current new : ℕ) (rest : Result ReadVerdict Error) where
  pub before-current : new < current → Err NewPositionOutOfRange ≡ reachable v current new rest
  unfolding reachable
  before-current h = rw (lt-ltb new current h)

  pub past-term : current ≤ new → current - current % v.term + v.term < new → Err NewPositionOutOfRange ≡ reachable v current new rest
  unfolding reachable
  past-term h k = rw (le-ltb new current h, lt-ltb (current - current % v.term + v.term) new k)

  pub no-boundary : current ≤ new → new ≤ current - current % v.term + v.term → (new % 32 ≡ 0 → ⊥) → Err NewPositionNotAligned ≡ reachable v current new rest
  unfolding reachable
  no-boundary h k a = rw (le-ltb new current h, le-ltb (current - current % v.term + v.term) new k, ne_eqb (new % 32) 0 a)

  pub reaches : current ≤ new → new ≤ current - current % v.term + v.term → new % 32 ≡ 0 → rest ≡ reachable v current new rest
  unfolding reachable
  reaches h k a = rw (le-ltb new current h, le-ltb (current - current % v.term + v.term) new k, eq-eqb (new % 32) 0 a)
