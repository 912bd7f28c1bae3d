-- What is proved of the definitions, as statements, for every log, sound or not, and any two positions. proofs/ has a proof of each, under the name that
-- is said with it.
use Rattle.std.specs.Prelude.{◌≡◌, ◌⊎◌, ◌↔◌, Bool, true, false, List, [], ◌∷◌, ◌++◌, ℕ, ◌+◌, ◌-◌, ◌<◌, take, drop}
use Rattle.model.specs.declared.Frame.TheVariants.{Data}
use Rattle.model.specs.FrameDescriptor.{flags_at, begins, ends}
use Rattle.tally.specs.Walk.{Stream, bytes_at, size, Passed, between}
use Rattle.holding.specs.Messages.{Message, idle, messages}
use Rattle.holding.specs.Holding.{Found, bit, none, holder}

-- ---- which card holds

-- none of these cards has field k
pub data Without (k : ℕ) : List Found → Type 0 where
  all : Without k []
  more : {f : Found} {fs : List Found} → (bit k f ≡ 1 → ⊥) → Without k fs → Without k (f ∷ fs)

-- the card f holds field k: it has the field, and none after it has
pub record Holds (k : ℕ) (fs : List Found) (f : Found) : Type 0 where
  pub before : List Found
  pub after : List Found
  pub split : fs ≡ before ++ (f ∷ after)
  pub has : bit k f ≡ 1
  pub later : Without k after

-- A field's holder is the last card that has the field; where none has it, it is no card, and the field is 0 with its end (Latest, `held-by-last`).
abbrev pub HeldByLast : Type 0
HeldByLast = (k : ℕ) (fs : List Found) → Holds k fs (holder fs k) ⊎ (Without k fs × (holder fs k ≡ none))

-- ---- what a message is

-- a data frame of the walk, by its flags, with its body
pub record Piece (s : Stream) (begin end : Bool) (f : Passed) (body : List ℕ) : Type 0 where
  pub length : ℕ
  pub data-frame : f.frame ≡ Data length
  pub first : begins (flags_at (bytes_at s f.at)) ≡ begin
  pub last : ends (flags_at (bytes_at s f.at)) ≡ end
  pub bytes : take (length - 32) (drop 32 (bytes_at s f.at)) ≡ body

-- walked frames that follow one another from a begin frame on, none of them another begin frame or an end frame, and their bodies joined
pub data Opened (s : Stream) : List Passed → List ℕ → Type 0 where
  begun : {f : Passed} {b : List ℕ} → Piece s true false f b → Opened s (f ∷ []) b
  went_on : {fs : List Passed} {f : Passed} {b c : List ℕ} → Opened s fs b → Piece s false false f c → Opened s (fs ++ (f ∷ [])) (b ++ c)

-- the frames of a message: an unfragmented one, or such a run with the next end frame
pub data Frames (s : Stream) : List Passed → Message → Type 0 where
  unfragmented : {f : Passed} {b : List ℕ} → Piece s true true f b → Frames s (f ∷ []) (record { body = b; end = f.at + size f.frame })
  run_of : {fs : List Passed} {f : Passed} {b c : List ℕ} → Opened s fs b → Piece s false true f c
      → Frames s (fs ++ (f ∷ [])) (record { body = b ++ c; end = f.at + size f.frame })

pub data Among (m : Message) : List Message → Type 0 where
  here : {n : Message} {ms : List Message} → m ≡ n → Among m (n ∷ ms)
  there : {n : Message} {ms : List Message} → Among m ms → Among m (n ∷ ms)

-- frames of m that follow one another among these
pub record Lies (s : Stream) (fs : List Passed) (m : Message) : Type 0 where
  pub before : List Passed
  pub run : List Passed
  pub after : List Passed
  pub split : fs ≡ before ++ (run ++ after)
  pub frames : Frames s run m

-- The messages are just those whose frames lie one behind the other among the walked ones (Cutting, `just-those`).
abbrev pub JustThose : Type 0
JustThose = (s : Stream) (fs : List Passed) (m : Message) → Among m (messages s idle fs) ↔ Lies s fs m

-- each ends behind the one before it
pub data Rising : ℕ → List Message → Type 0 where
  none_left : {p : ℕ} → Rising p []
  behind-it : {p : ℕ} {m : Message} {ms : List Message} → p < m.end → Rising m.end ms → Rising p (m ∷ ms)

-- They come by position, so that the last of them is the latest (Cutting, `by-position`).
abbrev pub ByPosition : Type 0
ByPosition = (s : Stream) (from to : ℕ) → Rising from (messages s idle (between s from to))
