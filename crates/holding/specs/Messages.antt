-- The frames that a walk passed, cut into messages: an unfragmented body, or the joined bodies of frames that follow one another from a begin frame
-- to the next end frame with no padding, unfragmented or other begin frame between. Sessions are not looked at. Read Holding next.
use Rattle.std.specs.Prelude.{ℕ, ◌+◌, ◌-◌, Bool, true, false, cond, List, [], ◌∷◌, ◌++◌, take, drop}
use Rattle.model.specs.declared.Frame.{Frame}
use Rattle.model.specs.declared.Frame.TheVariants.{Absent, Unsound, Padding, Data}
use Rattle.model.specs.FrameDescriptor.{flags_at, begins, ends}
use Rattle.tally.specs.Walk.{Stream, bytes_at, size, Passed}

-- a message's bytes, and the position where its last frame ends
pub record Message : Type 0 where
  pub body : List ℕ
  pub end : ℕ

-- the bodies joined since a begin frame, or no begin frame to go on from
pub data Run : Type 0 where
  idle : Run
  running : List ℕ → Run

-- A begin frame starts a run and drops the one before it; another frame goes on with the run, if there is one.
abbrev pub joined : Bool → List ℕ → Run → Run
joined true body r = running body
joined false body idle = idle
joined false body (running b) = running (b ++ body)

-- a run with one more frame, whose bytes are given; padding, an aborted claim too, breaks it
abbrev pub grown : List ℕ → Frame → Run → Run
grown bytes Absent r = idle
grown bytes (Unsound n) r = idle
grown bytes (Padding n) r = idle
grown bytes (Data n) r = joined (begins (flags_at bytes)) (take (n - 32) (drop 32 bytes)) r

-- the message of a run that an end frame has closed, and those after it
abbrev pub told : ℕ → Run → List Message → List Message
told end idle rest = rest
told end (running b) rest = record { body = b; end = end } ∷ rest

-- An unfragmented frame has both flags: it starts a run and closes it.
unfoldable pub messages : Stream → Run → List Passed → List Message
messages s r [] = []
messages s r (f ∷ fs) =
    let bytes = bytes_at s f.at in
    let g = grown bytes f.frame r in
    cond (ends (flags_at bytes)) (told (f.at + size f.frame) g (messages s idle fs)) (messages s g fs)
