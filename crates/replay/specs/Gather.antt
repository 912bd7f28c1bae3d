-- Data frames given to the assembler as they lie, one after another, until one gives a reply. `gather-next` (proofs/Gather.antt) says that a replay
-- goes on behind them as from the first of them.
use Rattle.std.specs.Prelude.{ℕ, zero, suc, ◌+◌, ◌-◌, ◌%◌, ◌<◌, min, ◌≡◌, Bool, true, false, cond, List, eqb, ℤ, take, drop, set, Option, Some, None, Result, Ok, Err}
use Rattle.model.specs.declared.Error.{Error}
use Rattle.model.specs.declared.Replayed.{Replayed}
use Rattle.model.specs.declared.Replayed.TheVariants.{InLog, InBuffer, End}
use Rattle.model.specs.declared.Frame.TheVariants.{Data}
use Rattle.model.specs.FrameDescriptor.{align, frame_at, flags_at}
use Rattle.model.specs.FragmentAssembler.{Sessions, Assembly, place_in, session_at}
use Rattle.model.specs.Replay.{NextReply}
use Rattle.image.specs.Images.{state_of as image_state}
use Rattle.logbuffer.specs.Assembler.{sessions_as, join_of}
use Rattle.replay.specs.declared.LentReply.{LentReply}
use Rattle.replay.specs.declared.frames.Gathered.{Gathered}
use Rattle.replay.specs.declared.gathering.DataFrame.{DataFrame}
use Rattle.replay.specs.declared.gathering.Current.{Current}
use Rattle.replay.specs.InPlace.{index_at, data_at, replied_by, is_refused}
use Rattle.replay.specs.Replays.{elsewhere_on}

-- where they lead: the turns left, the position, what the assembler holds, and the reply; End where nothing came of them
pub record Gathering : Type 0 where
  pub left : ℕ
  pub position : ℕ
  pub sessions : Sessions
  pub buffer : List ℕ
  pub answer : Result Replayed Error

-- a data frame as the code finds it: none where its length is 0
abbrev pub frame_with : List ℕ → ℕ → ℕ → Option DataFrame
frame_with frame index zero = None
frame_with frame index (suc n) = Some (record { index = index; length = suc n; flags = flags_at frame; session = session_at frame })

-- the one at a position below a stop
abbrev pub frame_found : List ℕ → ℕ → ℕ → ℕ → Option DataFrame
frame_found log term stop p = frame_with (drop (index_at term p) log) (index_at term p) (data_at log term stop p)

-- the one at a position, by its numbers
pub record FrameHere (log : List ℕ) (term p : ℕ) (f : DataFrame) : Type 0 where
  pub frame : frame_at (drop (index_at term p) log) (term - p % term) ≡ Data f.length
  pub index_is : f.index ≡ index_at term p
  pub flags-are : f.flags ≡ flags_at (drop (index_at term p) log)
  pub session-is : f.session ≡ session_at (drop (index_at term p) log)

-- the session at hand: its place is known, unless it is none of the 16; and the sessions, with the bytes that it holds
abbrev pub current_of : ℕ → ℤ → ℕ → Current
current_of place session bytes = record { place = place; session = session; bytes = bytes }

abbrev pub Knows : ℕ → List ℤ → Current → Type 0
Knows count ids c = c.place < 16 → c.place ≡ place_in (take (min count 16) ids) c.session

abbrev pub at_hand : ℕ → List ℤ → List ℕ → Current → Sessions
at_hand count ids held c = sessions_as count ids (set held c.place c.bytes)

-- the code's own, by its numbers, and with what is lent
abbrev pub gathered_as : ℕ → ℕ → ℕ → Result Replayed Error → Gathered
gathered_as count left position answer = record { count = count; left = left; position = position; answer = answer }

abbrev pub gathering_of : Gathered → List ℤ → List ℕ → List ℕ → Gathering
gathering_of g ids held buffer = record { left = g.left; position = g.position; sessions = sessions_as g.count ids held; buffer = buffer; answer = g.answer }

-- the data frame at a position, joined
abbrev pub joined_here : List ℕ → ℕ → ℕ → Sessions → List ℕ → Assembly
joined_here log term p s buffer = join_of s buffer log (index_at term p) (p % term)

-- where a data frame of n bytes leads by itself, once it is joined: one that is refused is not passed
abbrev pub led_by : ℕ → ℕ → ℕ → ℕ → Sessions → Assembly → Gathering
led_by left p n index s a =
    cond (is_refused a.answer) (record { left = left; position = p; sessions = s; buffer = a.buffer; answer = replied_by index n a.answer })
    (record { left = left - 1; position = p + align n; sessions = a.next; buffer = a.buffer; answer = replied_by index n a.answer })

-- With so many turns left, from a position. A frame that is no data frame is not looked at, a refused one is not passed, and behind one that gives
-- nothing it goes on.
unfoldable pub gather_from : ℕ → List ℕ → ℕ → ℕ → ℕ → Sessions → List ℕ → Gathering
gather_from zero log term stop p s buffer = record { left = zero; position = p; sessions = s; buffer = buffer; answer = Ok End }
gather_from (suc left) log term stop p s buffer =
    cond (eqb (data_at log term stop p) 0) (record { left = suc left; position = p; sessions = s; buffer = buffer; answer = Ok End })
    (cond (is_refused (joined_here log term p s buffer).answer)
    (record { left = suc left; position = p; sessions = s; buffer = (joined_here log term p s buffer).buffer; answer = replied_by (index_at term p) (data_at log term stop p) (joined_here log term p s buffer).answer })
    (cond (elsewhere_on (joined_here log term p s buffer).answer)
    (gather_from left log term stop (p + align (data_at log term stop p)) (joined_here log term p s buffer).next (joined_here log term p s buffer).buffer)
    (record { left = left; position = p + align (data_at log term stop p); sessions = (joined_here log term p s buffer).next; buffer = (joined_here log term p s buffer).buffer; answer = replied_by (index_at term p) (data_at log term stop p) (joined_here log term p s buffer).answer })))

abbrev pub is_end : Result Replayed Error → Bool
is_end (Ok (InLog from n)) = false
is_end (Ok (InBuffer at n)) = false
is_end (Ok End) = true
is_end (Err e) = false

-- a reply whose sessions are lent
abbrev pub lent_reply_of : LentReply → List ℤ → List ℕ → List ℕ → NextReply
lent_reply_of r ids held buffer = record { answer = r.answer; next = record { image = image_state r.image; sessions = sessions_as r.count ids held; buffer = buffer } }
