-- The assembler's bookkeeping as the definitions have it, and its core over lent arrays: what a frame at an index of the log leads to.
use Rattle.std.specs.Prelude.{◌≡◌, ℕ, ◌+◌, ◌≤◌, min, Bool, true, cond, ◌&&◌, List, length, drop, ℤ, ◌==◌, nat_le, nat_lt, Result, Err}
use Rattle.model.specs.declared.Error.{Error}
use Rattle.model.specs.Bytes.{u32}
use Rattle.model.specs.FrameDescriptor.{is_finished, length_at}
use Rattle.model.specs.FragmentAssembler.{Sessions, Assembly, holding, joined_at}
use Rattle.model.specs.declared.Assembled.{Assembled}
use Rattle.model.specs.declared.Error.TheVariants.{IllegalArgument}
use Rattle.logbuffer.specs.declared.fragment_assembler.FragmentAssembler.{FragmentAssembler}
use Rattle.logbuffer.specs.declared.fragment_assembler.Joined.{Joined}

abbrev pub sessions_as : ℕ → List ℤ → List ℕ → Sessions
sessions_as count ids held = record { count = count; ids = ids; held = held }

abbrev pub sessions_of : FragmentAssembler → Sessions
sessions_of a = sessions_as a.count a.ids a.held

-- how many are entered once a place is; a place past the 16 enters none
abbrev pub entered_with : ℕ → ℕ → ℕ
entered_with count k = cond (nat_lt k (min count 16)) (min count 16) (cond (nat_lt k 16) (k + 1) (min count 16))

-- with so many bytes held by the session at a place; as it was where the place is none of the 16
abbrev pub held_at : Sessions → ℕ → ℤ → ℕ → Sessions
held_at s k session n = cond (nat_lt k 16) (holding s k session n) s

abbrev pub leaving : ℕ → ℤ → ℕ → Result Assembled Error → Joined
leaving k session n answer = record { place = k; session = session; held = n; answer = answer }

-- a whole frame at an index of a log: it is finished, has a header, and lies in the log
pub record Framed (log : List ℕ) (at : ℕ) : Type 0 where
  pub finished : is_finished (length_at (drop at log)) ≡ true
  pub header : 32 ≤ u32 (drop at log)
  pub whole : at + u32 (drop at log) ≤ length log

abbrev pub is_framed : List ℕ → ℕ → Bool
is_framed log at =
    is_finished (length_at (drop at log)) && (nat_le 32 (u32 (drop at log)) && nat_le (at + u32 (drop at log)) (length log))

-- what the core says: the answer, and the bookkeeping once its session is entered
pub record Enters (s : Sessions) (j : Joined) (a : Assembly) : Type 0 where
  pub answers : j.answer ≡ a.answer
  pub leaves : held_at s j.place j.session j.held ≡ a.next

-- the frame at an index, whose offset in its term is given, and 16 sessions: joined where it lies whole, else refused 1
unfoldable pub join_of : Sessions → List ℕ → List ℕ → ℕ → ℕ → Assembly
join_of s buffer log i at =
    cond (is_framed log i && (nat_le at 4294967295 && length s.ids == 16)) (joined_at s buffer (drop i log) at)
    (record { answer = Err IllegalArgument; next = s; buffer = buffer })
