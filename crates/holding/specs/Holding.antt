-- Of the messages between two positions, those that are cards of one find, and for each field the last of them that has it.
-- In order: 1, 2, 3, 22 or 23 as the tally refuses, then 24. Read Theorems next.
use Rattle.std.specs.Prelude.{ℕ, ◌+◌, ◌*◌, ◌/◌, ◌%◌, ◌^◌, Bool, true, false, cond, List, [], ◌∷◌, ◌++◌, eqb, ℤ, pos, length, take, replicate, Result, Ok, Err, ⊤}
use Rattle.model.specs.declared.Error.{Error}
use Rattle.model.specs.declared.LogRecord.{LogRecord}
use Rattle.model.specs.Answers.{Told, answered, refused}
use Rattle.model.specs.Bytes.{long}
use Rattle.card.specs.declared.Card.{Card}
use Rattle.card.specs.Card.{Decoded, card, broken, decode}
use Rattle.tally.specs.declared.step.Stop.{Stop}
use Rattle.tally.specs.Walk.{Stream, stream_of, between, end_of, why}
use Rattle.tally.specs.Tally.{tally_verdict, stop_number, writing_size}
use Rattle.holding.specs.declared.laying.Ends.{Ends}
use Rattle.holding.specs.declared.laying.Held.{Held}
use Rattle.holding.specs.declared.Answer.{Answer}
use Rattle.holding.specs.declared.Answer.TheVariants.{Holds, NoCard}
use Rattle.holding.specs.declared.Holding.{Holding}
use Rattle.holding.specs.Messages.{Message, idle, messages}

-- ---- the cards of one find

-- a message that is a card: the card, its note, and where the message ends
pub record Found : Type 0 where
  pub card : Card
  pub note : List ℕ
  pub end : ℕ

abbrev pub of_find : ℕ → ℕ → Decoded → List Found
of_find find end broken = []
of_find find end (card c note) = cond (eqb c.find find) (record { card = c; note = note; end = end } ∷ []) []

unfoldable pub cards : ℕ → List Message → List Found
cards find [] = []
cards find (m ∷ ms) = of_find find m.end (decode m.body) ++ cards find ms

-- those between two positions
abbrev pub cards_in : Stream → ℕ → ℕ → ℕ → List Found
cards_in s find from to = cards find (messages s idle (between s from to))

-- ---- for each field, the last that has it

-- the bit of field k: 0 find number, 1 trench, 2 context, 3 material, 4 weight, 5 note
abbrev pub bit : ℕ → Found → ℕ
bit k f = f.card.bits / 2 ^ k % 2

-- no card: every field is 0, and so is its end
abbrev pub none : Found
none = record { card = record { bits = 0; find = 0; trench = 0; context = 0; material = 0; weight = 0 }; note = []; end = 0 }

-- the last with field k, or `other` if there is none
unfoldable pub latest : ℕ → Found → List Found → Found
latest k other [] = other
latest k other (f ∷ fs) = latest k (cond (eqb (bit k f) 1) f other) fs

abbrev pub holder : List Found → ℕ → Found
holder fs k = latest k none fs

-- ---- the card that holds

abbrev pub some : List Found → Bool
some [] = false
some (f ∷ fs) = true

-- each field from its holder, by the bits of those that have one
abbrev pub card_held : (ℕ → Found) → Card
card_held h = record {
  bits = bit 0 (h 0) + 2 * bit 1 (h 1) + 4 * bit 2 (h 2) + 8 * bit 3 (h 3) + 16 * bit 4 (h 4) + 32 * bit 5 (h 5);
  find = (h 0).card.find;
  trench = (h 1).card.trench;
  context = (h 2).card.context;
  material = (h 3).card.material;
  weight = (h 4).card.weight;
}

abbrev pub ends_held : (ℕ → Found) → Ends
ends_held h = record { find = (h 0).end; trench = (h 1).end; context = (h 2).end; material = (h 3).end; weight = (h 4).end; note = (h 5).end }

abbrev pub held_by : Bool → (ℕ → Found) → Held
held_by found h = record { found = found; card = card_held h; ends = ends_held h; note_length = length (h 5).note }

unfoldable pub held_of : List Found → Held
held_of fs = held_by (some fs) (holder fs)

-- the note's bytes, and 0 behind them up to 255
unfoldable pub padded : List ℕ → List ℕ
padded note = take 255 (note ++ replicate 255 0)

abbrev pub note_held : List Found → List ℕ
note_held fs = padded (holder fs 5).note

-- ---- the call: record, log, find number, two positions

abbrev pub holding_with : Result Answer Error → Held → List ℕ → Holding
holding_with a h note = record { answer = a; card = h.card; ends = h.ends; note_length = h.note_length; note = note }

-- 24, with where the walk ended, if there is no card of the find
abbrev pub answer_of : Bool → ℕ → Stop → Result Answer Error
answer_of found end stop = cond found (Ok (Holds (pos end) stop)) (Ok (NoCard (pos end) stop))

abbrev pub holding_by : Stream → ℕ → ℕ → ℕ → Result ⊤ Error → Holding
holding_by s find from to (Ok _) =
    let end = end_of from (between s from to) in
    let fs = cards_in s find from to in
    holding_with (answer_of (some fs) end (why s to end)) (held_of fs) (note_held fs)
holding_by s find from to (Err e) = holding_with (Err e) (held_of []) (padded [])

unfoldable pub holding_of : LogRecord → List ℕ → ℕ → ℤ → ℤ → Holding
holding_of r log find from to = holding_by (stream_of r log) find (long from) (long to) (tally_verdict r log from to)

-- ---- the numbers of an answer: the position where the walk ended, why by number, and the size of a frame being written; 24 has them too

abbrev pub end_told : ℤ → Stop → List ℤ
end_told end stop = end ∷ pos (stop_number stop) ∷ pos (writing_size stop) ∷ []

abbrev pub answer_told : Result Answer Error → Told
answer_told (Ok (Holds end stop)) = answered (end_told end stop)
answer_told (Ok (NoCard end stop)) = record { number = pos 24; values = end_told end stop; place = 0 }
answer_told (Err e) = refused e
