-- What the functions inside this crate answer each other.
use Rattle.std.specs.Prelude.{ℕ, ◌+◌, ◌*◌, ◌/◌, ◌%◌, true, cond, List, eqb, leb, length, take, Option, None, Some}
use Rattle.card.specs.declared.Card.{Card}
use Rattle.card.specs.Card.{Decoded, card, broken, decode}
use Rattle.tally.specs.Walk.{Stream, between, end_of}
use Rattle.holding.specs.declared.laying.Held.{Held}
use Rattle.holding.specs.declared.walk.Walked.{Walked}
use Rattle.holding.specs.Messages.{Run, idle, running}
use Rattle.holding.specs.Holding.{padded, cards_in, held_of, note_held}

-- ---- a run in a buffer of 270 bytes, the length of the longest card: so many bytes since a begin frame, or none to go on from

abbrev pub run_in : Option ℕ → List ℕ → Run
run_in None buffer = idle
run_in (Some n) buffer = running (take n buffer)

abbrev pub kept : Option ℕ → ℕ
kept None = 0
kept (Some n) = n

-- one that is longer is dropped, since it is no card
abbrev pub capped : Run → Run
capped idle = idle
capped (running b) = cond (leb (length b) 270) (running b) idle

-- ---- a card laid over what is held so far

-- of a field whose bit is given: the new one if the bit is on
abbrev pub newer : {A : Type 0} → ℕ → A → A → A
newer b new old = cond (eqb b 1) new old

unfoldable pub bits_with : ℕ → ℕ → ℕ
bits_with old new =
    newer (new % 2) 1 (old % 2) + 2 * newer (new / 2 % 2) 1 (old / 2 % 2) + 4 * newer (new / 4 % 2) 1 (old / 4 % 2)
    + 8 * newer (new / 8 % 2) 1 (old / 8 % 2) + 16 * newer (new / 16 % 2) 1 (old / 16 % 2) + 32 * newer (new / 32 % 2) 1 (old / 32 % 2)

abbrev pub card_with : Card → Card → Card
card_with old c = record {
  bits = bits_with old.bits c.bits;
  find = newer (c.bits % 2) c.find old.find;
  trench = newer (c.bits / 2 % 2) c.trench old.trench;
  context = newer (c.bits / 4 % 2) c.context old.context;
  material = newer (c.bits / 8 % 2) c.material old.material;
  weight = newer (c.bits / 16 % 2) c.weight old.weight;
}

-- with a card whose message ends at a position and whose note has n bytes
abbrev pub held_with : Held → Card → ℕ → ℕ → Held
held_with h c n end = record {
  found = true;
  card = card_with h.card c;
  ends = record {
    find = newer (c.bits % 2) end h.ends.find;
    trench = newer (c.bits / 2 % 2) end h.ends.trench;
    context = newer (c.bits / 4 % 2) end h.ends.context;
    material = newer (c.bits / 8 % 2) end h.ends.material;
    weight = newer (c.bits / 16 % 2) end h.ends.weight;
    note = newer (c.bits / 32 % 2) end h.ends.note;
  };
  note_length = newer (c.bits / 32 % 2) n h.note_length;
}

-- what is held, and the bytes of its note
pub record Laid : Type 0 where
  pub held : Held
  pub note : List ℕ

abbrev pub laid_card : ℕ → ℕ → Decoded → Laid → Laid
laid_card find end broken l = l
laid_card find end (card c note) l =
    cond (eqb c.find find)
    (record { held = held_with l.held c (length note) end; note = cond (eqb (c.bits / 32 % 2) 1) (padded note) l.note })
    l

abbrev pub laid_run : ℕ → ℕ → Run → Laid → Laid
laid_run find end idle l = l
laid_run find end (running b) l = laid_card find end (decode b) l

-- ---- a walk

abbrev pub walk_of : ℕ → Stream → ℕ → ℕ → Walked
walk_of find s from to = record { held = held_of (cards_in s find from to); note = note_held (cards_in s find from to); end = end_of from (between s from to) }
