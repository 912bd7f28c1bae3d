-- The theorems, as statements: a card has one encoding, and just that is read as the card. proofs/Sole.antt proves them.
use Rattle.std.specs.Prelude.{ℕ, ◌-◌, ◌/◌, ◌%◌, ◌^◌, ◌≤◌, ◌<◌, true, List, [], ◌∷◌, ◌++◌, ◌↔◌, ◌≡◌, length, take, drop, Ok}
use Rattle.card.specs.declared.Card.{Card}
use Rattle.card.specs.Bytes.{Bytes}
use Rattle.card.specs.Card.{card, widths, numbers_of, sound_card, held, note_held, encode, size_of, decode, write_of, write_bytes, read_of, note_of, card_at}

-- each number has no more than its width: one of width 0 is 0
pub data Fit : List ℕ → List ℕ → Type 0 where
  none : Fit [] []
  one : {w n : ℕ} {ws ns : List ℕ} → n < 256 ^ w → Fit ws ns → Fit (w ∷ ws) (n ∷ ns)

-- a sound card whose numbers and note are 0 and empty where their bit is off
pub record Canonical (c : Card) (note : List ℕ) : Type 0 where
  pub sound : sound_card c (length note) ≡ true
  pub fit : Fit (widths c.bits) (numbers_of c (length note))
  pub bytes : Bytes note

-- the numbers fit their fields' types, as those of a `Card` in code do
pub record Typed (c : Card) : Type 0 where
  pub bits : c.bits < 256
  pub find : c.find < 4294967296
  pub trench : c.trench < 65536
  pub context : c.context < 65536
  pub material : c.material < 256
  pub weight : c.weight < 4294967296

-- the card with 0 for each number whose bit is off
abbrev pub kept : Card → Card
kept c = record {
  bits = c.bits;
  find = held (c.bits % 2) c.find;
  trench = held (c.bits / 2 % 2) c.trench;
  context = held (c.bits / 4 % 2) c.context;
  material = held (c.bits / 8 % 2) c.material;
  weight = held (c.bits / 16 % 2) c.weight;
}

-- bytes are read as a card exactly if that card is canonical and they are its encoding
abbrev pub Sole : Type 0
Sole = (b : List ℕ) → Bytes b → (c : Card) (note : List ℕ) → (decode b ≡ card c note) ↔ (Canonical c note × (b ≡ encode c note))

-- the same of what `read` and `note` answer
abbrev pub SoleRead : Type 0
SoleRead =
    (b : List ℕ) → Bytes b → (c : Card) (note : List ℕ)
    → ((read_of b ≡ card_at c (length b - length note) (length note)) × (note_of b ≡ note)) ↔ (Canonical c note × (b ≡ encode c note))

-- what is written of any sound card is read back: all that its bits say
abbrev pub ReadBack : Type 0
ReadBack = (c : Card) (note : List ℕ) → Typed c → Bytes note → sound_card c (length note) ≡ true → decode (encode c note) ≡ card (kept c) (note_held c.bits note)

-- the same of the calls: the bytes that `write` wrote are read, and give the card and its note
abbrev pub WrittenRead : Type 0
WrittenRead =
    (c : Card) (note out : List ℕ) (n : ℕ) → Typed c → Bytes note → write_of c note out ≡ Ok n
    → let b = take n (write_bytes c note out) in
    let held = note_held c.bits note in
    (read_of b ≡ card_at (kept c) (n - length held) (length held)) × (note_of b ≡ held)

-- and bytes that `read` accepts are what `write` makes of the card and its note, in every output that has room
abbrev pub ReadWritten : Type 0
ReadWritten =
    (b out : List ℕ) → Bytes b → (c : Card) (from n : ℕ) → read_of b ≡ card_at c from n → length b ≤ length out → length out ≤ 2147483647
    → (write_of c (note_of b) out ≡ Ok (length b)) × (write_bytes c (note_of b) out ≡ b ++ drop (length b) out)

-- an encoding is as long as the writer answers
abbrev pub Sized : Type 0
Sized = (c : Card) (note : List ℕ) → length (encode c note) ≡ size_of c (length note)

-- and has 5 to 270 bytes
abbrev pub InBounds : Type 0
InBounds = (c : Card) (n : ℕ) → sound_card c n ≡ true → (5 ≤ size_of c n) × (size_of c n ≤ 270)
