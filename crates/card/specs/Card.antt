-- A find card in bytes ("R-6. Find cards" in document 02), all numbers little-endian, one behind the other with nothing between:
--
--      bit        0        1         2          3          4             5
--   +------+----------+--------+---------+----------+----------+--------+----------+
--   | bits |   find   | trench | context | material |  weight  | length | note ..  |
--   |  u8  |   u32    |  u16   |   u16   |    u8    |   u32    |   u8   | length   |
--   +------+----------+--------+---------+----------+----------+--------+----------+
--             always                       1 to 9     tenths     1 to 255
--                                                     of a gram
--
-- Only the fields whose bit is on have bytes. Bit 0 is always on, bits 6 and 7 never are. So the shortest card has 5 bytes, the longest
-- 270. A field whose bit is off is taken here as a number of width 0, which reads as 0: the layout does not ask whether a field is there.
use Rattle.std.specs.Prelude.{ℕ, ◌+◌, ◌-◌, ◌*◌, ◌/◌, ◌%◌, Bool, true, cond, ◌&&◌, List, [], ◌∷◌, eqb, leb, ltb, ℤ, pos, length, take, drop, get_or, Result, Ok, Err}
use Rattle.card.specs.declared.Card.{Card}
use Rattle.card.specs.declared.CardError.{CardError}
use Rattle.card.specs.declared.CardError.TheVariants.{IllegalArgument, BrokenCard}
use Rattle.card.specs.declared.CardRead.{CardRead}
use Rattle.card.specs.Bytes.{joined, numbers, sum, splice}

-- ---- the format

-- the widths of a card's numbers, by its bits: the bits, find, trench, context, material, weight, length of the note
unfoldable pub widths : ℕ → List ℕ
widths b =
    1 ∷ 4 * (b % 2) ∷ 2 * (b / 2 % 2) ∷ 2 * (b / 4 % 2) ∷ b / 8 % 2 ∷ 4 * (b / 16 % 2) ∷ b / 32 % 2 ∷ []

-- the numbers of a card with a note of n bytes, and the card of such numbers
abbrev pub numbers_of : Card → ℕ → List ℕ
numbers_of c n = c.bits ∷ c.find ∷ c.trench ∷ c.context ∷ c.material ∷ c.weight ∷ n ∷ []

abbrev pub card_of : List ℕ → Card
card_of ns = record {
  bits = get_or ns 0 0;
  find = get_or ns 1 0;
  trench = get_or ns 2 0;
  context = get_or ns 3 0;
  material = get_or ns 4 0;
  weight = get_or ns 5 0;
}

-- a field that is there holds 1 to `top`
unfoldable pub within : ℕ → ℕ → ℕ → Bool
within bit top n = cond (eqb bit 1) (leb 1 n && leb n top) true

-- a card with a note of n bytes has an encoding
unfoldable pub sound_card : Card → ℕ → Bool
sound_card c n =
    eqb (c.bits % 2) 1 && (ltb c.bits 64 && (within (c.bits / 8 % 2) 9 c.material && within (c.bits / 32 % 2) 255 n))

-- a number, or 0 where its bit is off
unfoldable pub held : ℕ → ℕ → ℕ
held bit n = cond (eqb bit 1) n 0

-- the part of a note that is written
abbrev pub note_held : ℕ → List ℕ → List ℕ
note_held b note = take (held (b / 32 % 2) (length note)) note

unfoldable pub encode : Card → List ℕ → List ℕ
encode c note = joined (widths c.bits) (numbers_of c (length note)) (note_held c.bits note)

unfoldable pub size_of : Card → ℕ → ℕ
size_of c n = sum (widths c.bits) + held (c.bits / 32 % 2) n

-- a card with its note, or bytes that are none
pub data Decoded : Type 0 where
  card : Card → List ℕ → Decoded
  broken : Decoded

-- the numbers that bytes show, absent bytes counting as 0
unfoldable pub shown : List ℕ → List ℕ
shown b = numbers (widths (get_or b 0 0)) b 0

-- they must be a sound card's, and the note end with the last byte
unfoldable pub decode : List ℕ → Decoded
decode b =
    let ns = shown b in
    let at = sum (widths (get_or b 0 0)) in
    let n = get_or ns 6 0 in
    cond (sound_card (card_of ns) n && eqb (length b) (at + n)) (card (card_of ns) (drop at b)) broken

-- ---- the numbers of the refusals

abbrev pub error_number : CardError → ℤ
error_number IllegalArgument = pos 1
error_number BrokenCard = pos 21

-- ---- writing. In order: 1 for slices over 2147483647, 21, and 1 for an output shorter than the card, which only a sound one can be.

abbrev pub short : List ℕ → Bool
short s = leb (length s) 2147483647

unfoldable pub write_of : Card → List ℕ → List ℕ → Result ℕ CardError
write_of c note out =
    cond (short note && short out)
    (cond (sound_card c (length note))
    (cond (leb (size_of c (length note)) (length out)) (Ok (size_of c (length note))) (Err IllegalArgument))
    (Err BrokenCard))
    (Err IllegalArgument)

abbrev pub left_by : List ℕ → List ℕ → Result ℕ CardError → List ℕ
left_by out new (Ok n) = splice out 0 new
left_by out new (Err e) = out

unfoldable pub write_bytes : Card → List ℕ → List ℕ → List ℕ
write_bytes c note out = left_by out (encode c note) (write_of c note out)

-- ---- reading: 1, 21

-- the answer that is a card, with where its note starts and how long it is
abbrev pub card_at : Card → ℕ → ℕ → Result CardRead CardError
card_at c from n = Ok (record { card = c; note_start = from; note_length = n })

-- the note is the end of the n bytes
abbrev pub located : ℕ → Decoded → Result CardRead CardError
located n (card c note) = card_at c (n - length note) (length note)
located n broken = Err BrokenCard

unfoldable pub read_of : List ℕ → Result CardRead CardError
read_of b = cond (short b) (located (length b) (decode b)) (Err IllegalArgument)

abbrev pub note_in : Decoded → List ℕ
note_in (card c note) = note
note_in broken = []

unfoldable pub note_of : List ℕ → List ℕ
note_of b = cond (short b) (note_in (decode b)) []

-- where the note lies: for a refusal at the start
abbrev pub start_of_note : Result CardRead CardError → ℕ
start_of_note (Ok found) = found.note_start
start_of_note (Err e) = 0
