-- Worked cases, by computation.
use Rattle.std.specs.Prelude.{Ok, Err}
use mathlib.Core.Path.{◌≡◌, refl}
use mathlib.Core.List.{List, [], ◌∷◌}
use Prim.Native.Nat.{ℕ}
use Rattle.card.specs.declared.Card.{Card}
use Rattle.card.specs.declared.CardError.TheVariants.{IllegalArgument, BrokenCard}
use Rattle.card.specs.Bytes.{le, number, joined, numbers, sum, splice}
use Rattle.card.specs.Card.{widths, within, sound_card, held, encode, size_of, card, broken, shown, decode, write_of, write_bytes, read_of, note_of, card_at}

-- find 67305985 (4, 3, 2, 1 from the top), context 258 (1, 2), note "hi"
abbrev some : Card
some = record { bits = 37; find = 67305985; trench = 0; context = 258; material = 0; weight = 0 }

abbrev note : List ℕ
note = 104 ∷ 105 ∷ []

abbrev bytes : List ℕ
bytes = 37 ∷ 1 ∷ 2 ∷ 3 ∷ 4 ∷ 2 ∷ 1 ∷ 2 ∷ 104 ∷ 105 ∷ []

laid_out : encode some note ≡ bytes
unfolding encode widths joined le held
laid_out = refl

taken-apart : decode bytes ≡ card some note
unfolding decode shown widths numbers number sum sound_card within
taken-apart = refl

-- every field
all-laid-out : encode (record { bits = 63; find = 67305985; trench = 1541; context = 2055; material = 9; weight = 202050057 }) note
    ≡ 63 ∷ 1 ∷ 2 ∷ 3 ∷ 4 ∷ 5 ∷ 6 ∷ 7 ∷ 8 ∷ 9 ∷ 9 ∷ 10 ∷ 11 ∷ 12 ∷ 2 ∷ 104 ∷ 105 ∷ []
unfolding encode widths joined le held
all-laid-out = refl

-- ---- bytes that are no card: one more, one less, nothing, bit 0 off, bits 6 and 7 on, materials 0 and 10, a note of no bytes

one_more : decode (37 ∷ 1 ∷ 2 ∷ 3 ∷ 4 ∷ 2 ∷ 1 ∷ 2 ∷ 104 ∷ 105 ∷ 0 ∷ []) ≡ broken
unfolding decode shown widths numbers number sum sound_card within
one_more = refl

one_less : decode (37 ∷ 1 ∷ 2 ∷ 3 ∷ 4 ∷ 2 ∷ 1 ∷ 2 ∷ 104 ∷ []) ≡ broken
unfolding decode shown widths numbers number sum sound_card within
one_less = refl

nothing : decode [] ≡ broken
unfolding decode shown widths numbers number sum sound_card within
nothing = refl

no-find : decode (0 ∷ 1 ∷ 0 ∷ 0 ∷ 0 ∷ []) ≡ broken
unfolding decode shown widths numbers number sum sound_card within
no-find = refl

bit-6 : decode (65 ∷ 1 ∷ 0 ∷ 0 ∷ 0 ∷ []) ≡ broken
unfolding decode shown widths numbers number sum sound_card within
bit-6 = refl

bit-7 : decode (129 ∷ 1 ∷ 0 ∷ 0 ∷ 0 ∷ []) ≡ broken
unfolding decode shown widths numbers number sum sound_card within
bit-7 = refl

material-0 : decode (9 ∷ 1 ∷ 0 ∷ 0 ∷ 0 ∷ 0 ∷ []) ≡ broken
unfolding decode shown widths numbers number sum sound_card within
material-0 = refl

material-10 : decode (9 ∷ 1 ∷ 0 ∷ 0 ∷ 0 ∷ 10 ∷ []) ≡ broken
unfolding decode shown widths numbers number sum sound_card within
material-10 = refl

empty-note : decode (33 ∷ 1 ∷ 0 ∷ 0 ∷ 0 ∷ 0 ∷ []) ≡ broken
unfolding decode shown widths numbers number sum sound_card within
empty-note = refl

-- ---- the calls: what lies behind the card stays, an output a byte too short is 1, a broken card is 21 even where there is no output

written : write_of some note (9 ∷ 9 ∷ 9 ∷ 9 ∷ 9 ∷ 9 ∷ 9 ∷ 9 ∷ 9 ∷ 9 ∷ 7 ∷ 8 ∷ []) ≡ Ok 10
unfolding write_of size_of widths sum sound_card within held
written = refl

left : write_bytes some note (9 ∷ 9 ∷ 9 ∷ 9 ∷ 9 ∷ 9 ∷ 9 ∷ 9 ∷ 9 ∷ 9 ∷ 7 ∷ 8 ∷ []) ≡ 37 ∷ 1 ∷ 2 ∷ 3 ∷ 4 ∷ 2 ∷ 1 ∷ 2 ∷ 104 ∷ 105 ∷ 7 ∷ 8 ∷ []
unfolding write_bytes write_of encode joined le splice size_of widths sum sound_card within held
left = refl

too_short : write_of some note (9 ∷ 9 ∷ 9 ∷ 9 ∷ 9 ∷ 9 ∷ 9 ∷ 9 ∷ 9 ∷ []) ≡ Err IllegalArgument
unfolding write_of size_of widths sum sound_card within held
too_short = refl

broken-first : write_of some [] [] ≡ Err BrokenCard
unfolding write_of sound_card within
broken-first = refl

found : read_of bytes ≡ card_at some 8 2
unfolding read_of decode shown widths numbers number sum sound_card within
found = refl

found-note : note_of bytes ≡ note
unfolding note_of decode shown widths numbers number sum sound_card within
found-note = refl

refused : read_of [] ≡ Err BrokenCard
unfolding read_of decode shown widths numbers number sum sound_card within
refused = refl
