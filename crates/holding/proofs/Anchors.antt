-- Worked cases on cards alone and on a stream of short terms. The laws name this file, so that a wrong definition meets a fact first. Read Cases next.
use mathlib.Core.Path.{◌≡◌, refl}
use mathlib.Core.Bool.{true}
use mathlib.Core.List.{List, [], ◌∷◌, ◌++◌}
use Prim.Native.Nat.{ℕ}
use lib.ListN.{replicate, take}
use Rattle.model.specs.Bytes.{le4, u16, u32}
use Rattle.model.specs.FrameDescriptor.{frame_length_of, frame_at}
use Rattle.tally.specs.Walk.{Stream, frame_in, own_id, met, walked, between}
use Rattle.holding.specs.Messages.{idle, messages}
use Rattle.holding.specs.Holding.{Found, latest, held_of}

-- ---- a find is weighed again, and moved to another context

-- find 7, in trench 3 and context 12, weighs 10 grams, and has a note; then 9.5 grams; then it is in context 14
abbrev first : Found
first = record { card = record { bits = 55; find = 7; trench = 3; context = 12; material = 0; weight = 100 }; note = 114 ∷ 105 ∷ 109 ∷ []; end = 64 }

abbrev weighed : Found
weighed = record { card = record { bits = 17; find = 7; trench = 0; context = 0; material = 0; weight = 95 }; note = []; end = 128 }

abbrev moved : Found
moved = record { card = record { bits = 5; find = 7; trench = 0; context = 14; material = 0; weight = 0 }; note = []; end = 192 }

holds : held_of (first ∷ weighed ∷ moved ∷ [])
    ≡ record {
      found = true;
      card = record { bits = 55; find = 7; trench = 3; context = 14; material = 0; weight = 95 };
      ends = record { find = 192; trench = 64; context = 192; material = 0; weight = 128; note = 64 };
      note_length = 3;
    }
unfolding held_of latest
holds = refl

-- in the other order the first card's fields hold
holds-first : held_of (moved ∷ weighed ∷ first ∷ [])
    ≡ record {
      found = true;
      card = record { bits = 55; find = 7; trench = 3; context = 12; material = 0; weight = 100 };
      ends = record { find = 64; trench = 64; context = 64; material = 0; weight = 64; note = 64 };
      note_length = 3;
    }
unfolding held_of latest
holds-first = refl

-- ---- messages, on a stream of terms of 128 bytes

-- a frame with a length, flags, a type and a term id, and so many bytes in all
abbrev pub frame : ℕ → ℕ → ℕ → ℕ → ℕ → List ℕ → List ℕ
frame size length flags type id body = take size (le4 length ++ (0 ∷ flags ∷ type ∷ 0 ∷ (replicate 12 0 ++ (le4 id ++ (replicate 8 0 ++ (body ++ replicate size 0))))))

-- Two begin frames, then in the next term an end frame and padding, then an end frame and an unfragmented one.
abbrev mixed : Stream
mixed = record {
  term = 128;
  initial = 7;
  log =
      frame 64 34 128 1 7 (1 ∷ 2 ∷ []) ++ (frame 64 34 128 1 7 (3 ∷ 4 ∷ []) ++ (frame 64 33 64 1 8 (5 ∷ []) ++ (frame 64 40 192 0 8 []
      ++ (frame 64 33 64 1 9 (6 ∷ []) ++ frame 64 33 192 1 9 (9 ∷ [])))));
}

-- A run counts from its last begin frame, and may cross a term's end; an end frame without a run is passed over.
from_second : messages mixed idle (between mixed 0 384) ≡ record { body = 3 ∷ 4 ∷ 5 ∷ []; end = 192 } ∷ record { body = 9 ∷ []; end = 384 } ∷ []
unfolding messages met frame_in own_id frame_at frame_length_of u16 u32 le4 walked
from_second = refl

-- An empty begin frame starts a run, and a middle frame goes on with it; padding breaks the next one.
abbrev broken : Stream
broken = record {
  term = 128;
  initial = 7;
  log =
      frame 32 32 128 1 7 [] ++ (frame 64 33 0 1 7 (1 ∷ []) ++ (frame 32 32 64 1 7 [] ++ (frame 64 33 128 1 8 (2 ∷ []) ++ (frame 64 40 192 0 8 []
      ++ (frame 64 33 64 1 9 (3 ∷ []) ++ replicate 64 0)))));
}

breaks : messages broken idle (between broken 0 384) ≡ record { body = 1 ∷ []; end = 128 } ∷ []
unfolding messages met frame_in own_id frame_at frame_length_of u16 u32 le4 walked
breaks = refl
