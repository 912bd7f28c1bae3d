-- Worked cases: two calls on a log of the least size. Those on cards and on a stream of short terms are in Anchors.
use Rattle.std.specs.Prelude.{Ok}
use mathlib.Core.Path.{◌≡◌, refl}
use mathlib.Core.Bool.{false}
use mathlib.Core.List.{List, [], ◌∷◌, ◌++◌}
use Prim.Native.Nat.{ℕ}
use lib.Count.{ones, ones_in}
use lib.IntN.{pos}
use lib.ListN.{replicate}
use Rattle.model.specs.declared.LogRecord.{LogRecord}
use Rattle.model.specs.Bytes.{le4, u16, u32}
use Rattle.model.specs.FrameDescriptor.{frame_length_of, frame_at}
use Rattle.model.specs.LogBufferDescriptor.{reading_of, sound_record, sound}
use Rattle.model.proofs.Cases.{record_at}
use Rattle.card.specs.Bytes.{number, numbers, sum}
use Rattle.card.specs.Card.{widths, within, sound_card, shown, decode}
use Rattle.tally.specs.declared.step.Stop.TheVariants.{Free}
use Rattle.tally.specs.Walk.{stream_of, frame_in, own_id, met, walked, end_of, why}
use Rattle.tally.specs.Span.{good_span, span_rows, first_frame}
use Rattle.tally.specs.Tally.{tally_verdict}
use Rattle.holding.specs.declared.Answer.TheVariants.{Holds, NoCard}
use Rattle.holding.specs.Messages.{messages}
use Rattle.holding.specs.Holding.{cards, latest, held_of, padded, holding_with, holding_of}
use Rattle.holding.proofs.Anchors.{frame}

-- ---- calls: term 65,536, mtu 96, initial id 7

abbrev rec : LogRecord
rec = record_at (replicate 3 (pos 0)) (pos 7) 96 0 0 false

-- a card of find 7 that weighs 10 grams, in two frames; the walk ends at the free place behind them
abbrev log : List ℕ
log = frame 64 36 128 1 7 (17 ∷ 7 ∷ 0 ∷ 0 ∷ []) ++ frame 196544 37 64 1 7 (0 ∷ 100 ∷ 0 ∷ 0 ∷ 0 ∷ [])

weighs : holding_of rec log 7 (pos 0) (pos 65536)
    ≡ record {
      answer = Ok (Holds (pos 128) Free);
      card = record { bits = 17; find = 7; trench = 0; context = 0; material = 0; weight = 100 };
      ends = record { find = 128; trench = 0; context = 0; material = 0; weight = 128; note = 0 };
      note_length = 0;
      note = replicate 255 0;
    }
unfolding holding_of tally_verdict stream_of span_rows good_span first_frame reading_of sound_record sound ones ones_in met frame_in own_id frame_at frame_length_of u16 u32 le4 walked end_of why messages cards decode shown numbers number sum widths sound_card within held_of latest padded
weighs = refl

no-card : holding_of rec log 8 (pos 0) (pos 65536) ≡ holding_with (Ok (NoCard (pos 128) Free)) (held_of []) (padded [])
unfolding holding_of tally_verdict stream_of span_rows good_span first_frame reading_of sound_record sound ones ones_in met frame_in own_id frame_at frame_length_of u16 u32 le4 walked end_of why messages cards decode shown numbers number sum widths sound_card within held_of latest padded
no-card = refl
