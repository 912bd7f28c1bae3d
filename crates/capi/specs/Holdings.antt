-- The card that holds as it crosses to C: the answer's values by their order (`answer_told`), 0 where there are none, and the card with its ends and its note.
-- The position where the walk ended comes first, and where a frame is refused its place stands there.
use Rattle.model.specs.Answers.{Told}
use Rattle.holding.specs.Holding.{answer_told}
use Rattle.holding.specs.declared.Holding.{Holding}
use Rattle.capi.specs.Replies.{value, size, value_or_place}
use Rattle.capi.specs.declared.holdings.Numbers.{Numbers}
use Rattle.capi.specs.declared.holdings.HoldingReply.{HoldingReply}

abbrev pub numbers_at : Told → Numbers
numbers_at t = record { code = t.number; stop = value 1 t; position = value_or_place 0 t; writing = size 2 t }

abbrev pub reply_with : Numbers → Holding → HoldingReply
reply_with n h =
    record {
      code = n.code;
      stop = n.stop;
      position = n.position;
      writing = n.writing;
      card = h.card;
      ends = h.ends;
      note_length = h.note_length;
      note = h.note;
    }

abbrev pub holding_reply : Holding → HoldingReply
holding_reply h = reply_with (numbers_at (answer_told h.answer)) h
