-- Find cards as they cross to C: the refusal's number, 0 for none, and the values, 0 where there are none.
use Rattle.std.specs.Prelude.{pos, Result, Ok, Err, ℕ}
use Rattle.card.specs.declared.CardError.{CardError}
use Rattle.card.specs.Card.{error_number}
use Rattle.card.specs.declared.Card.{Card}
use Rattle.card.specs.declared.CardRead.{CardRead}
use Rattle.capi.specs.declared.cards.CardWriteReply.{CardWriteReply}
use Rattle.capi.specs.declared.cards.CardReadReply.{CardReadReply}

abbrev pub card_write_reply : Result ℕ CardError → CardWriteReply
card_write_reply (Ok n) = record { code = pos 0; length = n }
card_write_reply (Err e) = record { code = error_number e; length = 0 }

abbrev pub no_card : Card
no_card = record { bits = 0; find = 0; trench = 0; context = 0; material = 0; weight = 0 }

abbrev pub card_read_reply : Result CardRead CardError → CardReadReply
card_read_reply (Ok found) = record { code = pos 0; card = found.card; note_start = found.note_start; note_length = found.note_length }
card_read_reply (Err e) = record { code = error_number e; card = no_card; note_start = 0; note_length = 0 }
