-- The replies left, and what is counted so far, give the count that was asked for; the term and the base stay what a walk asks.
use Rattle.std.proofs.Common.{◌≡◌, ◌-◌, ◌*◌, ◌%◌, length}
use Rattle.model.specs.LogBufferDescriptor.{reading}
use Rattle.image.specs.Images.{state_of as image_state}
use Rattle.replay.specs.InPlace.{open_term}
use Rattle.replay.specs.Replays.{replay_of, state_of, count_from, count_of}
use Rattle.replay.proofs.count.Given as goal

abbrev pub invariant-loop-messages : goal.invariant-loop-messages
invariant-loop-messages l = record {
  counts : count_from (l.most - l.messages) l.rec l.log (state_of (replay_of l.image l.count l.ids l.held) l.buffer) l.messages l.bytes ≡ count_of l.rec l.log l.fn.position l.fn.session_id l.fn.buffer;
  term_is : l.reach.term ≡ open_term (image_state l.image) (reading l.rec) (length l.log) (length l.buffer);
  base_is : l.base ≡ l.number % 3 * l.reach.term;
}
