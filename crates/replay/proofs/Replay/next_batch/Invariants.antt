-- The replies left, and what is laid so far, give the batch that was asked for; the term and the base stay what a walk asks.
use Rattle.std.proofs.Common.{◌≡◌, ◌-◌, ◌*◌, ◌%◌, length}
use Rattle.model.specs.LogBufferDescriptor.{reading}
use Rattle.image.specs.Images.{state_of as image_state}
use Rattle.replay.specs.InPlace.{open_term}
use Rattle.replay.specs.Batches.{batch_from, batch_of}
use Rattle.replay.specs.Replays.{replay_of, state_of}
use Rattle.replay.proofs.Replay.next_batch.Given as goal

abbrev pub invariant-loop-laid : goal.invariant-loop-laid
invariant-loop-laid l = record {
  lays : batch_from (l.most - l.laid) l.rec l.log (state_of (replay_of l.image l.count l.ids l.held) l.buffer) l.numbers l.laid ≡ batch_of l.rec l.log (state_of l.fn.self l.fn.buffer) l.fn.numbers;
  term_is : l.reach.term ≡ open_term (image_state l.image) (reading l.rec) (length l.log) (length l.buffer);
  base_is : l.base ≡ l.number % 3 * l.reach.term;
}
