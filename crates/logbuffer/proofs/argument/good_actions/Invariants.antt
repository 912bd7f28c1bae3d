-- Each action passed is 1 to 4, so that the rest decides.
use Rattle.std.proofs.Common.{◌≡◌, drop}
use Rattle.model.specs.TermReader.{good_actions}
use Rattle.logbuffer.proofs.argument.good_actions.Given as goal

abbrev pub invariant-loop-action : goal.invariant-loop-action
invariant-loop-action l = good_actions (drop l.action-index l.actions) ≡ good_actions l.actions
