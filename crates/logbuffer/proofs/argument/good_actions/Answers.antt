-- An action that is none ends the walk; the others leave what is behind them.
use Rattle.std.proofs.Common.{◌∙◌, arith}
use Rattle.logbuffer.proofs.Actions.{actions-end, actions-low, actions-high, actions-again}
use Rattle.logbuffer.proofs.argument.good_actions.Goals as goal

pub returns-then-action-lt1 : goal.returns-then-action-lt1
returns-then-action-lt1 c = actions-low c.args.actions.now c.loop-action.action-index (omega arith) c.if-action-lt1.true ∙ c.loop-action.invariant

pub returns-then-action-gt4 : goal.returns-then-action-gt4
returns-then-action-gt4 c = actions-high c.args.actions.now c.loop-action.action-index (omega arith) (omega arith) c.if-action-gt4.true ∙ c.loop-action.invariant

pub loop-action-preserved : goal.loop-action-preserved
loop-action-preserved c = actions-again c.args.actions.now c.loop-action.action-index (omega arith) (omega arith) (omega arith) ∙ c.loop-action.invariant

pub returns : goal.returns
returns c = actions-end c.args.actions.now c.loop-action.action-index (omega arith) ∙ c.loop-action.invariant
