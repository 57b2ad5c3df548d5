use Rattle.std.proofs.lemmas.Result.{IfOk-from_err}
use Rattle.choice_inputs.proofs.Resolving.{below_shifted, small_place, level_more_at}
use Rattle.choice_inputs.proofs.tables.put_level.Goals as goal

pub step_of-requires : goal.step_of-requires
step_of-requires c =
    small_place c.args.bits c.args.first c.args.level c.loop-number.number c.loop-number.steps.items c.requires.bits c.requires.level (below_shifted c.args.bits c.args.level c.loop-number.number c.requires.bits c.loop-number-test.true) c.loop-number.invariant

pub loop-number-preserved : goal.loop-number-preserved
loop-number-preserved c =
    level_more_at c.args.bits c.args.first c.args.level c.loop-number.number c.loop-number.steps.items _ c.in_ok-clause.clause.items c.in_ok-step.step c.requires.level (below_shifted c.args.bits c.args.level c.loop-number.number c.requires.bits c.loop-number-test.true) c.loop-number.invariant c.in_ok-clause.ensures c.in_ok-step.ensures c.in_ok-push.ensures.items

pub returns-in_err-clause : goal.returns-in_err-clause
returns-in_err-clause c = IfOk-from_err _ _ c.from_residual.ensures.0

pub returns-in_err-push : goal.returns-in_err-push
returns-in_err-push c = IfOk-from_err _ _ c.from_residual-in_err-push.ensures.0

pub returns-in_err-step : goal.returns-in_err-step
returns-in_err-step c = IfOk-from_err _ _ c.from_residual-in_err-step.ensures.0
