use Rattle.std.proofs.lemmas.Result.{IfOk-from_err}
use Rattle.choice_inputs.proofs.Resolving.{clause_next, clause_end}
use Rattle.choice_inputs.proofs.tables.clause_of.Goals as goal

pub loop-var-preserved : goal.loop-var-preserved
loop-var-preserved c = clause_next c.loop-var.var c.args.to c.loop-var.left c.loop-var.clause.items _ _ c.loop-var-test.true c.loop-var.invariant c.in_ok-push.ensures.items

pub returns : goal.returns
returns c = clause_end c.loop-var.var c.args.to c.loop-var.left c.loop-var.clause.items _ c.loop-var-test.false c.loop-var.invariant

pub returns-in_err-push : goal.returns-in_err-push
returns-in_err-push c = IfOk-from_err _ _ c.from_residual.ensures.0
