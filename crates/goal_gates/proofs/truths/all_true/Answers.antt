use Rattle.std.proofs.lemmas.Result.{IfOk-from_err}
use Rattle.std.proofs.Common.{refl}
use Rattle.goal_gates.proofs.Tops.{no_truths, grows_none}
use Rattle.goal_gates.proofs.truths.all_true.Goals as goal

pub nodes-init : goal.nodes-init
nodes-init c = record {
  truth = no_truths c.args.aig.now _ c.constant-all.result c.len.ensures.graph c.constant-all.ensures (λ inputs. refl);
  grew = grows_none c.args.aig.now;
  none = λ h. c.constant-all.ensures;
}

pub returns-in_err-all-clause-grew : goal.returns-in_err-all-clause-grew
returns-in_err-all-clause-grew c = IfOk-from_err _ _ c.from_residual.ensures.0

pub returns-in_err-all-clause-none : goal.returns-in_err-all-clause-none
returns-in_err-all-clause-none c = IfOk-from_err _ _ c.from_residual.ensures.0

pub returns-in_err-all-clause-truth : goal.returns-in_err-all-clause-truth
returns-in_err-all-clause-truth c = IfOk-from_err _ _ c.from_residual.ensures.0
