use Rattle.std.proofs.lemmas.Result.{IfOk-from_err}
use Rattle.svex_blast.proofs.nodes.fitted.Goals as goal

pub returns-in_err-word : goal.returns-in_err-word
returns-in_err-word c = IfOk-from_err _ _ c.from_residual.ensures.0

pub returns-in_err-word-2 : goal.returns-in_err-word-2
returns-in_err-word-2 c = IfOk-from_err _ _ c.from_residual-in_err-word-2.ensures.0
