use Rattle.std.proofs.lemmas.Result.{IfOk-from_err}
use Rattle.svex_blast.proofs.walk.next_vector.Goals as goal

pub returns-in_err-word-clause-shared : goal.returns-in_err-word-clause-shared
returns-in_err-word-clause-shared c = IfOk-from_err _ _ c.from_residual.ensures.0

pub returns-in_err-word-clause-value : goal.returns-in_err-word-clause-value
returns-in_err-word-clause-value c = IfOk-from_err _ _ c.from_residual.ensures.0

pub returns-in_err-word-clause-word : goal.returns-in_err-word-clause-word
returns-in_err-word-clause-word c = IfOk-from_err _ _ c.from_residual.ensures.0
