use Rattle.std.proofs.lemmas.Result.{IfOk-from_err}
use Rattle.pair_words.proofs.numbers.zeros.Goals as goal

pub returns-in_err-resize : goal.returns-in_err-resize
returns-in_err-resize c = IfOk-from_err _ _ c.from_residual.ensures.0
