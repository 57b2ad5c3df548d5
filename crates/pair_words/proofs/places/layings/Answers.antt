use Rattle.std.proofs.lemmas.Result.{IfOk-from_err}
use Rattle.pair_words.proofs.places.layings.Goals as goal

pub returns-in_err-around : goal.returns-in_err-around
returns-in_err-around c = IfOk-from_err _ _ c.from_residual.ensures.0
