use Rattle.std.proofs.lemmas.Result.{IfOk-from_err}
use Rattle.hash_index.proofs.index.HashIndex.copy.Goals as goal

pub returns-in_err-hashes : goal.returns-in_err-hashes
returns-in_err-hashes c = IfOk-from_err _ _ c.from_residual.ensures.0

pub returns-in_err-low : goal.returns-in_err-low
returns-in_err-low c = IfOk-from_err _ _ c.from_residual-in_err-low.ensures.0
