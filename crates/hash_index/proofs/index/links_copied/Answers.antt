use Rattle.std.proofs.lemmas.Result.{IfOk-from_err}
use Rattle.hash_index.proofs.index.links_copied.Goals as goal

pub returns-in_err-high : goal.returns-in_err-high
returns-in_err-high c = IfOk-from_err _ _ c.from_residual-in_err-high.ensures.0

pub returns-in_err-low : goal.returns-in_err-low
returns-in_err-low c = IfOk-from_err _ _ c.from_residual.ensures.0

pub returns-in_err-roots : goal.returns-in_err-roots
returns-in_err-roots c = IfOk-from_err _ _ c.from_residual-in_err-roots.ensures.0
