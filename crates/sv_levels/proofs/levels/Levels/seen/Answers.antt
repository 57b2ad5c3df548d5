use Rattle.std.proofs.lemmas.Result.{IfOk-from_err}
use Rattle.sv_levels.proofs.levels.Levels.seen.Goals as goal

pub returns-in_err-fronts-clause-loops : goal.returns-in_err-fronts-clause-loops
returns-in_err-fronts-clause-loops c = IfOk-from_err _ _ c.from_residual.ensures.0

pub returns-in_err-fronts-clause-names : goal.returns-in_err-fronts-clause-names
returns-in_err-fronts-clause-names c = IfOk-from_err _ _ c.from_residual.ensures.0
