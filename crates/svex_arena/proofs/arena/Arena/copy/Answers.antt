use Rattle.std.proofs.lemmas.Result.{IfOk-from_err}
use Rattle.svex_arena.proofs.arena.Arena.copy.Goals as goal

pub returns-in_err-shapes : goal.returns-in_err-shapes
returns-in_err-shapes c = IfOk-from_err _ _ c.from_residual.ensures.0

pub returns-in_err-widths : goal.returns-in_err-widths
returns-in_err-widths c = IfOk-from_err _ _ c.from_residual-in_err-widths.ensures.0

pub returns-in_err-index : goal.returns-in_err-index
returns-in_err-index c = IfOk-from_err _ _ c.from_residual-in_err-index.ensures.0
