use Rattle.std.proofs.lemmas.Result.{IfOk-from_err}
use Rattle.sat_state.proofs.trail.Trail.new.Goals as goal

pub returns-in_err-open_values-clause-empty : goal.returns-in_err-open_values-clause-empty
returns-in_err-open_values-clause-empty c = IfOk-from_err _ _ c.from_residual.ensures.0

pub returns-in_err-open_values-clause-open : goal.returns-in_err-open_values-clause-open
returns-in_err-open_values-clause-open c = IfOk-from_err _ _ c.from_residual.ensures.0

pub returns-in_err-open_values-clause-width : goal.returns-in_err-open_values-clause-width
returns-in_err-open_values-clause-width c = IfOk-from_err _ _ c.from_residual.ensures.0

pub returns-in_err-with_capacity-clause-empty : goal.returns-in_err-with_capacity-clause-empty
returns-in_err-with_capacity-clause-empty c = IfOk-from_err _ _ c.from_residual-in_err-with_capacity.ensures.0

pub returns-in_err-with_capacity-clause-open : goal.returns-in_err-with_capacity-clause-open
returns-in_err-with_capacity-clause-open c = IfOk-from_err _ _ c.from_residual-in_err-with_capacity.ensures.0

pub returns-in_err-with_capacity-clause-width : goal.returns-in_err-with_capacity-clause-width
returns-in_err-with_capacity-clause-width c = IfOk-from_err _ _ c.from_residual-in_err-with_capacity.ensures.0

pub returns-in_err-vec-clause-empty : goal.returns-in_err-vec-clause-empty
returns-in_err-vec-clause-empty c = IfOk-from_err _ _ c.from_residual-in_err-vec.ensures.0

pub returns-in_err-vec-clause-open : goal.returns-in_err-vec-clause-open
returns-in_err-vec-clause-open c = IfOk-from_err _ _ c.from_residual-in_err-vec.ensures.0

pub returns-in_err-vec-clause-width : goal.returns-in_err-vec-clause-width
returns-in_err-vec-clause-width c = IfOk-from_err _ _ c.from_residual-in_err-vec.ensures.0

pub returns-in_err-vec-2-clause-empty : goal.returns-in_err-vec-2-clause-empty
returns-in_err-vec-2-clause-empty c = IfOk-from_err _ _ c.from_residual-in_err-vec-2.ensures.0

pub returns-in_err-vec-2-clause-open : goal.returns-in_err-vec-2-clause-open
returns-in_err-vec-2-clause-open c = IfOk-from_err _ _ c.from_residual-in_err-vec-2.ensures.0

pub returns-in_err-vec-2-clause-width : goal.returns-in_err-vec-2-clause-width
returns-in_err-vec-2-clause-width c = IfOk-from_err _ _ c.from_residual-in_err-vec-2.ensures.0

pub returns-in_err-new-clause-empty : goal.returns-in_err-new-clause-empty
returns-in_err-new-clause-empty c = IfOk-from_err _ _ c.from_residual-in_err-new.ensures.0

pub returns-in_err-new-clause-open : goal.returns-in_err-new-clause-open
returns-in_err-new-clause-open c = IfOk-from_err _ _ c.from_residual-in_err-new.ensures.0

pub returns-in_err-new-clause-width : goal.returns-in_err-new-clause-width
returns-in_err-new-clause-width c = IfOk-from_err _ _ c.from_residual-in_err-new.ensures.0

pub returns-in_err-new-2-clause-empty : goal.returns-in_err-new-2-clause-empty
returns-in_err-new-2-clause-empty c = IfOk-from_err _ _ c.from_residual-in_err-new-2.ensures.0

pub returns-in_err-new-2-clause-open : goal.returns-in_err-new-2-clause-open
returns-in_err-new-2-clause-open c = IfOk-from_err _ _ c.from_residual-in_err-new-2.ensures.0

pub returns-in_err-new-2-clause-width : goal.returns-in_err-new-2-clause-width
returns-in_err-new-2-clause-width c = IfOk-from_err _ _ c.from_residual-in_err-new-2.ensures.0
