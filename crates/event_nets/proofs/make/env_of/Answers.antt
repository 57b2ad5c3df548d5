use Rattle.std.proofs.lemmas.Result.{IfOk-from_err}
use Rattle.event_nets.proofs.make.env_of.Goals as goal

pub returns-in_err-unknowns-2-clause-present : goal.returns-in_err-unknowns-2-clause-present
returns-in_err-unknowns-2-clause-present c = IfOk-from_err _ _ c.from_residual-in_err-unknowns-2.ensures.0

pub returns-in_err-unknowns-2-clause-previous : goal.returns-in_err-unknowns-2-clause-previous
returns-in_err-unknowns-2-clause-previous c = IfOk-from_err _ _ c.from_residual-in_err-unknowns-2.ensures.0

pub returns-in_err-unknowns-2-clause-stim : goal.returns-in_err-unknowns-2-clause-stim
returns-in_err-unknowns-2-clause-stim c = IfOk-from_err _ _ c.from_residual-in_err-unknowns-2.ensures.0

pub returns-in_err-unknowns-3-clause-present : goal.returns-in_err-unknowns-3-clause-present
returns-in_err-unknowns-3-clause-present c = IfOk-from_err _ _ c.from_residual-in_err-unknowns-3.ensures.0

pub returns-in_err-unknowns-3-clause-previous : goal.returns-in_err-unknowns-3-clause-previous
returns-in_err-unknowns-3-clause-previous c = IfOk-from_err _ _ c.from_residual-in_err-unknowns-3.ensures.0

pub returns-in_err-unknowns-3-clause-stim : goal.returns-in_err-unknowns-3-clause-stim
returns-in_err-unknowns-3-clause-stim c = IfOk-from_err _ _ c.from_residual-in_err-unknowns-3.ensures.0

pub returns-in_err-unknowns-clause-present : goal.returns-in_err-unknowns-clause-present
returns-in_err-unknowns-clause-present c = IfOk-from_err _ _ c.from_residual.ensures.0

pub returns-in_err-unknowns-clause-previous : goal.returns-in_err-unknowns-clause-previous
returns-in_err-unknowns-clause-previous c = IfOk-from_err _ _ c.from_residual.ensures.0

pub returns-in_err-unknowns-clause-stim : goal.returns-in_err-unknowns-clause-stim
returns-in_err-unknowns-clause-stim c = IfOk-from_err _ _ c.from_residual.ensures.0
