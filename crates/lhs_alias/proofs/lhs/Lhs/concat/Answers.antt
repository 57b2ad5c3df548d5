use Rattle.std.proofs.lemmas.Result.{IfOk-from_err}
use Rattle.lhs_alias.proofs.lhs.Lhs.concat.Goals as goal

pub returns-in_err-extend_from_slice-clause-bits : goal.returns-in_err-extend_from_slice-clause-bits
returns-in_err-extend_from_slice-clause-bits c = IfOk-from_err _ _ c.from_residual-in_err-extend_from_slice.ensures.0

pub returns-in_err-extend_from_slice-clause-lies : goal.returns-in_err-extend_from_slice-clause-lies
returns-in_err-extend_from_slice-clause-lies c = IfOk-from_err _ _ c.from_residual-in_err-extend_from_slice.ensures.0

pub returns-in_err-extend_from_slice-clause-segs : goal.returns-in_err-extend_from_slice-clause-segs
returns-in_err-extend_from_slice-clause-segs c = IfOk-from_err _ _ c.from_residual-in_err-extend_from_slice.ensures.0

pub returns-in_err-segs-clause-bits : goal.returns-in_err-segs-clause-bits
returns-in_err-segs-clause-bits c = IfOk-from_err _ _ c.from_residual.ensures.0

pub returns-in_err-segs-clause-lies : goal.returns-in_err-segs-clause-lies
returns-in_err-segs-clause-lies c = IfOk-from_err _ _ c.from_residual.ensures.0

pub returns-in_err-segs-clause-segs : goal.returns-in_err-segs-clause-segs
returns-in_err-segs-clause-segs c = IfOk-from_err _ _ c.from_residual.ensures.0
