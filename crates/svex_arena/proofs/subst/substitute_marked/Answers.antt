use Rattle.std.proofs.lemmas.Result.{IfOk-from_err}
use Rattle.svex_arena.proofs.subst.substitute_marked.Goals as goal

pub returns-in_err-done-clause-answers : goal.returns-in_err-done-clause-answers
returns-in_err-done-clause-answers c = IfOk-from_err _ _ c.from_residual.ensures.0
