use Rattle.std.proofs.Common.{◌∙◌}
use Rattle.std.proofs.lemmas.Result.{IfOk-weaker}
use Rattle.refute_check.proofs.follow.clause_of.Goals as goal

pub returns-then-hint-clauses : goal.returns-then-hint-clauses
returns-then-hint-clauses c = IfOk-weaker c.from_slice.result _ _ (λ v h. h ∙ c.given.ensures c.args.steps.now c.args.k) c.from_slice.ensures.items

pub returns-else-hint-clauses : goal.returns-else-hint-clauses
returns-else-hint-clauses c = IfOk-weaker c.clause.result _ _ (λ v h. h ∙ c.cited.ensures) c.clause.ensures
