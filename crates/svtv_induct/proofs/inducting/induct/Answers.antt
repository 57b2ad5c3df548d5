use Rattle.std.proofs.Common.{subst}
use Rattle.std.proofs.lemmas.Result.{IfOk-weaker}
use Rattle.svtv_induct.specs.Inducting.{IsBaseBy}
use Rattle.svtv_induct.proofs.Answering.{right_of_step}
use Rattle.svtv_induct.proofs.inducting.induct.Goals as goal

pub returns-in-Never-clause-right : goal.returns-in-Never-clause-right
returns-in-Never-clause-right c = IfOk-weaker c.step_verdict.result _ _
    (λ verdict h d flat other e f o p.
    right_of_step d c.args.base.now c.args.step.now c.args.at c.args.budget verdict (subst (IsBaseBy d c.args.base.now c.args.at c.args.budget) c.in-Never.is (c.in_ok-choice.ensures.answer d flat e o)) (h d other f p)) c.step_verdict.ensures.right
