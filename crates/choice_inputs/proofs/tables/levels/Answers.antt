use Rattle.std.proofs.lemmas.Result.{IfOk-from_err}
use Rattle.std.proofs.Common.{subst, sym}
use Rattle.choice_inputs.specs.Tables.{IsResolved}
use Rattle.choice_inputs.proofs.Resolving.{resolved_start}
use Rattle.choice_inputs.proofs.tables.levels.Goals as goal

pub loop-level-init : goal.loop-level-init
loop-level-init c = subst (IsResolved c.args.bits 0 0) (sym c.new-steps.ensures.items) (resolved_start c.args.bits)

pub returns-in_err-put_level : goal.returns-in_err-put_level
returns-in_err-put_level c = IfOk-from_err _ _ c.from_residual.ensures.0
