use Rattle.std.proofs.lemmas.Result.{IfOk-from_err}
use Rattle.std.proofs.Common.{subst}
use Rattle.sv_meaning.specs.Deeds.{next_value}
use Rattle.sv_loops.specs.Answers.{Gives}
use Rattle.sv_loops.proofs.Frames.{entered_above}
use Rattle.sv_loops.proofs.runs.following.Goals as goal

pub returns-clause-is : goal.returns-clause-is
returns-clause-is c =
    subst (λ at. Gives (next_value at c.args.bits c.args.next.now) c.next_value-value.result)
    (entered_above c.args.names.now c.enter.new.names c.args.variable.now.text c.args.bits c.enter.ensures.frames c.in_ok-enter.ensures.loops) c.next_value-value.ensures.is

pub returns-in_err-enter-clause-width : goal.returns-in_err-enter-clause-width
returns-in_err-enter-clause-width c = IfOk-from_err _ _ c.from_residual.ensures.0
