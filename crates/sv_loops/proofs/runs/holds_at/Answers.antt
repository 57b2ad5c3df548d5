use Rattle.std.proofs.Common.{subst}
use Rattle.sv_meaning.specs.Values.{mean}
use Rattle.sv_meaning.specs.Deeds.{fixed_truth}
use Rattle.sv_loops.specs.Answers.{Gives}
use Rattle.sv_loops.proofs.Frames.{entered_above}
use Rattle.sv_loops.proofs.runs.holds_at.Goals as goal

pub returns-clause-is : goal.returns-clause-is
returns-clause-is c =
    subst (λ at. Gives (fixed_truth (mean at c.args.test.now)) c.condition-taken.result)
    (entered_above c.args.names.now c.enter.new.names c.args.variable.now.text c.args.bits c.enter.ensures.frames c.in_ok-enter.ensures.loops) c.condition-taken.ensures
