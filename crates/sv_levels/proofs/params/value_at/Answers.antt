use Rattle.std.proofs.Common.{ap, subst}
use Rattle.sv_meaning.specs.Faults.{Judged}
use Rattle.sv_meaning.specs.Layouts.{What, constant_scope}
use Rattle.sv_meaning.specs.Params.{value_as}
use Rattle.sv_meaning.specs.Values.{mean}
use Rattle.sv_types.specs.Values.{JudgesValue, kind_is}
use Rattle.sv_levels.specs.Tasks.{actual_is}
use Rattle.sv_levels.proofs.params.value_at.Goals as goal

pub returns : goal.returns
returns c =
    subst (λ (j : Judged What). JudgesValue j c.value_of-known.result)
    (λ i. value_as (kind_is c.args.kind) (mean (ap constant_scope c.in_ok-names.ensures.names i) (actual_is c.args.given.value))) c.value_of-known.ensures
