use Rattle.std.proofs.Common.{ap, subst}
use Rattle.std.specs.Option.{option_copied}
use Rattle.sv_meaning.specs.Faults.{Judged}
use Rattle.sv_meaning.specs.Layouts.{constant_scope}
use Rattle.sv_meaning.specs.Params.{ParamKind, param_kind}
use Rattle.sv_types.specs.Values.{JudgesKind}
use Rattle.sv_levels.proofs.params.kind_at.Goals as goal

pub returns : goal.returns
returns c =
    subst (λ (j : Judged ParamKind). JudgesKind j c.param_kind-kind.result)
    (λ i. param_kind (ap constant_scope c.in_ok-names.ensures.names i) (option_copied c.args.form)) c.param_kind-kind.ensures
