use Rattle.std.proofs.Common.{◌∙◌, Bool, Option, Some, Ok, sym, ap, subst}
use Rattle.sv_tree.specs.declared.forms.Range.{Range}
use Rattle.sv_tree.specs.declared.design.ParamType.{ParamType}
use Rattle.sv_tree.specs.declared.design.ParamType.TheVariants as param_type
use Rattle.sv_meaning.specs.Params as params
use Rattle.sv_names.specs.Names.{constants_are}
use Rattle.sv_types.specs.Values.{JudgesKind}
use Rattle.sv_types.proofs.params.typed_kind.Goals as goal

pub returns-in-Whole : goal.returns-in-Whole
returns-in-Whole c =
    ap (λ (f : ParamType). params.param_kind (constants_are c.args.names.now) (Some f)) c.in-Whole.is ∙ ap (λ (b : Bool). Ok (params.sized_as 32 b)) (sym c.is_signed_whole.ensures)

pub returns-in-Bits : goal.returns-in-Bits
returns-in-Bits c =
    subst (λ (f : ParamType). JudgesKind (params.param_kind (constants_are c.args.names.now) (Some f)) c.bits_kind.result)
    (ap (λ (o : Option Range). param_type.Bits c.in-Bits.word c.in-Bits.sign o) c.as_ref.ensures.value ∙ sym c.in-Bits.is) c.bits_kind.ensures
