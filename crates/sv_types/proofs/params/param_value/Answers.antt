use Rattle.std.proofs.Common.{ap}
use Rattle.sv_meaning.specs.Params as params
use Rattle.sv_meaning.specs.Values.{mean}
use Rattle.sv_names.specs.Names.{constants_are}
use Rattle.sv_types.specs.Values.{kind_is}
use Rattle.sv_types.proofs.Valuing.{value_by}
use Rattle.sv_types.proofs.params.param_value.Goals as goal

pub returns-in-Kept : goal.returns-in-Kept
returns-in-Kept c =
    let x = mean (constants_are c.args.names.now) c.args.value.now in
    value_by (kind_is c.args.kind) params.kept x c.untyped.result (ap kind_is c.in-Kept.is) (c.untyped.ensures x c.eval_fixed.ensures)

pub returns-in-Signed : goal.returns-in-Signed
returns-in-Signed c =
    let x = mean (constants_are c.args.names.now) c.args.value.now in
    value_by (kind_is c.args.kind) (params.signed_as c.in-Signed.signed) x c.with_sign.result (ap kind_is c.in-Signed.is) (c.with_sign.ensures x c.eval_fixed-in-Signed.ensures)

pub returns-in-Sized : goal.returns-in-Sized
returns-in-Sized c =
    let x = mean (constants_are c.args.names.now) c.args.value.now in
    value_by (kind_is c.args.kind) (params.sized_as c.in-Sized.size.width c.in-Sized.size.signed) x c.converted_expr.result (ap kind_is c.in-Sized.is) c.converted_expr.ensures
