use Rattle.std.proofs.Common.{sym, subst}
use Rattle.std.specs.Option.{option_copied}
use Rattle.sv_meaning.specs.Forms.{label_number}
use Rattle.sv_meaning.specs.Values.{mean}
use Rattle.sv_names.specs.Names.{constants_are}
use Rattle.sv_types.specs.Types.{whole_is, JudgesWhole}
use Rattle.sv_types.proofs.enumerators.label_number.Goals as goal

pub returns-in-Some : goal.returns-in-Some
returns-in-Some c =
    let at = constants_are c.args.names.now in
    subst (λ o. JudgesWhole (label_number at c.args.width (whole_is c.args.next) (option_copied o)) c.number_of.result) (sym c.in-Some.is)
    (c.number_of.ensures c.args.width (mean at c.in-Some.expr.now) c.eval_const.ensures)
