use Rattle.std.proofs.lemmas.Result.{IfOk-from_err}
use Rattle.sv_modules.proofs.parameters.open_params.Goals as goal

pub returns-in_err-add_of_items : goal.returns-in_err-add_of_items
returns-in_err-add_of_items c = IfOk-from_err _ _ c.from_residual.ensures.0

pub returns-in_err-add_of_list : goal.returns-in_err-add_of_list
returns-in_err-add_of_list c = IfOk-from_err _ _ c.from_residual-in_err-add_of_list.ensures.0
