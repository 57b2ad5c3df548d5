use Rattle.std.proofs.lemmas.Result.{IfOk-from_err}
use Rattle.std.proofs.Common.{◌∙◌, ◌∷◌, ◌++◌, [], true, ap}
use Rattle.sv_names.specs.declared.layout.What.TheVariants.{Number}
use Rattle.sv_names.specs.Kinds.{entries_are}
use Rattle.sv_levels.proofs.loops.index_scope.Goals as goal

pub returns : goal.returns
returns c =
    ap entries_are (c.in_ok-push.ensures.ok ∙ λ i. c.new-scope.ensures i ++ (c.in_ok-name.ensures i, Number (record { value = c.args.bits; signed = true })) ∷ [])

pub returns-in_err-name : goal.returns-in_err-name
returns-in_err-name c = IfOk-from_err _ _ c.from_residual.ensures.0

pub returns-in_err-push : goal.returns-in_err-push
returns-in_err-push c = IfOk-from_err _ _ c.from_residual-in_err-push.ensures.0
