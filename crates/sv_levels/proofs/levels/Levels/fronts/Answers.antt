use Rattle.std.proofs.Common.{◌∙◌, ◌∷◌, ◌++◌, [], List, map, ap}
use Rattle.std.proofs.lemmas.List.{map-append}
use Rattle.std.proofs.lemmas.Result.{IfOk-from_err}
use Rattle.sv_hierarchy.specs.Scopes.{Front}
use Rattle.sv_levels.specs.Levels.{front_is}
use Rattle.sv_levels.proofs.levels.Levels.fronts.Goals as goal

pub returns-in_err-all : goal.returns-in_err-all
returns-in_err-all c = IfOk-from_err _ _ c.from_residual.ensures.0

pub returns-in_err-push : goal.returns-in_err-push
returns-in_err-push c = IfOk-from_err _ _ c.from_residual-in_err-push.ensures.0

pub returns : goal.returns
returns c =
    ap (map front_is) c.in_ok-push.ensures.ok ∙ map-append front_is c.in_ok-all.all (c.args.at ∷ []) ∙ ap (λ (x : List Front). x ++ front_is c.args.at ∷ []) c.in_ok-all.ensures
