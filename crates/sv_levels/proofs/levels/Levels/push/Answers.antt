use Rattle.std.proofs.Common.{◌∙◌, ◌∷◌, [], map, ap}
use Rattle.std.proofs.lemmas.List.{map-append}
use Rattle.std.proofs.lemmas.Result.{IfOk-from_err}
use Rattle.sv_levels.specs.Levels.{level_is}
use Rattle.sv_levels.proofs.levels.Levels.push.Goals as goal

pub returns-in_err-push : goal.returns-in_err-push
returns-in_err-push c = IfOk-from_err _ _ c.from_residual.ensures.0

pub returns : goal.returns
returns c = ap (map level_is) c.in_ok-push.ensures.items ∙ map-append level_is c.args.self.now.list.items (c.args.level ∷ [])
