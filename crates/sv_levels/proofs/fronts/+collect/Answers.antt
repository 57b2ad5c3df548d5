use Rattle.std.proofs.Common.{◌≡◌, [], ◌∷◌, ◌++◌}
use Rattle.sv_levels.proofs.FrontsHeld.{one_more}
use Rattle.sv_levels.proofs.LevelsHeld.{done_as}
use Rattle.sv_levels.proofs.fronts.+collect.Goals as goal

pub returns-in_ok-collect-in-Within : goal.returns-in_ok-collect-in-Within
returns-in_ok-collect-in-Within t c =
    done_as c.push.result (c.push.new.self ≡ c.collect.new.all ++ c.in-Within.front ∷ []) _
    (λ e. one_more c.in-Within.front c.args.fronts.now c.in-Within.around c.get.result.now c.args.all.now c.collect.new.all c.push.new.self c.in-Within.is c.get.ensures c.in_ok-collect-in-Within.ensures e)
    c.push.ensures.ok
