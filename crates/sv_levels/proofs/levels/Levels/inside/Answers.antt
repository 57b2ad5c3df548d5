use Rattle.sv_levels.proofs.FrontsHeld.{fronts_as}
use Rattle.sv_levels.proofs.LevelsHeld.{got, not_got, around_found, around_past}
use Rattle.sv_levels.proofs.levels.Levels.inside.Goals as goal

pub returns-in-Some : goal.returns-in-Some
returns-in-Some c =
    fronts_as c.within.result _ _
    (around_found c.args.self.now.list.items c.args.level c.in-Some.found.now _
    (got c.deref.result.now c.args.self.now.list.items c.args.level c.in-Some.found.now c.deref.ensures.value c.in-Some.ensures.lookup.3.0 c.in-Some.ensures.lookup.1) c.front-front.ensures)
    c.within.ensures

pub returns-in_ok-none-in-None : goal.returns-in_ok-none-in-None
returns-in_ok-none-in-None c =
    fronts_as c.within-in-None.result _ _
    (around_past c.args.self.now.list.items c.args.level c.in_ok-none-in-None.none _
    (not_got c.deref.result.now c.args.self.now.list.items c.args.level c.deref.ensures.value c.in-None.ensures.lookup.3) c.in_ok-none-in-None.ensures c.front-front.ensures)
    c.within-in-None.ensures
