use Rattle.sv_levels.proofs.LevelsHeld.{got, not_got, front_found, front_past}
use Rattle.sv_levels.proofs.levels.Levels.front.Goals as goal

pub returns-in-Some : goal.returns-in-Some
returns-in-Some c =
    front_found c.args.self.now.list.items c.args.level c.in-Some.found.now c.len.result c.len-in-Some.result
    (got c.deref.result.now c.args.self.now.list.items c.args.level c.in-Some.found.now c.deref.ensures.value c.in-Some.ensures.lookup.3.0 c.in-Some.ensures.lookup.1) c.len.ensures c.len-in-Some.ensures

pub returns-in-None : goal.returns-in-None
returns-in-None c = front_past c.args.self.now.list.items c.args.level (not_got c.deref.result.now c.args.self.now.list.items c.args.level c.deref.ensures.value c.in-None.ensures.lookup.3)
