use Rattle.std.proofs.Common.{sym, ap}
use Rattle.sv_hierarchy.specs.Scopes as m
use Rattle.sv_levels.proofs.LevelsHeld.{got, not_got, level_found, level_past}
use Rattle.sv_levels.proofs.levels.Levels.module.Goals as goal

pub returns-in-Some : goal.returns-in-Some
returns-in-Some c = sym (ap (λ (y : m.Level). y.module_number) (level_found c.args.self.now.list.items c.args.level c.in-Some.level.now (got c.deref.result.now c.args.self.now.list.items c.args.level c.in-Some.level.now c.deref.ensures.value c.in-Some.ensures.lookup.3.0 c.in-Some.ensures.lookup.1)))

pub returns-in-None : goal.returns-in-None
returns-in-None c = sym (ap (λ (y : m.Level). y.module_number) (level_past c.args.self.now.list.items c.args.level (not_got c.deref.result.now c.args.self.now.list.items c.args.level c.deref.ensures.value c.in-None.ensures.lookup.3)))
