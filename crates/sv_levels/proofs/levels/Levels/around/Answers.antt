use Rattle.std.proofs.Common.{◌∙◌, sym, ap, map}
use Rattle.sv_hierarchy.specs.Scopes as m
use Rattle.sv_levels.specs.Levels.{front_is}
use Rattle.sv_levels.proofs.FrontsHeld.{collected}
use Rattle.sv_levels.proofs.LevelsHeld.{got, not_got, level_found, level_past}
use Rattle.sv_levels.proofs.levels.Levels.around.Goals as goal
use Rattle.sv_levels.proofs.levels.Levels.around.Goals.{in-Some+in_ok-collect, in_default}

pub returns : goal.returns
returns c = elim c.match-get.branch [
  | in-Some+in_ok-collect w ↦
      ap (map front_is) w.all-is ∙ collected c.new-all.result w.collect.new.all w.get-in-Some.result.now w.in-Some.level.now.around c.new-all.ensures w.in_ok-collect.ensures w.get-in-Some.ensures
      ∙ sym (ap (λ (y : m.Level). y.around) (level_found c.args.self.now.list.items c.args.level w.in-Some.level.now (got c.deref.result.now c.args.self.now.list.items c.args.level w.in-Some.level.now c.deref.ensures.value w.in-Some.ensures.lookup.3.0 w.in-Some.ensures.lookup.1)))
  | in_default w ↦
      ap (map front_is) (w.all-is ∙ c.new-all.ensures)
      ∙ sym (ap (λ (y : m.Level). y.around) (level_past c.args.self.now.list.items c.args.level (not_got c.deref.result.now c.args.self.now.list.items c.args.level c.deref.ensures.value w.in_default.ensures.lookup.3)))
]
