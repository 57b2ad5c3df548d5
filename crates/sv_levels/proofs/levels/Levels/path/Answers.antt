use Rattle.std.proofs.Common.{◌∙◌, sym, ap, ◌++◌, ℕ, List}
use Rattle.sv_hierarchy.specs.Scopes as m
use Rattle.sv_hierarchy.specs.Scopes.{level_at, prefix_of}
use Rattle.sv_levels.specs.Levels.{levels_are}
use Rattle.sv_levels.proofs.LevelsHeld.{got, not_got, ok_as, level_found, level_past}
use Rattle.sv_levels.proofs.levels.Levels.path.Goals as goal

pub returns-in-Some : goal.returns-in-Some
returns-in-Some c =
    ok_as c.joined.result (prefix_of c.bytes.result.now ++ c.args.name.now) (prefix_of (level_at (levels_are c.args.self.now) c.args.level).path ++ c.args.name.now) c.joined.ensures
    (ap (λ (p : List ℕ). prefix_of p ++ c.args.name.now) (c.bytes.ensures ∙ sym (ap (λ (y : m.Level). y.path) (level_found c.args.self.now.list.items c.args.level c.in-Some.level.now (got c.deref.result.now c.args.self.now.list.items c.args.level c.in-Some.level.now c.deref.ensures.value c.in-Some.ensures.lookup.3.0 c.in-Some.ensures.lookup.1)))))

pub returns-in-None : goal.returns-in-None
returns-in-None c =
    ok_as c.new.result c.args.name.now (prefix_of (level_at (levels_are c.args.self.now) c.args.level).path ++ c.args.name.now) c.new.ensures
    (ap (λ (p : List ℕ). prefix_of p ++ c.args.name.now) (sym (ap (λ (y : m.Level). y.path) (level_past c.args.self.now.list.items c.args.level (not_got c.deref.result.now c.args.self.now.list.items c.args.level c.deref.ensures.value c.in-None.ensures.lookup.3)))))
