use Rattle.std.proofs.Common.{◌≡◌, [], ◌∷◌, ◌++◌, refl}
use Rattle.sv_names.specs.Kinds.{entry_is}
use Rattle.sv_hierarchy.specs.Scopes as m
use Rattle.sv_levels.proofs.LevelsHeld.{got, not_got, done_as, net_added, level_missed}
use Rattle.sv_levels.proofs.levels.Levels.add_net.Goals as goal

pub returns-in-Some : goal.returns-in-Some
returns-in-Some c =
    done_as c.push.result (c.push.new.self ≡ c.in-Some.level.now.nets ++ (c.args.name, c.args.what) ∷ []) _
    (λ e. net_added c.args.self.now.list.items c.args.level c.in-Some.level.now c.args.name c.args.what c.push.new.self
    (got c.args.self.now.list.items c.args.self.now.list.items c.args.level c.in-Some.level.now refl c.in-Some.ensures.item.3.0 c.in-Some.ensures.item.1) e)
    c.push.ensures.ok

pub returns-in-None : goal.returns-in-None
returns-in-None c = level_missed c.args.self.now.list.items c.args.level (m.with_net (entry_is (c.args.name, c.args.what))) (not_got c.args.self.now.list.items c.args.self.now.list.items c.args.level refl c.in-None.ensures.item.3)
