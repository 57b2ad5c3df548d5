use Rattle.std.proofs.Common.{◌≡◌, ◌∙◌, sym, ap}
use Rattle.sv_names.specs.Names.{constants_are, names_are}
use Rattle.sv_meaning.specs.Faults.{is_clear}
use Rattle.sv_meaning.specs.Layouts.{Scope, constant_scope, find}
use Rattle.sv_hierarchy.specs.Scopes.{genvar_faults, here, seen_at}
use Rattle.sv_levels.specs.Levels.{levels_are}
use Rattle.sv_walk.specs.Walks.{state_of}
use Rattle.sv_walk.proofs.WalkingBlocks.{loop_valued, loop_unknown}
use Rattle.sv_walk.proofs.walker.Walker.loop_values.Goals as goal

pub returns-then-is_loop_variable : goal.returns-then-is_loop_variable
returns-then-is_loop_variable c =
    let names = c.in_ok-names.names in
    let seen : names_are names ≡ seen_at (levels_are c.args.self.now.levels) (here (state_of c.args.self.now c.args.current.now)) = c.in_ok-names.ensures.names ∙ ap (seen_at (levels_are c.args.self.now.levels)) c.here-at.ensures in
    let above : constants_are names ≡ seen_at (levels_are c.args.self.now.levels) (here (state_of c.args.self.now c.args.current.now)) = ap constant_scope seen in
    loop_valued c.args.place c.args.header c.args.variable.now c.args.start.now c.args.test.now c.args.next.now (state_of c.args.self.now c.args.current.now) (constants_are names) c.is_loop_variable.result c.turns-values.result
    above (c.is_loop_variable.ensures ∙ ap (λ (at : Scope). is_clear (genvar_faults c.args.header c.args.variable.now (find c.args.variable.now.text at))) (seen ∙ sym above)) c.if-is_loop_variable.true c.turns-values.ensures.is

pub returns-else-is_loop_variable : goal.returns-else-is_loop_variable
returns-else-is_loop_variable c =
    loop_unknown c.args.place c.args.header c.args.variable.now c.args.start.now c.args.test.now c.args.next.now (state_of c.args.self.now c.args.current.now) (names_are c.in_ok-names.names) c.is_loop_variable.result c.refusal.result
    (c.in_ok-names.ensures.names ∙ ap (seen_at (levels_are c.args.self.now.levels)) c.here-at.ensures) c.is_loop_variable.ensures c.if-is_loop_variable.false c.refusal.ensures
