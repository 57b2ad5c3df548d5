use Rattle.std.proofs.Common.{None, sym, subst}
use Rattle.driver_resolve.specs.Drivers.{widths_of}
use Rattle.sv_names.specs.Names.{names_are}
use Rattle.sv_hierarchy.specs.Scopes.{work_of}
use Rattle.sv_levels.specs.declared.tasks.Task.{Task}
use Rattle.sv_levels.specs.Tasks.{task_is}
use Rattle.sv_stmt.specs.Blocks.{AreWires}
use Rattle.sv_stmt.proofs.Placing.{one_width}
use Rattle.sv_elab.specs.Working.{IsWorked, JudgesWork, TaskStandsAbove}
use Rattle.sv_elab.proofs.Working.{assignment_worked, block_worked}
use Rattle.sv_elab.proofs.works.work_parts.Goals as goal

pub returns-in-Assigning-clause-is : goal.returns-in-Assigning-clause-is
returns-in-Assigning-clause-is c = λ wires s.
    let at = names_are c.args.names.now in
    subst (λ (z : Task). JudgesWork wires (work_of at (task_is z)) c.args.made c.assigned.new.arena c.given.result) (sym c.in-Assigning.is)
    (assignment_worked at c.in-Assigning.target.now c.in-Assigning.value.now wires c.args.widths.now c.args.made c.assigned.new.arena c.assigned.result c.given.result s c.given.ensures.ok c.given.ensures.err c.assigned.ensures.is)

pub returns-in_ok-drivers-in-Running-clause-is : goal.returns-in_ok-drivers-in-Running-clause-is
returns-in_ok-drivers-in-Running-clause-is c = λ wires s.
    let at = names_are c.args.names.now in
    let are : AreWires at (widths_of wires) = subst (AreWires at) (sym s) c.requires.names in
    subst (λ (z : Task). IsWorked wires (work_of at (task_is z)) c.args.made c.block_drivers.new.arena (record { drivers = c.in_ok-drivers-in-Running.drivers; join = None; made = c.in_ok-drivers-in-Running.made })) (sym c.in-Running.is)
    (block_worked at c.in-Running.block.now wires c.args.made c.in_ok-drivers-in-Running.made c.block_drivers.new.arena c.in_ok-drivers-in-Running.drivers are c.in_ok-drivers-in-Running.ensures.clear c.in_ok-drivers-in-Running.ensures.turns c.in_ok-drivers-in-Running.ensures.gives
    (c.in_ok-drivers-in-Running.ensures.sound (widths_of wires) are) (λ p r. c.in_ok-drivers-in-Running.ensures.mentions wires p are r))

pub port_parts-requires-clause-below : goal.port_parts-requires-clause-below
port_parts-requires-clause-below c =
    let at = names_are c.args.names.now in
    subst (λ (z : Task). TaskStandsAbove at (task_is z)) c.in-Connecting.is c.requires.below

pub block_drivers-requires : goal.block_drivers-requires
block_drivers-requires c = one_width (names_are c.args.names.now) c.args.widths.now c.requires.names
