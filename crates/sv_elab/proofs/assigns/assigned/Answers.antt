use Rattle.sv_names.specs.Names.{names_are}
use Rattle.sv_meaning.specs.Layouts.{constant_scope}
use Rattle.sv_elab.proofs.Ending.{assigned_within}
use Rattle.sv_elab.proofs.Reaching.{assigned_lies}
use Rattle.sv_elab.proofs.assigns.assigned.Goals as goal

pub valued-requires-clause-parts : goal.valued-requires-clause-parts
valued-requires-clause-parts c = let at = names_are c.args.names.now in assigned_within (constant_scope at) at c.args.target.now c.in_ok-target.target c.in_ok-target.ensures

pub valued-requires-clause-lie : goal.valued-requires-clause-lie
valued-requires-clause-lie c = let at = names_are c.args.names.now in assigned_lies (constant_scope at) at c.args.target.now c.in_ok-target.target c.args.widths.now c.requires c.in_ok-target.ensures
