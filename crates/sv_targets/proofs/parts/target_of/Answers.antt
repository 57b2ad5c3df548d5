use Rattle.sv_meaning.specs.Meanings.{fixed_faults}
use Rattle.sv_meaning.specs.Targets.{targets, lvalue_faults}
use Rattle.sv_meaning.specs.Layouts.{constant_scope}
use Rattle.sv_names.specs.Names.{names_are}
use Rattle.sv_targets.proofs.Having.{targets_some}
use Rattle.sv_targets.proofs.Slotting.{sound_targets}
use Rattle.sv_targets.proofs.parts.target_of.Goals as goal

pub lowered-requires-clause-sound : goal.lowered-requires-clause-sound
lowered-requires-clause-sound c =
    let at = names_are c.args.names.now in
    let index = constant_scope at in
    sound_targets fixed_faults (lvalue_faults fixed_faults index at c.args.target.now) (targets index at c.args.target.now) c.typed_targets.result c.typed_targets.ensures.is

pub lowered-requires-clause-some : goal.lowered-requires-clause-some
lowered-requires-clause-some c = targets_some fixed_faults (constant_scope (names_are c.args.names.now)) (names_are c.args.names.now) c.args.target.now c.typed_targets.result c.typed_targets.ensures.is

pub returns : goal.returns
returns c =
    let at = names_are c.args.names.now in
    let index = constant_scope at in
    c.lowered.ensures (lvalue_faults fixed_faults index at c.args.target.now) (targets index at c.args.target.now) c.typed_targets.ensures.is
