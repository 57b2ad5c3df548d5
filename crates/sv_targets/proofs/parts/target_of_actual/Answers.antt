use Rattle.sv_meaning.specs.Designs.{as_targets, actual_faults, index_scope}
use Rattle.sv_meaning.specs.Meanings.{fixed_faults}
use Rattle.sv_names.specs.Names.{names_are}
use Rattle.sv_targets.proofs.Having.{actuals_some}
use Rattle.sv_targets.proofs.Slotting.{sound_targets}
use Rattle.sv_targets.proofs.parts.target_of_actual.Goals as goal

pub lowered-requires-clause-sound : goal.lowered-requires-clause-sound
lowered-requires-clause-sound c =
    let at = names_are c.args.names.now in
    let index = index_scope c.args.way at in
    sound_targets fixed_faults (actual_faults index at c.args.actual.now) (as_targets index at c.args.actual.now) c.typed_actual.result c.typed_actual.ensures.is

pub lowered-requires-clause-some : goal.lowered-requires-clause-some
lowered-requires-clause-some c = actuals_some (index_scope c.args.way (names_are c.args.names.now)) (names_are c.args.names.now) c.args.actual.now c.typed_actual.result c.typed_actual.ensures.is

pub returns : goal.returns
returns c =
    let at = names_are c.args.names.now in
    let index = index_scope c.args.way at in
    c.lowered.ensures (actual_faults index at c.args.actual.now) (as_targets index at c.args.actual.now) c.typed_actual.ensures.is
