use Rattle.std.proofs.Common.{take}
use Rattle.sv_meaning.specs.Designs.{index_scope}
use Rattle.sv_names.specs.Names.{names_are}
use Rattle.sv_meaning.specs.Meanings.{fixed_faults}
use Rattle.sv_targets.specs.Targets.{AreTargets, actual_list_faults, actual_list_targets}
use Rattle.sv_targets.proofs.actuals.+actual.Given as goal

abbrev pub invariant-parts_in-parts : goal.invariant-parts_in-parts
invariant-parts_in-parts l = AreTargets fixed_faults (actual_list_faults l.begin (index_scope l.way (names_are l.names)) (names_are l.names) (take l.part-index l.parts)) (actual_list_targets (index_scope l.way (names_are l.names)) (names_are l.names) (take l.part-index l.parts)) l.all
