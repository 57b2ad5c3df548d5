use Rattle.std.proofs.Common.{take}
use Rattle.sv_names.specs.Names.{names_are}
use Rattle.sv_typing.specs.Picks.{rule_faults, rule_scope}
use Rattle.sv_targets.specs.Targets.{AreTargets, all_faults, all_targets}
use Rattle.sv_targets.proofs.targets.+target.Given as goal

abbrev pub invariant-targets_in-parts : goal.invariant-targets_in-parts
invariant-targets_in-parts l = AreTargets (rule_faults l.rule) (all_faults (rule_faults l.rule) (rule_scope l.rule (names_are l.names)) (names_are l.names) (take l.part-index l.parts)) (all_targets (rule_scope l.rule (names_are l.names)) (names_are l.names) (take l.part-index l.parts)) l.all
