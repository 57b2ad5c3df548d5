use Rattle.std.proofs.Common.{map}
use Rattle.sv_meaning.specs.Values.{step}
use Rattle.sv_names.specs.Names.{names_are}
use Rattle.sv_typing.specs.Picks.{rule_faults, rule_scope}
use Rattle.sv_targets.proofs.Targeting.{what_wire}
use Rattle.sv_targets.proofs.targets.what_target.Goals as goal

pub returns-in-Wire : goal.returns-in-Wire
returns-in-Wire c =
    let steps = map (step (rule_scope c.args.rule (names_are c.args.names.now))) c.args.selects.now in
    what_wire (rule_faults c.args.rule) c.args.begin c.args.word.now c.args.what.now c.in-Wire.number c.in-Wire.layout steps c.wire_target.result c.in-Wire.is (c.wire_target.ensures (rule_faults c.args.rule) steps c.select_chain.ensures)
