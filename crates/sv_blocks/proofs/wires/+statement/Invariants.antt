use Rattle.std.proofs.Common.{◌≡◌, ◌++◌, All, take}
use Rattle.sv_names.specs.Names.{names_are}
use Rattle.sv_actions.specs.Texts.{target_signals, arm_signals, of_each}
use Rattle.sv_blocks.specs.Declaring.{HasBits, wires_are}
use Rattle.sv_blocks.proofs.wires.+statement.Given as goal

abbrev pub invariant-all_stmt_wires-parts : goal.invariant-all_stmt_wires-parts
invariant-all_stmt_wires-parts l = record {
  is : wires_are l.wires.items ≡ wires_are l.fn.wires.items ++ of_each (target_signals (names_are l.names)) (take l.part-index l.all);
  bits : All HasBits l.wires.items;
}

abbrev pub invariant-arms_wires-parts : goal.invariant-arms_wires-parts
invariant-arms_wires-parts l = record {
  is : wires_are l.wires.items ≡ wires_are l.fn.wires.items ++ of_each (arm_signals (names_are l.names)) (take l.part-index l.arms);
  bits : All HasBits l.wires.items;
}
