use Rattle.std.proofs.Common.{◌≡◌, ◌++◌, All, take}
use Rattle.sv_names.specs.Names.{names_are}
use Rattle.sv_actions.specs.Texts.{root_signals, of_each}
use Rattle.sv_blocks.specs.Declaring.{HasBits, wires_are}
use Rattle.sv_blocks.proofs.wires.+lvalue.Given as goal

abbrev pub invariant-all_target_wires-parts : goal.invariant-all_target_wires-parts
invariant-all_target_wires-parts l = record {
  is : wires_are l.wires.items ≡ wires_are l.fn.wires.items ++ of_each (root_signals (names_are l.names)) (take l.part-index l.parts);
  bits : All HasBits l.wires.items;
}
