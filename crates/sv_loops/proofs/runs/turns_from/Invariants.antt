use Rattle.std.proofs.Common.{◌≡◌, ◌≤◌, ◌-◌, length}
use Rattle.sv_meaning.specs.Deeds.{turns_from, most_turns}
use Rattle.sv_names.specs.Names.{constants_are, stack_of, loops_of}
use Rattle.sv_loops.proofs.Chains.{behind, if_taken}
use Rattle.sv_loops.proofs.runs.turns_from.Given as goal

abbrev pub invariant-turns : goal.invariant-turns
invariant-turns l = record {
  wide : length l.bits ≡ 32;
  most : length l.values ≤ 4096;
  loops : loops_of l.names ≡ loops_of l.fn.names;
  frames : stack_of l.names ≡ stack_of l.fn.names;
  rest : turns_from most_turns l.place (constants_are l.fn.names) l.variable.text l.test l.next l.fn.first ≡ behind l.values (if_taken l.taken (4096 - length l.values) l.place (constants_are l.fn.names) l.variable.text l.test l.next l.bits);
}

abbrev pub decreases-turns : goal.decreases-turns
decreases-turns l = 4096 - length l.values
