use Rattle.std.proofs.Common.{◌≡◌, List, take, drop}
use Rattle.sv_meaning.specs.Layouts.{NamedSignal}
use Rattle.sv_names.specs.Names.{names_are, stack_of, loops_of}
use Rattle.sv_actions.specs.Texts.{target_signals, arm_signals, of_each}
use Rattle.sv_actions.specs.Typing.{IsActed}
use Rattle.sv_actions.specs.Listing.{AreArms, in_order, all_deeds, turn_deed, all_arms, rest_of, Within, ActedAims, ArmsAim}
use Rattle.sv_actions.proofs.statements.+stmt.Given as goal

abbrev pub invariant-typed_all-parts : goal.invariant-typed_all-parts
invariant-typed_all-parts l = record {
  frames : stack_of l.names ≡ stack_of l.fn.names;
  loops : loops_of l.names ≡ loops_of l.fn.names;
  aims : (named : List NamedSignal) → Within (of_each (target_signals (names_are l.fn.names)) l.all) named → ActedAims named l.found;
  done : IsActed (all_deeds (names_are l.fn.names) (take l.part-index l.all)) l.made l.found;
}

abbrev pub invariant-typed_arms-arms : goal.invariant-typed_arms-arms
invariant-typed_arms-arms l = record {
  frames : stack_of l.names ≡ stack_of l.fn.names;
  loops : loops_of l.names ≡ loops_of l.fn.names;
  aim : (named : List NamedSignal) → Within (of_each (arm_signals (names_are l.fn.names)) l.all) named → ArmsAim named l.found;
  done : AreArms (all_arms (names_are l.fn.names) (take l.arm-index l.all)) l.made l.found;
}

abbrev pub invariant-typed_rest-arms : goal.invariant-typed_rest-arms
invariant-typed_rest-arms l = record {
  frames : stack_of l.names ≡ stack_of l.fn.names;
  loops : loops_of l.names ≡ loops_of l.fn.names;
  rest : rest_of (names_are l.fn.names) l.all ≡ rest_of (names_are l.fn.names) (drop l.arm-index l.all);
}

abbrev pub invariant-typed_turns-turns : goal.invariant-typed_turns-turns
invariant-typed_turns-turns l = record {
  frames : stack_of l.names ≡ stack_of l.fn.names;
  loops : loops_of l.names ≡ loops_of l.fn.names;
  aims : (named : List NamedSignal) → Within (target_signals (names_are l.fn.names) l.body) named → ActedAims named l.found;
  done : IsActed (in_order (turn_deed (names_are l.fn.names) l.place l.variable.text l.body) (take l.bits-index l.values)) l.made l.found;
}
