use Rattle.std.proofs.Common.{◌≡◌, ◌++◌, take}
use Rattle.svtv_induct.specs.States.{state_vars}
use Rattle.svtv_induct.proofs.wider.add_wires.Given as goal

abbrev pub invariant-wires : goal.invariant-wires
invariant-wires l = l.vars ≡ l.fn.vars ++ state_vars (take l.at l.wires)
