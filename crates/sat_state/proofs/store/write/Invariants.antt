use Rattle.std.proofs.Common.{◌≡◌, ◌++◌, take}
use Rattle.sat_state.proofs.store.write.Given as goal

abbrev pub invariant-loop-d : goal.invariant-loop-d
invariant-loop-d l = l.lits.items ≡ l.fn.lits.items ++ take l.d-index l.clause
