use Rattle.std.proofs.Common.{◌≡◌}
use Rattle.sat_state.specs.Queue.{IsListed}
use Rattle.sat_state.proofs.queue.first_list.Given as goal

abbrev pub invariant-loop-var : goal.invariant-loop-var
invariant-loop-var l = record {
  room : l.list.room ≡ l.vars;
  listed : IsListed l.var l.list.items l.stamps;
}
