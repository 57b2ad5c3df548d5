use Rattle.std.proofs.Common.{◌≡◌, [], length}
use Rattle.std.specs.List.{All}
use Rattle.sat_state.specs.Watch.{rows}
use Rattle.sat_state.proofs.lists.empty_lists.Given as goal

abbrev pub invariant-loop : goal.invariant-loop
invariant-loop l = record {
  count : length (rows l.lists.items) ≡ l.counter;
  empty : All (λ row. row ≡ []) (rows l.lists.items);
}
