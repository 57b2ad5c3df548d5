use Rattle.std.proofs.Common.{◌≡◌, [], length}
use Rattle.std.specs.Prelude.{All}
use Rattle.event_nets.specs.Needs.{gift_rows}
use Rattle.net_resolve.proofs.classes.no_gifts.Given as goal

abbrev pub invariant-loop : goal.invariant-loop
invariant-loop l = record {
  len : length l.rows.items ≡ l.counter;
  none : All (λ row. row ≡ []) (gift_rows l.rows.items);
}
