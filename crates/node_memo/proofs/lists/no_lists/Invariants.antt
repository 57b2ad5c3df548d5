use Rattle.std.proofs.Common.{◌≡◌, ℕ, [], length, get_or}
use Rattle.node_memo.specs.Memos.{rows_in}
use Rattle.node_memo.proofs.lists.no_lists.Given as goal

abbrev pub invariant-loop : goal.invariant-loop
invariant-loop l = record {
  len : length l.lists.items ≡ l.counter;
  none : (k : ℕ) → get_or (rows_in l.lists.items) k [] ≡ [];
}
