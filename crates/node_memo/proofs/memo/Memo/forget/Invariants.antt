use Rattle.std.proofs.Common.{◌≡◌, ◌+◌, ◌-◌, length}
use Rattle.std.specs.Prelude.{vec_capacity}
use Rattle.node_memo.specs.Walks.{fresh_marks}
use Rattle.node_memo.proofs.Ups.{IsUp}
use Rattle.node_memo.proofs.memo.Memo.forget.Given as goal

abbrev pub invariant-up : goal.invariant-up
invariant-up l = record {
  values : l.self.values ≡ l.fn.self.values;
  parents : l.self.parents ≡ l.fn.self.parents;
  path : l.self.path ≡ l.fn.self.path;
  room : vec_capacity l.self.stale ≡ vec_capacity l.fn.self.stale;
  up : IsUp l.arena l.fn.self.fresh.items l.node l.self.fresh.items l.self.stale.items l.at;
}

abbrev pub decreases-up : goal.decreases-up
decreases-up l = fresh_marks l.self.fresh.items + length l.self.stale.items - l.at
