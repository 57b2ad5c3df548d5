use Rattle.std.proofs.Common.{◌≡◌, ◌-◌, ◌<◌, length, get_or}
use Rattle.node_memo.specs.Walks.{IsDown, KeepsUp}
use Rattle.node_memo.proofs.memo.Memo.go_down.Given as goal

abbrev pub invariant-down : goal.invariant-down
invariant-down l = record {
  down : IsDown l.arena l.self;
  some : 0 < length l.self.path.items;
  first : get_or l.self.path.items 0 0 ≡ get_or l.fn.self.path.items 0 0;
  last : l.node ≡ get_or l.self.path.items (length l.self.path.items - 1) 0;
  values : l.self.values ≡ l.fn.self.values;
  fresh : l.self.fresh ≡ l.fn.self.fresh;
  kept : KeepsUp l.fn.self l.self;
}

abbrev pub decreases-down : goal.decreases-down
decreases-down l = l.node
