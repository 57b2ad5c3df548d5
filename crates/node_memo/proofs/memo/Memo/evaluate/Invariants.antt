use Rattle.std.proofs.Common.{◌≡◌, ◌<◌, ◌⊎◌, true, length, get_or}
use Rattle.svex_shape.specs.Values.{read}
use Rattle.node_memo.specs.Memos.{HasFresh, StayFresh, is_fresh}
use Rattle.node_memo.specs.Walks.{IsDown, KeepsUp, stale_marks}
use Rattle.node_memo.proofs.memo.Memo.evaluate.Given as goal

abbrev pub invariant-path : goal.invariant-path
invariant-path l = record {
  down : IsDown l.arena l.self;
  right : HasFresh (read l.env) l.arena l.self;
  stay : StayFresh l.fn.self l.self;
  kept : KeepsUp l.fn.self l.self;
  has : (is_fresh l.self.fresh.items l.node ≡ true) ⊎ ((0 < length l.self.path.items) × (get_or l.self.path.items 0 0 ≡ l.node));
}

abbrev pub decreases-path : goal.decreases-path
decreases-path l = stale_marks l.self.fresh.items
