use Rattle.std.proofs.Common.{◌≢◌, ◌<◌, subst}
use Rattle.std.specs.Prelude.{All, AllPairs}
use Rattle.idx_list.specs.Order.{Order}
use Rattle.idx_list.proofs.Chains.{AllPairs-from_distinct, All-from_below}
use Rattle.idx_list.proofs.list.IdxList.items_are_distinct.Goals as goal

pub returns-clause-distinct : goal.returns-clause-distinct
returns-clause-distinct c =
    let P : Order → Type 0 = λ order. AllPairs ◌≢◌ order.items in
    subst P c.self.view_is (AllPairs-from_distinct _ c.self.invariant.distinct)

pub returns-clause-below : goal.returns-clause-below
returns-clause-below c =
    let P : Order → Type 0 = λ order. All (λ x. x < order.room) order.items in
    subst P c.self.view_is (All-from_below _ _ c.self.invariant.below)
