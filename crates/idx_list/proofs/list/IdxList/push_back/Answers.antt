use Rattle.std.proofs.Common.{◌++◌, ◌∷◌, [], ap, ◌∙◌}
use Rattle.std.specs.Vec.{with_items}
use Rattle.std.proofs.lemmas.List.{with_items_is}
use Rattle.idx_list.specs.Order.{Order}
use Rattle.idx_list.proofs.Rings.{closed-ring, closed-order, order-of}
use Rattle.idx_list.proofs.list.IdxList.push_back.Goals as goal

pub invariant_of-self : goal.invariant_of-self
invariant_of-self c =
    let links = c.self.inside.links in
    let new = c.put_back.new.links in
    closed-ring (with_items links new).items new _ (with_items_is links new (c.put_back.auto.links ∙ c.deref_mut.ensures.len)) c.put_back.ensures

pub returns : goal.returns
returns c =
    let links = c.self.inside.links in
    let new = c.put_back.new.links in
    let changed : Order → Order = λ order. record { room = order.room; items = order.items ++ c.args.x ∷ [] } in
    closed-order (with_items links new).items new c.deref_mut.result.now _ (with_items_is links new (c.put_back.auto.links ∙ c.deref_mut.ensures.len)) c.put_back.auto.links c.put_back.ensures
    ∙ ap (λ l. changed (order-of l)) c.deref_mut.ensures.value
    ∙ ap changed c.self.view_is
