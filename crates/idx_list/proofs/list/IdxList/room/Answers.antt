use Rattle.std.proofs.Common.{◌-◌, ap, ◌∙◌}
use Rattle.idx_list.specs.Order.{Order}
use Rattle.idx_list.proofs.list.IdxList.room.Goals as goal

pub returns : goal.returns
returns c =
    ap (λ n. n - 1) (c.len.ensures ∙ c.self.inside.links.ok.0) ∙ ap (λ (order : Order). order.room) c.self.view_is
