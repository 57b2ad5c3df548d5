use Rattle.std.proofs.Common.{◌≡◌, map, take}
use Rattle.net_order.specs.Kept.{eq_groups}
use Rattle.net_order.proofs.groups.eq_groups.Given as goal

abbrev pub invariant-groups : goal.invariant-groups
invariant-groups l = map (λ g. g.members) l.groups.items ≡ eq_groups l.nodes (take l.group-index l.all)
