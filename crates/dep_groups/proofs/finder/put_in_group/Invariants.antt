use Rattle.std.proofs.Common.{◌≡◌, length, drop}
use Rattle.dep_groups.specs.Searches.{grouping_from}
use Rattle.dep_groups.proofs.finder.put_in_group.Given as goal

abbrev pub invariant-members : goal.invariant-members
invariant-members l = record {
  size : length l.stages.items ≡ length l.initial.stages.items;
  rest : grouping_from l.group (drop l.member-index l.members) l.stages.items ≡ grouping_from l.group l.members l.initial.stages.items;
}
