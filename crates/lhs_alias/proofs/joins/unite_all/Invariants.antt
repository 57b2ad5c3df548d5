use Rattle.std.proofs.Common.{◌≡◌, ◌<◌, ◌^◌, length}
use Rattle.std.specs.Prelude.{All}
use Rattle.std.specs.List.{zip}
use Rattle.lhs_alias.specs.Segs.{lhs_bits}
use Rattle.lhs_alias.specs.Joined.{HasPlace, all_merged}
use Rattle.lhs_alias.proofs.joins.unite_all.Given as goal

abbrev pub invariant-loop-child : goal.invariant-loop-child
invariant-loop-child l = record {
  merged : all_merged l.starts l.forest (zip l.children l.parents) ≡ all_merged l.starts l.initial.forest (zip (lhs_bits l.fn.child) (lhs_bits l.fn.parent));
  fits : length l.forest < 2 ^ 64;
  child_places : All (HasPlace l.starts (length l.forest)) l.children;
  parent_places : All (HasPlace l.starts (length l.forest)) l.parents;
}

abbrev pub decreases-loop-child : goal.decreases-loop-child
decreases-loop-child l = length l.children
