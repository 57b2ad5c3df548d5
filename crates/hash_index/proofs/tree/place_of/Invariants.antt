use Rattle.std.proofs.Common.{◌≡◌, ◌≤◌, ◌%◌, length}
use Rattle.hash_index.specs.declared.tree.Place.TheVariants.{Root}
use Rattle.hash_index.specs.Tree.{link_at, IsAt, Reaches, Leads, left}
use Rattle.hash_index.proofs.tree.place_of.Given as goal

abbrev pub invariant-loop-at : goal.invariant-loop-at
invariant-loop-at l = record {
  within : l.at ≤ length l.low;
  stands : IsAt l.low l.high l.roots l.place;
  here : link_at l.low l.high l.roots l.place ≡ l.at;
  reaches : Reaches (link_at l.low l.high l.roots) l.rest l.at l.wanted;
  leads : Leads (length l.low) (link_at l.low l.high l.roots) l.hash (Root (l.hash % length l.roots)) l.rest l.place;
}

abbrev pub decreases-loop-at : goal.decreases-loop-at
decreases-loop-at l = left (length l.low) l.at
