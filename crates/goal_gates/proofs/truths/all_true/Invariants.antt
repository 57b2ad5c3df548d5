use Rattle.std.proofs.Common.{◌≡◌, ◌*◌, take, true}
use Rattle.std.specs.List.{list_all}
use Rattle.aig.specs.Graph.{constant_lit}
use Rattle.goal_gates.specs.Gating.{GrowsBy, IsTruth, is_top}
use Rattle.goal_gates.proofs.truths.all_true.Given as goal

abbrev pub invariant-nodes : goal.invariant-nodes
invariant-nodes l = record {
  truth : IsTruth l.aig (λ inputs. list_all (is_top inputs l.fn.aig) (take l.part-index l.rails)) l.all;
  grew : GrowsBy (2 * l.part-index) l.fn.aig l.aig;
  none : l.part-index ≡ 0 → l.all ≡ constant_lit true;
}
