use Rattle.std.proofs.Common.{◌≡◌, length}
use Rattle.std.specs.Vec.{vec_capacity}
use Rattle.refute_check.specs.Trail.{IsTracked}
use Rattle.refute_check.proofs.marks.clear_trail.Given as goal

abbrev pub decreases-loop-var : goal.decreases-loop-var
decreases-loop-var l = length l.trail.items

abbrev pub invariant-loop-var : goal.invariant-loop-var
invariant-loop-var l = record {
  width : length l.values ≡ length l.fn.values;
  tracked : IsTracked l.values l.trail.items (vec_capacity l.trail);
}
