use Rattle.svex_shape.specs.declared.shape.Shape.TheVariants.{Slice}
use Rattle.svex_rewrite.specs.Meaning.{Becomes, IsOver}
use Rattle.svex_rewrite.proofs.parts.rewrite_slice.Given as goal

abbrev pub invariant-down : goal.invariant-down
invariant-down l = record {
  over : IsOver l.arena (Slice l.place.of l.place.lo l.width);
  becomes : Becomes l.arena (Slice l.fn.of l.fn.lo l.width) (Slice l.place.of l.place.lo l.width);
}

abbrev pub decreases-down : goal.decreases-down
decreases-down l = l.place.of
