use Rattle.sv_types.proofs.Nested.{Deepens}
use Rattle.sv_types.proofs.depth.depth_over.Given as goal

abbrev pub invariant-fields : goal.invariant-fields
invariant-fields l = Deepens l.fields l.field-index l.found
