use Rattle.std.proofs.Common.{map, drop}
use Rattle.sv_names.specs.Names.{constants_are}
use Rattle.sv_types.specs.Types.{IsAbove, pushed, whole_is}
use Rattle.sv_types.proofs.Labels.{Counts}
use Rattle.sv_types.proofs.enumerators.enumerators.Given as goal

abbrev pub invariant-labels : goal.invariant-labels
invariant-labels l = record {
  names : IsAbove l.fn.names l.names (map pushed l.declared);
  counts : Counts (constants_are l.fn.names) l.width l.signed l.all l.declared (whole_is l.next) (drop l.label-index l.all);
}
