use Rattle.std.proofs.Common.{◌≡◌, map, take, true, Some}
use Rattle.std.specs.Prelude.{is_some}
use Rattle.std.specs.List.{list_all}
use Rattle.svtv_table.proofs.values.all_given.Given as goal

abbrev pub invariant-loop-value : goal.invariant-loop-value
invariant-loop-value l = record {
  values : map (λ value. Some value) l.given.items ≡ take l.value-index l.values;
  all : list_all is_some (take l.value-index l.values) ≡ true;
}
