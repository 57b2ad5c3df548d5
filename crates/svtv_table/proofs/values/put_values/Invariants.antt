use Rattle.std.proofs.Common.{◌≡◌, map, take, drop}
use Rattle.svtv_table.specs.Faults.{at_each}
use Rattle.svtv_table.specs.Fields.{fields_in}
use Rattle.svtv_table.specs.Valuing.{given_value, record_faults}
use Rattle.svtv_table.proofs.values.put_values.Given as goal

abbrev pub invariant-loop-at : goal.invariant-loop-at
invariant-loop-at l = record {
  values : l.values.items ≡ map (given_value (take l.at (map fields_in l.records))) l.vars;
  fine : at_each (record_faults l.vars (map fields_in l.records)) l.at (drop l.at (map fields_in l.records)) ≡ at_each (record_faults l.vars (map fields_in l.records)) 0 (map fields_in l.records);
}
