use Rattle.std.proofs.Common.{◌≡◌, map, take, []}
use Rattle.svtv_table.specs.Valuing.{given_value}
use Rattle.svtv_table.proofs.values.no_values.Given as goal

abbrev pub invariant-loop-var : goal.invariant-loop-var
invariant-loop-var l = l.values.items ≡ map (given_value []) (take l._var-index l.vars)
