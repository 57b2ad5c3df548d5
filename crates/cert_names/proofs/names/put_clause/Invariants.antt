use Rattle.std.proofs.Common.{◌≡◌, ◌++◌, take}
use Rattle.cert_names.specs.Names.{names_in}
use Rattle.cert_names.proofs.names.put_clause.Given as goal

abbrev pub invariant-loop-d : goal.invariant-loop-d
invariant-loop-d l = l.names.items ≡ l.fn.names.items ++ names_in (take l.d-index l.clause)
