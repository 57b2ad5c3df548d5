use Rattle.std.proofs.Common.{◌≡◌, ◌++◌, map, take}
use Rattle.std.specs.List.{flat_map}
use Rattle.cert_names.specs.Names.{names_in}
use Rattle.cert_names.proofs.names.put_clauses.Given as goal

abbrev pub invariant-loop-clause : goal.invariant-loop-clause
invariant-loop-clause l = l.names.items ≡ l.fn.names.items ++ flat_map names_in (map (λ v. v.items) (take l.clause-index l.clauses))
