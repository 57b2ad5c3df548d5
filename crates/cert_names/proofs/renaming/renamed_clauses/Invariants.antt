use Rattle.std.proofs.Common.{map, take}
use Rattle.std.specs.List.{AllZip}
use Rattle.cert_names.specs.Names.{AreRenamed}
use Rattle.cert_names.proofs.renaming.renamed_clauses.Given as goal

abbrev pub invariant-loop-clause : goal.invariant-loop-clause
invariant-loop-clause l = AllZip (AreRenamed l.names) (map (λ v. v.items) (take l.clause-index l.clauses)) (map (λ v. v.items) l.new.items)
