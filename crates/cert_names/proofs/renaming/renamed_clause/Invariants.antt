use Rattle.std.proofs.Common.{take}
use Rattle.cert_names.specs.Names.{AreRenamed}
use Rattle.cert_names.proofs.renaming.renamed_clause.Given as goal

abbrev pub invariant-loop-d : goal.invariant-loop-d
invariant-loop-d l = AreRenamed l.names (take l.d-index l.clause) l.new.items
