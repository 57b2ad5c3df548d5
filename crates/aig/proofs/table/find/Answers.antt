use Rattle.std.proofs.Common.{rules}
use Rattle.aig.proofs.Finding.{none_found}
use Rattle.aig.proofs.table.find.Goals as goal

pub returns-clause-none : goal.returns-clause-none
returns-clause-none c = none_found _ _ _ _ _ c.find.result _ c.requires c.hash.ensures (λ k within out same. search rules) c.find.ensures.none
