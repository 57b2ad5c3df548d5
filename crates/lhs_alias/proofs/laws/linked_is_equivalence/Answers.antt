use Rattle.lhs_alias.specs.Pairs.{itself}
use Rattle.lhs_alias.proofs.Chains.{linked-sym, linked-trans}
use Rattle.lhs_alias.proofs.laws.linked_is_equivalence.Goals as goal

pub returns-clause-reflexive : goal.returns-clause-reflexive
returns-clause-reflexive c = λ pairs b. itself

pub returns-clause-symmetric : goal.returns-clause-symmetric
returns-clause-symmetric c = λ pairs b d link. linked-sym pairs link

pub returns-clause-transitive : goal.returns-clause-transitive
returns-clause-transitive c = λ pairs b d e link more. linked-trans pairs link more
