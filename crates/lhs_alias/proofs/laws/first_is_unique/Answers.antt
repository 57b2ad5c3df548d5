use Rattle.lhs_alias.proofs.Chains.{first-unique}
use Rattle.lhs_alias.proofs.laws.first_is_unique.Goals as goal

pub returns : goal.returns
returns c = first-unique
