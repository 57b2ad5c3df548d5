use Rattle.sv_meaning.proofs.Finding.{last_is_found, others_stay}
use Rattle.sv_meaning.proofs.names_are_last_declared.Goals as goal

pub returns-clause-last : goal.returns-clause-last
returns-clause-last c = last_is_found

pub returns-clause-others : goal.returns-clause-others
returns-clause-others c = others_stay
