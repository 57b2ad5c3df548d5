use Rattle.net_resolve.proofs.Growing.{resolved_stays, solves_stay}
use Rattle.net_resolve.proofs.laws.equations_stay.Goals as goal

pub returns-clause-resolved : goal.returns-clause-resolved
returns-clause-resolved c = resolved_stays

pub returns-clause-solves : goal.returns-clause-solves
returns-clause-solves c = solves_stay
