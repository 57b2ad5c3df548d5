use Rattle.net_resolve.proofs.Growing.{flat_stays, settles_stay}
use Rattle.net_resolve.proofs.laws.designs_stay.Goals as goal

pub returns-clause-sound : goal.returns-clause-sound
returns-clause-sound c = flat_stays

pub returns-clause-settles : goal.returns-clause-settles
returns-clause-settles c = settles_stay
