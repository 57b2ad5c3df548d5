use Rattle.settling.proofs.Events.{events_stay_below, events_raise, rest_is_least}
use Rattle.settling.proofs.events_reach_the_least_settling.Goals as goal

pub returns-clause-below : goal.returns-clause-below
returns-clause-below c = events_stay_below

pub returns-clause-raise : goal.returns-clause-raise
returns-clause-raise c = events_raise

pub returns-clause-rest : goal.returns-clause-rest
returns-clause-rest c = rest_is_least
