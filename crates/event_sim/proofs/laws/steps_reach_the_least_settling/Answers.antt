use Rattle.event_sim.proofs.Resting.{below-settlings, steps-raise, few-change, rest-is_least}
use Rattle.event_sim.proofs.laws.steps_reach_the_least_settling.Goals as goal

pub returns-clause-below : goal.returns-clause-below
returns-clause-below c = below-settlings c.args.flat.now c.len.ensures.arena c.requires

pub returns-clause-raise : goal.returns-clause-raise
returns-clause-raise c = steps-raise c.args.flat.now c.len.ensures.arena c.requires

pub returns-clause-few : goal.returns-clause-few
returns-clause-few c = few-change c.args.flat.now c.len.ensures.arena c.requires

pub returns-clause-rest : goal.returns-clause-rest
returns-clause-rest c = rest-is_least c.args.flat.now c.len.ensures.arena c.requires
