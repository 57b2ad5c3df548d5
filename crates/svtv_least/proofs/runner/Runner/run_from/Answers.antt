use Rattle.event_sim.specs.Sims.{store_of}
use Rattle.svtv_least.proofs.runner.Runner.run_from.Goals as goal

pub begin_at-requires : goal.begin_at-requires
begin_at-requires c = (c.args.flat.now, c.args.bound.now, c.requires.serves, c.requires.state)

pub run_phases-requires-clause-serves : goal.run_phases-requires-clause-serves
run_phases-requires-clause-serves c = c.begin_at.ensures.serves c.args.flat.now c.args.bound.now c.requires.serves

pub returns-clause-least : goal.returns-clause-least
returns-clause-least c = c.run_phases.ensures.least (store_of c.args.state.now) (c.begin_at.ensures.stands c.args.flat.now c.args.bound.now c.args.choice.now)
