use Rattle.svtv_runs.specs.Runs.{asks_of}
use Rattle.svtv_runs.specs.Leasts.{all_unknown}
use Rattle.svtv_least.proofs.Fitting.{apart}
use Rattle.svtv_least.proofs.Phases.{least_begins}
use Rattle.svtv_least.proofs.runner.Runner.run.Goals as goal

pub begin-requires : goal.begin-requires
begin-requires c = (c.args.flat.now, c.args.bound.now, c.requires.serves)

pub run_phases-requires-clause-serves : goal.run_phases-requires-clause-serves
run_phases-requires-clause-serves c = c.begin.ensures.serves c.args.flat.now c.args.bound.now c.requires.serves

pub returns-clause-least : goal.returns-clause-least
returns-clause-least c d e r h =
    let bound = c.args.bound.now in
    let choice = c.args.choice.now in
    c.run_phases.ensures.least all_unknown (c.begin.ensures.stands c.args.flat.now bound c.requires.serves choice) d e r
    (least_begins d (asks_of choice bound) bound.phases r (apart c.args.flat.now.wires bound c.requires.bound choice) h)
