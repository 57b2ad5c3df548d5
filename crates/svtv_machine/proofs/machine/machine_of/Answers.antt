use Rattle.design_loops.proofs.Wide.{wide-groups-loop}
use Rattle.svtv_machine.proofs.Making.{has_design, has_sets, is_narrow, own_machine}
use Rattle.svtv_machine.proofs.machine.machine_of.Goals as goal

pub returns-clause-machine : goal.returns-clause-machine
returns-clause-machine c = own_machine c.args.flat c.in_ok-sets.sets c.make_fsm.result c.make_fsm.ensures.sets c.make_fsm.ensures.machine

pub returns-clause-design : goal.returns-clause-design
returns-clause-design c = has_design c.args.flat c.in_ok-sets.sets c.make_fsm.result c.requires.flat c.make_fsm.ensures.wires c.make_fsm.ensures.sets c.make_fsm.ensures.machine

pub returns-clause-sets : goal.returns-clause-sets
returns-clause-sets c = has_sets c.args.flat c.in_ok-sets.sets c.args.bound.now.overs c.args.bound.now.phases c.make_fsm.result c.make_fsm.ensures.sets c.in_ok-sets.ensures.all

pub returns-clause-wide : goal.returns-clause-wide
returns-clause-wide c = λ bits is d elaborated. wide-groups-loop d c.args.flat c.in_ok-sets.sets bits c.len.ensures.arena elaborated (c.make_fsm.ensures.wide bits is)

pub returns-clause-first : goal.returns-clause-first
returns-clause-first c = λ bits is.
    let own = c.in_ok-sets.ensures in
    (c.in_ok-sets.sets, record { all = own.all; once = own.once; only = own.only; order = own.order }, c.make_fsm.ensures.wide bits is)

pub returns-clause-narrow : goal.returns-clause-narrow
returns-clause-narrow c =
    let own = c.in_ok-sets.ensures in
    is_narrow c.args.flat c.in_ok-sets.sets c.args.bound.now.overs c.args.bound.now.phases c.make_fsm.result (record { all = own.all; once = own.once; only = own.only; order = own.order }) c.make_fsm.ensures.narrow
