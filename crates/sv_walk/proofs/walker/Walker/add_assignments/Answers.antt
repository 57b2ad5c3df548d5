use Rattle.sv_hierarchy.specs.Scopes.{add_assignment, walk_all}
use Rattle.sv_walk.specs.Walks.{state_of}
use Rattle.sv_walk.proofs.Walking.{ended, ends, walk_next, walk_none, walk_refused}
use Rattle.sv_walk.proofs.walker.Walker.add_assignments.Goals as goal

pub returns-in_err-add_work : goal.returns-in_err-add_work
returns-in_err-add_work c =
    let t = state_of c.add_work.new.self c.args.current.now in
    walk_refused add_assignment c.args.list.now c.list.pair-index c.pair-item.result (walk_all add_assignment c.args.list.now (state_of c.args.self.now c.args.current.now)) (state_of c.list.self c.args.current.now) t t
    c.add_work.result c.in_err-add_work.field-0.0 c.from_residual.result c.list-test.true c.pair-item.is c.list.invariant c.in_err-add_work.was c.add_work.ensures c.from_residual.ensures.1

pub list-preserved : goal.list-preserved
list-preserved c =
    let t = state_of c.add_work.new.self c.args.current.now in
    walk_next add_assignment c.args.list.now c.list.pair-index c.pair-item.result (walk_all add_assignment c.args.list.now (state_of c.args.self.now c.args.current.now)) (state_of c.list.self c.args.current.now) t
    c.list-test.true c.pair-item.is c.list.invariant (ended t (add_assignment c.pair-item.result (state_of c.list.self c.args.current.now)) (tt {0}) c.in_ok-add_work.ensures)

pub returns : goal.returns
returns c =
    let t = state_of c.list.self c.args.current.now in
    ends t (walk_all add_assignment c.args.list.now (state_of c.args.self.now c.args.current.now)) tt
    (walk_none add_assignment c.args.list.now c.list.pair-index (walk_all add_assignment c.args.list.now (state_of c.args.self.now c.args.current.now)) t c.list-test.false c.list.invariant)
