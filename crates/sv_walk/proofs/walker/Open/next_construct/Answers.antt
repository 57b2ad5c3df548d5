use Rattle.sv_hierarchy.specs.Scopes.{next_construct}
use Rattle.sv_walk.specs.Walks.{state_of}
use Rattle.sv_walk.proofs.Declaring.{construct_counted, leads}
use Rattle.sv_walk.proofs.walker.Open.next_construct.Goals as goal

pub returns : goal.returns
returns c = λ w.
    leads (next_construct (state_of w c.args.self.now)) w (record c.args.self.now { constructs = c.push.new.self }) tt
    (construct_counted w c.args.self.now c.push.new.self c.args.place c.in_ok-push.ensures.items)
