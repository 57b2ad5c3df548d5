use Rattle.sv_names.specs.Names.{names_are}
use Rattle.goal_text.proofs.Truths.{truth_stands}
use Rattle.goal_text.proofs.lowering.truth.Goals as goal

pub returns-in_ok-node-in-Ok-clause-truth : goal.returns-in_ok-node-in-Ok-clause-truth
returns-in_ok-node-in-Ok-clause-truth c =
    truth_stands (names_are c.args.names.now) c.args.expr.now c.args.arena.now c.truth_of.new.arena c.in-Ok.tree c.in_ok-node-in-Ok.node c.in-Ok.ensures.stands c.in_ok-node-in-Ok.ensures.ok
