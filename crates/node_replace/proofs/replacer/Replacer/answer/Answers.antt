use Rattle.std.proofs.Common.{arith}
use Rattle.std.proofs.lemmas.Result.{on_ok_weaker}
use Rattle.node_replace.specs.Walks.{answer_at}
use Rattle.node_replace.proofs.Walking.{shape_over, children_there, waits_within, answered_as}
use Rattle.node_replace.proofs.replacer.Replacer.answer.Goals as goal

pub over_children-requires-clause-over : goal.over_children-requires-clause-over
over_children-requires-clause-over c =
    let m = c.args.self.now in
    let lt = waits_within c.args.arena.now m c.args.node c.requires.walk c.requires.waits in
    let w = c.requires.walk.within in
    shape_over c.args.arena.now (answer_at m) c.args.shape.now c.requires.arena (children_there c.args.arena.now m c.args.node c.args.shape.now c.requires.walk c.requires.waits c.requires.children)
    c.args.node (omega (arith, lt, w)) c.requires.is

pub returns-clause-walk : goal.returns-clause-walk
returns-clause-walk c =
    let e = c.in_ok-answer.ensures in
    on_ok_weaker c.leave.result
    (λ l. (answered_as c.args.arena.now c.over_children.new.arena c.args.self.now c.leave.new.self c.args.node c.in_ok-answer.answer c.args.shape.now c.in_ok-answer.loose c.requires.is e.loose
    c.requires.arena c.requires.walk c.requires.waits e.extends c.requires.other c.requires.children e.makes l).0) c.leave.ensures

pub returns-clause-goes : goal.returns-clause-goes
returns-clause-goes c =
    let e = c.in_ok-answer.ensures in
    on_ok_weaker c.leave.result
    (λ l. (answered_as c.args.arena.now c.over_children.new.arena c.args.self.now c.leave.new.self c.args.node c.in_ok-answer.answer c.args.shape.now c.in_ok-answer.loose c.requires.is e.loose
    c.requires.arena c.requires.walk c.requires.waits e.extends c.requires.other c.requires.children e.makes l).1) c.leave.ensures
