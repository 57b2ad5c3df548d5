use Rattle.std.proofs.Common.{arith}
use Rattle.node_replace.proofs.Walking.{walk_enters, goes_enter, waits_within, path_lowest}
use Rattle.node_replace.proofs.replacer.Replacer.advance.Goals as goal

pub returns-in-Some-clause-walk : goal.returns-in-Some-clause-walk
returns-in-Some-clause-walk c =
    let m = c.args.self.now in
    let lower = c.in-Some.ensures.lower in
    let top = waits_within c.args.arena.now m c.args.node c.requires.walk c.requires.waits in
    walk_enters c.args.arena.now m c.enter.new.self c.in-Some.child c.requires.walk (omega (arith, lower, top))
    (λ i d lt. let low = path_lowest c.args.arena.now m c.args.node c.requires.walk c.requires.waits i d lt in omega (arith, low, lower)) c.in_ok-enter.ensures

pub returns-in-Some-clause-goes : goal.returns-in-Some-clause-goes
returns-in-Some-clause-goes c =
    let m = c.args.self.now in
    let lower = c.in-Some.ensures.lower in
    let top = waits_within c.args.arena.now m c.args.node c.requires.walk c.requires.waits in
    let marks = c.requires.walk.marks in
    goes_enter c.args.arena.now m c.enter.new.self c.args.node c.in-Some.child c.requires.arena c.requires.walk c.requires.waits (omega (arith, lower, top, marks)) c.in-Some.ensures.child c.in_ok-enter.ensures
