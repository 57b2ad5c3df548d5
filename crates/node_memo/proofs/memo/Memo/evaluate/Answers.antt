use Rattle.std.proofs.Common.{◌≤◌, length, arith}
use Rattle.node_memo.proofs.Downs.{down-memo}
use Rattle.node_memo.proofs.memo.Memo.evaluate.Goals as goal

pub returns-clause-memo : goal.returns-clause-memo
returns-clause-memo c =
    let none : length c.path.self.path.items ≤ 0 = omega arith in
    down-memo c.args.arena.now c.args.self.now c.path.self c.requires.memo c.path.invariant.kept c.path.invariant.down none
