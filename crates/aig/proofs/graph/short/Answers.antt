use Rattle.std.proofs.Common.{◌≡◌, length, get_or, rules, arith}
use Rattle.aig.proofs.Summing.{empty_is, one_is}
use Rattle.aig.proofs.graph.short.Goals as goal

pub returns-then-is_empty-clause-value : goal.returns-then-is_empty-clause-value
returns-then-is_empty-clause-value c = λ v bottom.
    let none : length c.args.form.now.nodes.items ≡ 0 = search rules in
    empty_is v _ c.args.form.now.odd c.args.form.now.nodes.items c.constant.ensures none bottom

pub returns-then-node-count-clause-value : goal.returns-then-node-count-clause-value
returns-then-node-count-clause-value c = λ v bottom.
    let one : length c.args.form.now.nodes.items ≡ 1 = omega (arith, c.if-len-eq1.true) in
    let node : get_or c.args.form.now.nodes.items 0 c.index-node.result.now ≡ c.index-node.result.now = search rules in
    one_is v _ c.args.form.now.odd c.args.form.now.nodes.items one node
