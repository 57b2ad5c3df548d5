use Rattle.std.proofs.lemmas.Result.{IfOk-from_err}
use Rattle.aig.proofs.Values.{always_from}
use Rattle.aig_words.proofs.Grown.{some_node}
use Rattle.aig_words.proofs.orders.lt.Goals as goal

pub is_less-requires-clause-node : goal.is_less-requires-clause-node
is_less-requires-clause-node c = some_node c.args.aig.now c.args.a.now c.requires.some c.requires.a_in

pub returns-clause-value : goal.returns-clause-value
returns-clause-value c = always_from _ _ (c.in_ok-less.ensures.graph c.requires.some) c.in_ok-less.ensures.value

pub returns-in_err-less-clause-value : goal.returns-in_err-less-clause-value
returns-in_err-less-clause-value c = IfOk-from_err _ _ c.from_residual.ensures.0

pub returns-in_err-less-clause-within : goal.returns-in_err-less-clause-within
returns-in_err-less-clause-within c = IfOk-from_err _ _ c.from_residual.ensures.0
