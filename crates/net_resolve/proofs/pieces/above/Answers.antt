use Rattle.std.proofs.lemmas.Result.{IfOk-from_err}
use Rattle.svex_shape.specs.declared.shape.Bin.TheVariants.{Concat}
use Rattle.net_resolve.proofs.Pairing.{pair_made}
use Rattle.net_resolve.proofs.pieces.above.Goals as goal

pub returns-clause-pair : goal.returns-clause-pair
returns-clause-pair c =
    pair_made Concat c.args.arena.now c.intern.new.self c.args.high c.args.low c.in_ok-node.node c.len.ensures.arena c.in_ok-node.ensures.arena c.in_ok-node.ensures.extends c.requires.high c.requires.low
    c.in_ok-node.ensures.is.0 c.in_ok-node.ensures.is.1

pub returns-in_err-node-clause-pair : goal.returns-in_err-node-clause-pair
returns-in_err-node-clause-pair c = IfOk-from_err _ _ c.from_residual.ensures.0
