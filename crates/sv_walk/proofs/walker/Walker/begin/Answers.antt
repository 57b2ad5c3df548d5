use Rattle.std.proofs.lemmas.Result.{IfOk-from_err}
use Rattle.sv_names.specs.Kinds.{entries_are}
use Rattle.sv_walk.proofs.WalkingBlocks.{block_begun}
use Rattle.sv_walk.proofs.walker.Walker.begin.Goals as goal

pub returns : goal.returns
returns c =
    block_begun c.args.self.now c.push.new.self c.args.current.now c.args.part.now (entries_are c.args.nets) c.in_ok-block.block c.len-level.result c.bare.result c.in_ok-push.ensures c.in_ok-block.ensures c.len-level.ensures c.bare.ensures

pub returns-in_err-block : goal.returns-in_err-block
returns-in_err-block c = IfOk-from_err _ _ c.from_residual.ensures.0

pub returns-in_err-push : goal.returns-in_err-push
returns-in_err-push c = IfOk-from_err _ _ c.from_residual-in_err-push.ensures.0
