use Rattle.std.proofs.lemmas.Result.{IfOk-from_err}
use Rattle.sv_blocks.proofs.Parting.{reads_moving}
use Rattle.sv_blocks.proofs.parts.read_part.Goals as goal

pub returns-in_ok-node-in-Moving-clause-ok : goal.returns-in_ok-node-in-Moving-clause-ok
returns-in_ok-node-in-Moving-clause-ok c = reads_moving _ _ _ _ _ _ _ _ c.in-Moving.is c.requires.wide c.in_ok-node-in-Moving.ensures.ok

pub returns-in_err-node-in-At-clause-ok : goal.returns-in_err-node-in-At-clause-ok
returns-in_err-node-in-At-clause-ok c = IfOk-from_err _ _ c.from_residual.ensures.0

pub returns-in_err-node-in-Moving-clause-ok : goal.returns-in_err-node-in-Moving-clause-ok
returns-in_err-node-in-Moving-clause-ok c = IfOk-from_err _ _ c.from_residual-in_err-node-in-Moving.ensures.0
