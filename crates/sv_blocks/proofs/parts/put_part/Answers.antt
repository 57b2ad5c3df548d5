use Rattle.std.proofs.lemmas.Result.{IfOk-from_err}
use Rattle.std.proofs.Common.{subst, sym}
use Rattle.svex_shape.specs.Shapes.{width_at}
use Rattle.sv_blocks.specs.Parts.{SpotIsWide}
use Rattle.sv_blocks.proofs.Parting.{puts_moving}
use Rattle.sv_blocks.proofs.parts.put_part.Goals as goal

pub returns-in_ok-node-in-Moving-clause-ok : goal.returns-in_ok-node-in-Moving-clause-ok
returns-in_ok-node-in-Moving-clause-ok c = puts_moving _ _ _ _ _ _ _ _ c.in-Moving.is c.in_ok-node-in-Moving.ensures.ok

pub moved-requires-clause-wide : goal.moved-requires-clause-wide
moved-requires-clause-wide c = sym (subst (λ s. SpotIsWide s (width_at c.args.arena.now c.args.part)) c.in-Moving.is c.requires.wide)

pub returns-in_err-node-in-At-clause-ok : goal.returns-in_err-node-in-At-clause-ok
returns-in_err-node-in-At-clause-ok c = IfOk-from_err _ _ c.from_residual.ensures.0

pub returns-in_err-node-in-Moving-clause-ok : goal.returns-in_err-node-in-Moving-clause-ok
returns-in_err-node-in-Moving-clause-ok c = IfOk-from_err _ _ c.from_residual-in_err-node-in-Moving.ensures.0
