use Rattle.std.proofs.Common.{refl, ap}
use Rattle.sv_outside.specs.declared.refusal.TextErr.TheVariants.{No}
use Rattle.sv_stmt.proofs.Judging.{edge_fits, clock_wide}
use Rattle.sv_stmt.proofs.block.edge_in.Goals as goal

pub returns-then-layout-eq1 : goal.returns-then-layout-eq1
returns-then-layout-eq1 c = λ at s f. edge_fits at c.args.event.now c.in-Wire.number c.in-Wire.layout c.args.what.now _ s c.in-Wire.is f c.if-layout-eq1.true refl

pub returns-else-layout-eq1 : goal.returns-else-layout-eq1
returns-else-layout-eq1 c = λ at s f. clock_wide at c.args.event.now c.in-Wire.number c.in-Wire.layout c.args.what.now (No c.refusal.result) s c.in-Wire.is f c.if-layout-eq1.false (ap No c.refusal.ensures)
