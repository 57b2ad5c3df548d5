use Rattle.std.proofs.Common.{sym}
use Rattle.sv_blocks.proofs.Assigning.{width_zero}
use Rattle.sv_blocks.proofs.assigns.total.Goals as goal

pub targets-init : goal.targets-init
targets-init c = sym (width_zero c.args.targets.now)
