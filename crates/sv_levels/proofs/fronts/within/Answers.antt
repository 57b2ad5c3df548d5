use Rattle.sv_levels.proofs.FrontsHeld.{within_as}
use Rattle.sv_levels.proofs.fronts.within.Goals as goal

pub returns : goal.returns
returns c = within_as c.args.front c.new.result c.in_ok-around.around c.args.around.now c.new.ensures c.in_ok-around.ensures
