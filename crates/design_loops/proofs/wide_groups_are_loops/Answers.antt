use Rattle.design_loops.proofs.Wide.{wide-groups-loop}
use Rattle.design_loops.proofs.wide_groups_are_loops.Goals as goal

pub returns : goal.returns
returns c = wide-groups-loop
