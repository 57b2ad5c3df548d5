use Rattle.svtv_runs.proofs.Truths as proved
use Rattle.svtv_runs.proofs.truths_last.Goals as goal

pub returns : goal.returns
returns c = proved.truths_last
