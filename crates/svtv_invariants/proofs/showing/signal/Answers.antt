use Rattle.svtv_invariants.proofs.Reading.{signal_is}
use Rattle.svtv_invariants.proofs.showing.signal.Goals as goal

pub returns : goal.returns
returns c = signal_is c.args.state.now c.args.sample.now c.index-state-sample.result c.index-state-sample.is c.requires
