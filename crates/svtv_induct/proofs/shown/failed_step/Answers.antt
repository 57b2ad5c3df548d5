use Rattle.svtv_induct.proofs.Failing.{found_alike, found_slices}
use Rattle.svtv_induct.proofs.shown.failed_step.Goals as goal

pub own_values-requires-clause-alike : goal.own_values-requires-clause-alike
own_values-requires-clause-alike c = found_alike c.args.half.now c.args.found.now c.len-before.result c.len.result c.requires.choice c.len-before.ensures c.len.ensures

pub state-requires : goal.state-requires
state-requires c =
    found_slices c.args.half.now c.args.at c.args.found.now c.in_ok-own.own.items c.deref.result.now c.as_slice.result.now c.len-before.result c.len.result c.requires.half c.requires.choice c.len-before.ensures c.len.ensures
    c.in_ok-own.ensures c.deref.ensures.value c.as_slice.ensures
