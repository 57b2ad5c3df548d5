use Rattle.std.proofs.lemmas.Result.{IfOk-from_err}
use Rattle.std.proofs.Common.{◌<◌, ◌-◌, length, false, None, arith}
use Rattle.sat_search.proofs.learn.collect.Goals as goal

pub returns-in_err-clause : goal.returns-in_err-clause
returns-in_err-clause c = IfOk-from_err _ _ c.from_residual.ensures.0

pub returns-in_err-push : goal.returns-in_err-push
returns-in_err-push c = IfOk-from_err _ _ c.from_residual-in_err-push.ensures.0

pub bounds-seen-e : goal.bounds-seen-e
bounds-seen-e c = c.requires (c.loop-i.i - 1) (record { dim = record { var = 0; negated = false }; reason = None })
    (let within : c.loop-i.i - 1 < length c.args.trail.now = omega (arith, c.loop-i-test.true, c.loop-i.invariant.range) in within)

pub bounds-trail-i : goal.bounds-trail-i
bounds-trail-i c = omega (arith, c.loop-i-test.true, c.loop-i.invariant.range)
