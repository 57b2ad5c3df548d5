use Rattle.sv_targets.proofs.Targeting.{narrow_one, target_ok}
use Rattle.sv_targets.proofs.targets.one_target.Goals as goal

pub returns-in_ok-push-in-Ok-clause-narrow : goal.returns-in_ok-push-in-Ok-clause-narrow
returns-in_ok-push-in-Ok-clause-narrow c = λ judge f x h.
    narrow_one c.in-Ok.target c.new-all.result c.push.new.self c.new-all.ensures c.in_ok-push-in-Ok.ensures.ok (target_ok judge f x c.args.target c.in-Ok.target c.in-Ok.is h).stands.narrow
