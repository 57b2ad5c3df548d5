use Rattle.sv_targets.proofs.Targeting.{targets_both, targets_ok}
use Rattle.sv_targets.proofs.targets.appended.Goals as goal

pub returns : goal.returns
returns c = λ judge f g xs ys h k. targets_both judge f g xs ys c.args.all c.in_ok-more.more c.append.new.self c.in_ok-append.ensures.ok h (targets_ok judge g ys c.args.more c.in_ok-more.more c.in_ok-more.was k)
