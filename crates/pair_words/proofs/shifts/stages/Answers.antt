use Rattle.std.proofs.Common.{◌∙◌, arith}
use Rattle.pair_words.proofs.Moving.{doubled_is}
use Rattle.pair_words.proofs.shifts.stages.Goals as goal

pub loop-n-init : goal.loop-n-init
loop-n-init c = omega (arith, c.requires)

pub loop-n-preserved : goal.loop-n-preserved
loop-n-preserved c = c.doubled-k.ensures ∙ doubled_is c.loop-n.n c.args.most c.loop-n.k c.loop-n.invariant
