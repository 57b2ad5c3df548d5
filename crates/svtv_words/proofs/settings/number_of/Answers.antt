use Rattle.std.proofs.Common.{arith}
use Rattle.svtv_words.proofs.Turns.{no_digits, digit_more}
use Rattle.svtv_words.proofs.settings.number_of.Goals as goal

pub loop-b-init : goal.loop-b-init
loop-b-init c = (no_digits, omega arith)

pub loop-b-preserved : goal.loop-b-preserved
loop-b-preserved c = digit_more c.args.text.now c.loop-b.b-index c.loop-b.number 0 c.from.result c.loop-b-test.true c.requires.digits c.from.ensures c.loop-b.invariant
