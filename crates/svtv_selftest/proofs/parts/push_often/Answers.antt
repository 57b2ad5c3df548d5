use Rattle.std.proofs.Common.{arith}
use Rattle.svtv_selftest.proofs.Turns.{each_more, none_yet}
use Rattle.svtv_selftest.proofs.parts.push_often.Goals as goal

pub words-init : goal.words-init
words-init c = none_yet 0 (λ k. c.args.word.now) c.args.text.now.items

pub words-preserved : goal.words-preserved
words-preserved c =
    each_more 0 c.words.k c.words.k (λ k. c.args.word.now) c.args.text.now.items c.words.text.items c.extend_from_slice.new.self.items (omega arith) c.words.invariant c.in_ok-extend_from_slice.ensures.items
