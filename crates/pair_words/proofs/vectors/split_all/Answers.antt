use Rattle.fourvec.specs.declared.Bit.TheVariants.{Zero}
use Rattle.pair_words.specs.Ways.{constant_pair}
use Rattle.pair_words.proofs.Parities.{parts_start, parts_more}
use Rattle.pair_words.proofs.vectors.split_all.Goals as goal

pub loop-i-init : goal.loop-i-init
loop-i-init c = parts_start c.args.aig.now c.args.a.now _ _ c.requires.no_first c.requires.no_second

pub loop-i-preserved : goal.loop-i-preserved
loop-i-preserved c =
    let h = c.split-halves.result in
    rw (c.in_ok-push.ensures.items, c.in_ok-push-2.ensures.items) (parts_more c.args.aig.now c.args.a.now c.loop-i.i (constant_pair Zero) c.loop-i.first.items c.loop-i.second.items h.first h.second c.loop-i-test.true
    c.loop-i.invariant c.split-halves.ensures.first c.split-halves.ensures.second c.split-halves.ensures.value)
