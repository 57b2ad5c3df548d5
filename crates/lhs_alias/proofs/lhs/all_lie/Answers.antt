use Rattle.std.proofs.Common.{List, subst, refl, arith}
use Rattle.std.proofs.lemmas.List.{take_all}
use Rattle.std.proofs.lemmas.List.Elements.{All-more}
use Rattle.lhs_alias.specs.declared.segs.Seg.{Seg}
use Rattle.lhs_alias.specs.Lies.{LiesIn, LieIn}
use Rattle.lhs_alias.proofs.lhs.all_lie.Goals as goal

pub loop-seg-preserved : goal.loop-seg-preserved
loop-seg-preserved c =
    All-more (LiesIn c.args.widths.now) c.args.segs.now c.loop-seg.seg-index _ (omega arith) c.loop-seg.invariant (c.if-not-lies.ensures.0 refl)

pub returns : goal.returns
returns c =
    let Lie : List Seg → Type 0 = LieIn c.args.widths.now in
    (λ _. subst Lie (take_all c.loop-seg.seg-index c.args.segs.now (omega arith)) c.loop-seg.invariant, λ _. refl)
