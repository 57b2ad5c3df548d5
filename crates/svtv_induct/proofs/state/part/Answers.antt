use Rattle.std.proofs.Common.{◌∙◌}
use Rattle.std.proofs.lemmas.List.{get_or_default}
use Rattle.svtv_induct.proofs.Nodes.{part_is, part_sized}
use Rattle.svtv_induct.proofs.state.part.Goals as goal

pub returns-clause-is : goal.returns-clause-is
returns-clause-is c =
    part_is c.args.arena.now c.intern.new.self c.args.own.now c.args.seg _ c.intern.result c.intern.ensures.arena c.intern.ensures.extends
    (c.index-own-seg.is ∙ get_or_default c.args.own.now c.args.seg.wire c.index-own-seg.result 0 c.requires.wire) c.intern.ensures.is

pub returns-clause-sized : goal.returns-clause-sized
returns-clause-sized c = part_sized c.args.arena.now c.intern.new.self _ c.args.seg.lo c.args.seg.width c.intern.result c.intern.ensures.arena c.intern.ensures.is
