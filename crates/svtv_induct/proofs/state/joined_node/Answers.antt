use Rattle.std.proofs.Common.{◌+◌, ◌∙◌, List, length, get_or, ap, arith, subst, sym}
use Rattle.std.proofs.lemmas.List.{take_all}
use Rattle.lhs_alias.specs.declared.segs.Seg.{Seg}
use Rattle.lhs_alias.specs.declared.segs.WireBit.{WireBit}
use Rattle.lhs_alias.proofs.SegBits.{length-seg_bits}
use Rattle.svex_arena.proofs.Keeping.{extends_on}
use Rattle.svex_arena.proofs.Steps.{width-extends}
use Rattle.svtv_induct.specs.States.{HasParts, IsSized}
use Rattle.svtv_induct.proofs.Joined.{parts_first, parts_kept, parts_more, taken_first, taken_long, taken_most}
use Rattle.svtv_induct.proofs.state.joined_node.Goals as goal

abbrev none : Seg
none = record { wire = 0; lo = 0; width = 0 }

pub part-requires : goal.part-requires
part-requires c = c.requires.each 0 none c.requires.some

pub segs-init : goal.segs-init
segs-init c =
    let segs = c.args.segs.now in
    let e = c.in_ok-made.ensures in
    record {
      made = parts_first c.args.arena.now c.part.new.arena c.args.own.now segs none c.in_ok-made.made c.requires.some e.is;
      sized = subst (λ k. IsSized c.part.new.arena k c.in_ok-made.made) (sym (ap (λ (bits : List WireBit). length bits) (taken_first segs none c.requires.some) ∙ length-seg_bits (get_or segs 0 none))) e.sized;
      extends = e.extends;
      arena = e.arena;
    }

pub part-requires-in-segs : goal.part-requires-in-segs
part-requires-in-segs c = (parts_kept c.args.arena.now c.segs.arena c.args.own.now c.args.segs.now c.segs.invariant.extends c.requires).each c.segs.at none c.segs-test.true

pub above-requires-clause-high : goal.above-requires-clause-high
above-requires-clause-high c = omega (arith, c.segs.invariant.sized.there, c.part-in-segs.ensures.extends.longer)

pub above-requires-clause-low : goal.above-requires-clause-low
above-requires-clause-low c = c.in_ok-low.ensures.sized.there

pub above-requires-clause-fits : goal.above-requires-clause-fits
above-requires-clause-fits c =
    let segs = c.args.segs.now in
    let i = c.segs.invariant in
    let made = width-extends c.segs.arena c.part-in-segs.new.arena c.segs.made c.part-in-segs.ensures.extends i.sized.there ∙ i.sized.wide in
    omega (arith, made, c.in_ok-low.ensures.sized.wide, taken_long segs c.segs.at none c.segs-test.true, taken_most (c.segs.at + 1) segs, c.requires.most)

pub segs-preserved : goal.segs-preserved
segs-preserved c =
    let segs = c.args.segs.now in
    let at = c.segs.at in
    let i = c.segs.invariant in
    let next = c.part-in-segs.new.arena in
    let new = c.above.new.arena in
    let low = c.in_ok-low.ensures in
    let more = c.in_ok-made-2.ensures in
    let made = width-extends c.segs.arena next c.segs.made low.extends i.sized.there ∙ i.sized.wide in
    let wide = low.sized.wide in
    record {
      made = parts_more c.args.arena.now c.segs.arena next new c.args.own.now segs at none c.segs.made c.in_ok-low.low c.in_ok-made-2.made c.segs-test.true i.extends low.extends i.made low.is more.is;
      sized = record { there = more.sized.there; wide = more.sized.wide ∙ (let t = taken_long segs at none c.segs-test.true in omega (arith, made, wide, t)) };
      extends = extends_on c.args.arena.now c.segs.arena new i.extends (extends_on c.segs.arena next new low.extends more.extends);
      arena = more.arena;
    }

pub returns-clause-is : goal.returns-clause-is
returns-clause-is c =
    let segs = c.args.segs.now in
    let past = c.segs-test.false in
    subst (λ (ss : List Seg). HasParts c.args.arena.now c.args.own.now ss c.segs.arena c.segs.made) (take_all c.segs.at segs past) c.segs.invariant.made
