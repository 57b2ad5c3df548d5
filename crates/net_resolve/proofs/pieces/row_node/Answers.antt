use Rattle.std.proofs.lemmas.Result.{IfOk-from_err}
use Rattle.std.proofs.Common.{subst, sym, ◌∙◌, arith}
use Rattle.event_nets.specs.declared.gift.Gift.{Gift}
use Rattle.svex_arena.proofs.Keeping.{extends_self, extends_on}
use Rattle.svex_arena.proofs.Steps.{width-extends}
use Rattle.driver_resolve.specs.Drivers.{widths_of}
use Rattle.net_resolve.specs.Pieces.{IsWithin}
use Rattle.net_resolve.proofs.Making.{within_kept}
use Rattle.net_resolve.proofs.Piecing.{first_of_row, more_of_row, whole_row}
use Rattle.net_resolve.proofs.pieces.row_node.Goals as goal

pub gifts-init : goal.gifts-init
gifts-init c =
    let base = c.args.arena.now in
    record {
      arena = c.in_ok-node.ensures.arena;
      extends = c.in_ok-node.ensures.extends;
      some = omega arith;
      made = first_of_row (widths_of c.args.wires.now) base c.part_node.new.arena c.args.row.now c.args.width c.in_ok-node.node c.index-row-0.result c.len.ensures.arena (extends_self base)
          (omega (arith, c.requires.row)) (sym c.index-row-0.is) c.requires.within c.in_ok-node.ensures.made;
    }

pub part_node-requires-in-gifts-clause-within : goal.part_node-requires-in-gifts-clause-within
part_node-requires-in-gifts-clause-within c =
    let widths = widths_of c.args.wires.now in
    let g = c.index-row-at.result in
    let here : IsWithin widths c.args.arena.now c.args.width g = subst (λ (x : Gift). IsWithin widths c.args.arena.now c.args.width x) (sym c.index-row-at.is) (c.requires.within c.gifts.at g (omega arith)) in
    within_kept widths c.args.arena.now c.gifts.arena c.args.width g c.gifts.invariant.extends here

pub resolution-requires-clause-wide : goal.resolution-requires-clause-wide
resolution-requires-clause-wide c =
    width-extends c.gifts.arena c.part_node-in-gifts.new.arena c.gifts.node c.in_ok-more.ensures.extends c.gifts.invariant.made.there ∙ c.gifts.invariant.made.wide ∙ sym c.in_ok-more.ensures.made.wide

pub gifts-preserved : goal.gifts-preserved
gifts-preserved c =
    let base = c.args.arena.now in
    let old = c.gifts.arena in
    let mid = c.part_node-in-gifts.new.arena in
    let new = c.resolution.new.arena in
    record {
      arena = c.in_ok-node-2.ensures.arena;
      extends = extends_on base old new c.gifts.invariant.extends (extends_on old mid new c.in_ok-more.ensures.extends c.in_ok-node-2.ensures.extends);
      some = omega arith;
      made = more_of_row (widths_of c.args.wires.now) base old mid new c.args.row.now c.gifts.at c.args.width c.gifts.node c.in_ok-more.more c.in_ok-node-2.node c.index-row-at.result
          c.len.ensures.arena c.gifts.invariant.arena c.gifts.invariant.extends c.in_ok-more.ensures.extends
          c.gifts.invariant.some (omega arith) (sym c.index-row-at.is) c.requires.within c.gifts.invariant.made c.in_ok-more.ensures.made c.in_ok-node-2.ensures.pair;
    }

pub returns-in_err-more-clause-made : goal.returns-in_err-more-clause-made
returns-in_err-more-clause-made c = IfOk-from_err _ _ c.from_residual-in_err-more.ensures.0

pub returns-in_err-node-2-clause-made : goal.returns-in_err-node-2-clause-made
returns-in_err-node-2-clause-made c = IfOk-from_err _ _ c.from_residual-in_err-node-2.ensures.0

pub returns-in_err-node-clause-made : goal.returns-in_err-node-clause-made
returns-in_err-node-clause-made c = IfOk-from_err _ _ c.from_residual.ensures.0

pub returns-clause-made : goal.returns-clause-made
returns-clause-made c = whole_row (widths_of c.args.wires.now) c.args.arena.now c.gifts.arena c.args.row.now c.gifts.at c.args.width c.gifts.node (omega arith) c.gifts.invariant.made
