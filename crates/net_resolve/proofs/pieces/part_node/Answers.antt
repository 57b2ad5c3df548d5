use Rattle.std.proofs.lemmas.Result.{IfOk-from_err}
use Rattle.std.proofs.Common.{sym, ◌∙◌}
use Rattle.svex_shape.specs.declared.shape.Shape.TheVariants.{Slice}
use Rattle.svex_arena.specs.Arenas.{Interned}
use Rattle.svex_arena.proofs.Keeping.{if_ok}
use Rattle.driver_resolve.specs.Drivers.{widths_of}
use Rattle.net_resolve.specs.Pieces.{IsMade, IsOne, part_value}
use Rattle.net_resolve.proofs.Making.{whole_part, sliced_part}
use Rattle.net_resolve.proofs.pieces.part_node.Goals as goal

pub returns-then-width-clause-made : goal.returns-then-width-clause-made
returns-then-width-clause-made c =
    whole_part (widths_of c.args.wires.now) c.args.arena.now c.source_node.new.arena c.args.gift.now c.args.width c.in_ok-of.of c.len.ensures.arena c.requires.within c.in_ok-of.ensures.made
    (sym c.width.ensures.is ∙ c.if-width.true)

pub returns-clause-made : goal.returns-clause-made
returns-clause-made c =
    let widths = widths_of c.args.wires.now in
    let old = c.args.arena.now in
    let mid = c.source_node.new.arena in
    let new = c.intern.new.self in
    let g = c.args.gift.now in
    let width = c.args.width in
    let of = c.in_ok-of.of in
    if_ok _ (λ n. Interned mid (Slice of g.at width) new n) (λ n. IsMade widths old (IsOne g) width (part_value widths old g width) new n) c.intern.ensures.is
    (λ n i. sliced_part widths old mid new g width of n c.len.ensures.arena c.in_ok-of.ensures.arena c.intern.ensures.arena c.requires.within c.in_ok-of.ensures.made i)

pub returns-in_err-of-clause-made : goal.returns-in_err-of-clause-made
returns-in_err-of-clause-made c = IfOk-from_err _ _ c.from_residual.ensures.0
