use Rattle.std.proofs.Common.{◌≤◌, List, length, map, sym, ◌∙◌, subst, All, arith}
use Rattle.lhs_alias.specs.declared.segs.Seg.{Seg}
use Rattle.lhs_alias.specs.Segs.{lhs_bits}
use Rattle.lhs_alias.specs.Joined.{first_of}
use Rattle.svex_arena.proofs.Keeping.{if_ok}
use Rattle.driver_resolve.specs.Drivers.{wire_bits}
use Rattle.compose_rounds.specs.Sources.{all_segs}
use Rattle.compose_rounds.specs.Wires.{HasPart, IsMade, IsNodeOf}
use Rattle.compose_rounds.proofs.Standing.{parts_of, pieces_wide}
use Rattle.svex_compose.proofs.wires.wire_node.Goals as goal

pub gather-requires-clause-has : goal.gather-requires-clause-has
gather-requires-clause-has c =
    subst (λ (l : List Seg). All (HasPart c.args.arena.now c.args.nodes.now) l) (sym c.segs.ensures)
    (parts_of c.args.arena.now c.args.segments.now.eqs c.args.segments.now.free c.args.nodes.now (map (first_of c.args.joins.now) (wire_bits c.args.wire c.args.width)) c.in_ok-pieces.pieces
    c.requires.size c.requires.wide c.in_ok-pieces.ensures.segs c.in_ok-pieces.ensures.places)

pub gather-requires-clause-most : goal.gather-requires-clause-most
gather-requires-clause-most c =
    let wide = pieces_wide (all_segs c.args.segments.now) (first_of c.args.joins.now) c.args.wire c.args.width (lhs_bits c.in_ok-pieces.pieces) c.in_ok-pieces.ensures.places in
    let most = c.requires.most in
    subst (λ (l : List Seg). length (lhs_bits l) ≤ 128) (sym c.segs.ensures) (omega (arith, wide, most))

pub returns-clause-node : goal.returns-clause-node
returns-clause-node c =
    let pieces = c.in_ok-pieces.pieces in
    let wide = pieces_wide (all_segs c.args.segments.now) (first_of c.args.joins.now) c.args.wire c.args.width (lhs_bits pieces) c.in_ok-pieces.ensures.places in
    if_ok _ _ (IsNodeOf c.args.joins.now (all_segs c.args.segments.now) c.args.arena.now c.gather.new.arena c.args.nodes.now c.args.wire c.args.width) c.gather.ensures.made
    (λ n made.
    let m : IsMade c.args.arena.now c.gather.new.arena c.args.nodes.now (lhs_bits pieces) n = subst (λ (l : List Seg). IsMade c.args.arena.now c.gather.new.arena c.args.nodes.now (lhs_bits l) n) c.segs.ensures made in
    record { wide = m.wide ∙ wide; bits = lhs_bits pieces; sources = c.in_ok-pieces.ensures.places; made = m })
