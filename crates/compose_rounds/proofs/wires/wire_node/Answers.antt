use Rattle.std.proofs.Common.{◌<◌, ◌≤◌, Bool, List, length, map, sym, subst, All, arith}
use Rattle.lhs_alias.specs.declared.segs.Seg.{Seg}
use Rattle.lhs_alias.specs.Segs.{lhs_bits}
use Rattle.lhs_alias.specs.Joined.{first_of}
use Rattle.svex_arena.specs.Marks.{IsMarked}
use Rattle.driver_resolve.specs.Drivers.{wire_bits}
use Rattle.compose_rounds.specs.Sources.{all_segs}
use Rattle.compose_rounds.specs.Wires.{HasPart, IsMade}
use Rattle.compose_rounds.proofs.Standing.{parts_of, pieces_wide, pieces_stand}
use Rattle.compose_rounds.proofs.wires.wire_node.Goals as goal

pub gather-requires-clause-has : goal.gather-requires-clause-has
gather-requires-clause-has c =
    let s = c.args.scene.now in
    subst (λ (l : List Seg). All (HasPart c.args.arena.now c.deref-2.result.now) l) (sym c.segs-2.ensures)
    (subst (λ l. All (HasPart c.args.arena.now l) c.in_ok-pieces.pieces) (sym c.deref-2.ensures.value)
    (parts_of c.args.arena.now s.segments.eqs s.segments.free s.nodes.items (map (first_of c.args.joins.now) (wire_bits c.args.wire c.args.width)) c.in_ok-pieces.pieces
    c.requires.scene.grown.size c.requires.scene.grown.widths c.in_ok-pieces.ensures.segs c.in_ok-pieces.ensures.places))

pub gather-requires-clause-most : goal.gather-requires-clause-most
gather-requires-clause-most c =
    let wide = pieces_wide (all_segs c.args.scene.now.segments) (first_of c.args.joins.now) c.args.wire c.args.width (lhs_bits c.in_ok-pieces.pieces) c.in_ok-pieces.ensures.places in
    let most = c.requires.most in
    subst (λ (l : List Seg). length (lhs_bits l) ≤ 128) (sym c.segs-2.ensures) (omega (arith, wide, most))

pub returns-clause-stands : goal.returns-clause-stands
returns-clause-stands c = λ k lt is.
    let s = c.args.scene.now in
    let pieces = c.in_ok-pieces.pieces in
    pieces_stand c.args.joins.now c.args.arena.now c.gather.new.arena s.segments.eqs s.segments.free s.values.items s.nodes.items s.settled.items c.are_settled-loose.result c.args.wire c.args.width c.in_ok-node.node pieces
    c.requires.scene.arena c.requires.scene.problem c.requires.scene.grown c.requires.scene.marks c.in_ok-node.ensures.extends c.requires.wire c.in_ok-pieces.ensures.places
    (λ t. subst (λ (l : List Seg). All (λ b. b.wire < length s.settled.items → IsMarked s.settled.items b.wire) (lhs_bits l)) c.segs.ensures
    (subst (λ (m : List Bool). All (λ b. b.wire < length m → IsMarked m b.wire) (lhs_bits c.segs.result.now)) c.deref.ensures.value (c.are_settled-loose.ensures t)))
    (subst (λ (l : List Seg). IsMade c.args.arena.now c.gather.new.arena s.nodes.items (lhs_bits l) c.in_ok-node.node) c.segs-2.ensures
    (subst (λ l. IsMade c.args.arena.now c.gather.new.arena l (lhs_bits c.segs-2.result.now) c.in_ok-node.node) c.deref-2.ensures.value c.in_ok-node.ensures.made))
    k lt is
