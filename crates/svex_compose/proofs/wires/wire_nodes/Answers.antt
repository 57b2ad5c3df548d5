use Rattle.std.proofs.Common.{◌≡◌, ◌<◌, ◌++◌, ℕ, List, length, map, sym, ap, ◌∙◌, subst, arith}
use Rattle.std.specs.Prelude.{slice_index}
use Rattle.svex_arena.proofs.Keeping.{extends_on}
use Rattle.driver_resolve.specs.declared.driver.NetEq.{NetEq}
use Rattle.compose_rounds.specs.Sources.{Covering, all_segs}
use Rattle.compose_rounds.specs.Wires.{IsNodeOf}
use Rattle.svex_compose.specs.Composed.{AreWireNodes}
use Rattle.svex_compose.proofs.Wiring.{composed_kept, was_kept, covers_of, nodes_there, nodes_many, nodes_wide, wire_there, wire_made, wired_more}
use Rattle.svex_compose.proofs.wires.wire_nodes.Goals as goal

pub wire_node-requires-clause-wire : goal.wire_node-requires-clause-wire
wire_node-requires-clause-wire c = wire_there c.args.joins.now.widths c.args.widths.now c.wires.wire c.requires.widths c.wires-test.true

pub wire_node-requires-clause-covers : goal.wire_node-requires-clause-covers
wire_node-requires-clause-covers c = covers_of c.args.joins.now c.wires.arena c.args.set.now c.args.composed.now.nodes c.in_ok-segments.segments c.in_ok-segments.ensures c.wires.invariant.was

pub wire_node-requires-clause-there : goal.wire_node-requires-clause-there
wire_node-requires-clause-there c = nodes_there c.args.joins.now c.wires.arena c.args.set.now c.args.composed.now.nodes c.as_slice.result.now c.as_slice.ensures c.wires.invariant.was

pub wire_node-requires-clause-size : goal.wire_node-requires-clause-size
wire_node-requires-clause-size c =
    nodes_many c.args.joins.now c.wires.arena c.args.set.now c.args.composed.now.nodes c.as_slice.result.now c.in_ok-segments.segments c.as_slice.ensures c.in_ok-segments.ensures c.wires.invariant.was

pub wire_node-requires-clause-wide : goal.wire_node-requires-clause-wide
wire_node-requires-clause-wide c =
    nodes_wide c.args.joins.now c.wires.arena c.args.set.now c.args.composed.now.nodes c.as_slice.result.now c.in_ok-segments.segments c.as_slice.ensures c.in_ok-segments.ensures c.wires.invariant.was

pub wires-preserved : goal.wires-preserved
wires-preserved c =
    let i = c.wires.invariant in
    let e = c.in_ok-node.ensures in
    let kept = c.args.joins.now in
    let set = c.args.set.now in
    let old = c.args.arena.now in
    let mid = c.wires.arena in
    let new = c.wire_node.new.arena in
    let nodes = c.args.composed.now.nodes in
    let wire = c.wires.wire in
    let width = slice_index c.args.widths.now wire in
    record {
      extends = extends_on old mid new i.extends e.extends;
      arena = e.arena;
      was = was_kept kept mid new set nodes e.extends i.was;
      wired = λ before h comp.
          let made : IsNodeOf kept (map (λ (x : NetEq). x.seg) set.eqs ++ set.free) mid new nodes wire width c.in_ok-node.node =
          subst (λ (l : List ℕ). IsNodeOf kept (map (λ (x : NetEq). x.seg) set.eqs ++ set.free) mid new l wire width c.in_ok-node.node) c.as_slice.ensures
          (subst (λ (s : Covering). IsNodeOf kept (all_segs s) mid new c.as_slice.result.now wire width c.in_ok-node.node) c.in_ok-segments.ensures e.node) in
          let lt : wire < length kept.widths = let l = ap length c.requires.widths in let t = c.wires-test.true in omega (arith, l, t) in
          wired_more kept before mid new set.eqs c.wires.nodes.items c.push.new.self.items wire c.in_ok-node.node e.extends c.in_ok-push.ensures.items (i.wired before h comp)
          (wire_made kept before mid new set nodes wire width c.in_ok-node.node e.arena h (composed_kept kept before old mid set.eqs nodes i.extends comp) lt (ap (λ l. slice_index l wire) c.requires.widths) made);
    }

pub returns-clause-nodes : goal.returns-clause-nodes
returns-clause-nodes c = λ before h comp.
    let w = c.wires.invariant.wired before h comp in
    let l = ap length c.requires.widths in
    let t = c.wires-test.false in
    let most = c.wires.auto.wire-end in
    let end : c.wires.wire ≡ length c.args.joins.now.widths = omega (arith, l, t, most) in
    subst (AreWireNodes c.args.joins.now before c.wires.arena c.args.set.now.eqs) (sym c.from_vec.ensures)
    (record { size = w.size ∙ end; at = λ n lt. w.at n (let s = w.size in omega (arith, lt, s)) })
