use Rattle.std.proofs.Common.{◌≡◌, ◌+◌, ℕ, List, length, arith, sym, subst}
use Rattle.std.proofs.lemmas.List.{length-map}
use Rattle.driver_resolve.specs.Drivers.{widths_of}
use Rattle.sv_outside.specs.declared.text.Signal.{Signal}
use Rattle.svex_arena.proofs.Keeping.{extends_on}
use Rattle.svtv_induct.specs.States.{AreOwn}
use Rattle.svtv_induct.proofs.Joined.{own_at, own_push}
use Rattle.svtv_induct.proofs.Nodes.{var_has_width}
use Rattle.svtv_induct.proofs.state.own_nodes.Goals as goal

pub own_node-requires-clause-width : goal.own_node-requires-clause-width
own_node-requires-clause-width c =
    let t = c.wires-test.true in let m = c.requires.many in var_has_width c.args.vars.now (c.args.before + c.wires.at) c.requires.widths (omega (arith, t, m))

pub wires-preserved : goal.wires-preserved
wires-preserved c =
    let vars = c.args.vars.now in
    let widths : List ℕ = widths_of c.args.wires.now in
    let at = c.wires.at in
    let before = c.args.before in
    let i = c.wires.invariant in
    let new = c.own_node.new.arena in
    let node = c.in_ok-node.node in
    let t = c.wires-test.true in
    let many : length widths ≡ length c.args.wires.now = length-map c.args.wires.now (λ (s : Signal). s.width) in
    let own = own_at vars new widths before at (before + at) (before + at + length c.args.wires.now) node c.requires.wires (omega (arith, t, many)) (omega arith) (omega (arith, many)) c.in_ok-node.ensures.is in
    record {
      own = subst (λ (nodes : List ℕ). AreOwn vars new widths before nodes (at + 1)) (sym c.in_ok-push.ensures.items) (own_push vars c.wires.arena new widths before c.wires.nodes.items at node c.own_node.ensures.extends i.own own);
      extends = extends_on c.args.arena.now c.wires.arena new i.extends c.own_node.ensures.extends;
      arena = c.own_node.ensures.arena;
    }
