use Rattle.std.proofs.Common.{ℕ, List, Err, None, Some, ◌≤◌}
use Rattle.net_equations.specs.declared.group.ComposeErr.TheVariants.{LoopTooWide}
use Rattle.std.proofs.Common.{◌∙◌, ap, sym, map, subst}
use Rattle.std.proofs.lemmas.Result.{err_from_is_err_and}
use Rattle.std.specs.Prelude.{All}
use Rattle.event_nets.proofs.Making.{wires-narrow}
use Rattle.svex_arena.proofs.Keeping.{extends_on}
use Rattle.phase_fsm.proofs.Setting.{wires-are, same-error}
use Rattle.net_equations.specs.declared.group.Group.{Group}
use Rattle.net_equations.specs.Groups.{IsOrder}
use Rattle.phase_fsm.proofs.Growing.{flat-stays}
use Rattle.phase_fsm.proofs.Depending.{groups-are}
use Rattle.phase_fsm.proofs.machine.set_nodes.Goals as goal

-- src/machine.rt:74:18
pub order-requires : goal.order-requires
order-requires c = c.in_ok-set.ensures.resolved c.args.joins.now c.requires.stands c.requires.widths

-- src/machine.rt:75:20
pub compose-requires-clause-resolved : goal.compose-requires-clause-resolved
compose-requires-clause-resolved c = c.in_ok-set.ensures.resolved c.args.joins.now c.requires.stands c.requires.widths

-- src/machine.rt:75:20
pub returns-in_err-composed-clause-flat : goal.returns-in_err-composed-clause-flat
returns-in_err-composed-clause-flat c = flat-stays c.resolve.new.flat c.compose.new.arena c.compose.ensures.extends c.resolve.ensures.flat

-- src/machine.rt:75:20
pub returns-in_err-composed-clause-wide : goal.returns-in_err-composed-clause-wide
returns-in_err-composed-clause-wide c = λ bits is.
    let p = err_from_is_err_and c.from_residual-in_err-composed.result c.from_residual-in_err-composed.ensures.1 in
    let set = c.in_ok-set.ensures in
    groups-are c.args.flat.now c.args.over.now c.args.joins.now c.resolve.new.flat.arena c.in_ok-set.set c.requires.widths c.requires.stands set.mentions
    (set.resolved c.args.joins.now c.requires.stands c.requires.widths) set.nets set.whole (map (λ g. g.members) c.as_slice.result.now)
    (subst (λ (all : List Group). IsOrder c.args.joins.now c.resolve.new.flat.arena c.in_ok-set.set.eqs (map (λ g. g.members) all)) (sym c.as_slice.ensures) c.in_ok-groups.ensures.order)
    (Some bits) (c.compose.ensures.wide bits (c.in_err-composed.was ∙ ap Err (sym p.2 ∙ same-error p.0 (LoopTooWide bits) (sym p.1 ∙ is))))

-- src/machine.rt:76:8
pub wire_nodes-requires-clause-composed : goal.wire_nodes-requires-clause-composed
wire_nodes-requires-clause-composed c = record {
  before = c.resolve.new.flat.arena;
  resolved = c.in_ok-set.ensures.resolved c.args.joins.now c.requires.stands c.requires.widths;
  composed = c.in_ok-composed.ensures.composed;
}

pub wire_nodes-requires-clause-widths : goal.wire_nodes-requires-clause-widths
wire_nodes-requires-clause-widths c = c.requires.wide ∙ sym c.requires.widths

pub wire_nodes-requires-clause-sized : goal.wire_nodes-requires-clause-sized
wire_nodes-requires-clause-sized c =
    let P : List ℕ → Type 0 = All (λ width. (1 ≤ width) × (width ≤ 128)) in
    subst P (sym c.requires.wide) (wires-narrow c.args.flat.now.wires c.requires.flat.wires)

-- src/machine.rt:76:8
pub returns-in_err-wire_nodes-clause-flat : goal.returns-in_err-wire_nodes-clause-flat
returns-in_err-wire_nodes-clause-flat c = flat-stays c.resolve.new.flat c.wire_nodes.new.arena (extends_on _ _ _ c.compose.ensures.extends c.wire_nodes.ensures.extends) c.resolve.ensures.flat

-- src/machine.rt:55:1
pub returns-clause-flat : goal.returns-clause-flat
returns-clause-flat c = flat-stays c.resolve.new.flat c.wire_nodes.new.arena (extends_on _ _ _ c.compose.ensures.extends c.wire_nodes.ensures.extends) c.resolve.ensures.flat

-- src/machine.rt:55:1
pub returns-clause-nodes : goal.returns-clause-nodes
returns-clause-nodes c = wires-are c.args.flat.now c.args.over.now c.args.joins.now c.requires.stands c.requires.widths
    c.resolve.new.flat.arena c.wire_nodes.new.arena c.in_ok-set.set.eqs c.in_ok-set.ensures.settles c.in_ok-wire_nodes.field-0
    (c.in_ok-wire_nodes.ensures.nodes c.resolve.new.flat.arena (c.in_ok-set.ensures.resolved c.args.joins.now c.requires.stands c.requires.widths) c.in_ok-composed.ensures.composed)

-- src/machine.rt:55:1
pub returns-clause-narrow : goal.returns-clause-narrow
returns-clause-narrow c =
    let set = c.in_ok-set.ensures in
    groups-are c.args.flat.now c.args.over.now c.args.joins.now c.resolve.new.flat.arena c.in_ok-set.set c.requires.widths c.requires.stands set.mentions
    (set.resolved c.args.joins.now c.requires.stands c.requires.widths) set.nets set.whole (map (λ g. g.members) c.as_slice.result.now)
    (subst (λ (all : List Group). IsOrder c.args.joins.now c.resolve.new.flat.arena c.in_ok-set.set.eqs (map (λ g. g.members) all)) (sym c.as_slice.ensures) c.in_ok-groups.ensures.order)
    None c.in_ok-composed.ensures.narrow
