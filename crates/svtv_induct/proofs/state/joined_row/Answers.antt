use Rattle.std.proofs.Common.{◌≡◌, ◌+◌, ℕ, List, length, Option, sym, subst, arith}
use Rattle.lhs_alias.specs.declared.segs.Seg.{Seg}
use Rattle.svex_arena.proofs.Keeping.{extends_on, extends_self}
use Rattle.svtv_induct.specs.States.{AreJoined, ArePartsOf}
use Rattle.svtv_induct.proofs.Joined.{joined_more, joined_none, parts_kept}
use Rattle.svtv_induct.proofs.state.joined_row.Goals as goal

pub wires-init : goal.wires-init
wires-init c = record {
  joined = λ vars widths before all wide.
      subst (λ (row : List (Option ℕ)). AreJoined vars c.args.arena.now widths before c.args.firsts.now row 0) (sym c.new-row.ensures.items) (joined_none vars c.args.arena.now widths before c.args.firsts.now);
  extends = extends_self c.args.arena.now;
  arena = c.len.ensures.arena;
}

pub joined_node-requires : goal.joined_node-requires
joined_node-requires c =
    parts_kept c.args.arena.now c.wires.arena c.args.own.now c.segs_at.result.now c.wires.invariant.extends
    (subst (λ (ss : List Seg). ArePartsOf c.args.arena.now c.args.own.now ss) (sym c.segs_at.ensures) (c.requires.parts c.wires.at c.wires-test.true))

pub wires-preserved : goal.wires-preserved
wires-preserved c =
    let i = c.wires.invariant in
    let new = c.joined_node.new.arena in
    record {
      joined = λ vars widths before all wide.
          subst (λ (row : List (Option ℕ)). AreJoined vars new widths before c.args.firsts.now row (c.wires.at + 1)) (sym c.in_ok-push.ensures.items)
          (joined_more vars c.args.arena.now c.wires.arena new c.args.own.now widths before c.args.firsts.now c.segs_at.result.now c.wires.row.items c.wires.at c.in_ok-node.node i.extends c.joined_node.ensures.extends all wide c.wires-test.true c.segs_at.ensures
          (i.joined vars widths before all wide) c.in_ok-node.ensures.is);
      extends = extends_on c.args.arena.now c.wires.arena new i.extends c.joined_node.ensures.extends;
      arena = c.joined_node.ensures.arena;
    }

pub returns-clause-joined : goal.returns-clause-joined
returns-clause-joined c = λ vars widths before all wide.
    let past = c.wires-test.false in
    let within = c.wires.auto.at-end in
    let done : c.wires.at ≡ length c.args.firsts.now = omega (arith, past, within) in
    subst (λ k. AreJoined vars c.wires.arena widths before c.args.firsts.now c.wires.row.items k) done (c.wires.invariant.joined vars widths before all wide)
