use Rattle.std.proofs.Common.{◌∙◌, ◌≡◌, arith, [], length, None, Some, Err, sym, subst, ap}
use Rattle.std.proofs.lemmas.Result.{err_from_is_err_and}
use Rattle.std.proofs.lemmas.List.{get_or_read, length_push}
use Rattle.svex_arena.proofs.Keeping.{extends_on}
use Rattle.flat_net.specs.declared.flat.Flat.{Flat}
use Rattle.net_equations.specs.declared.group.ComposeErr.TheVariants.{LoopTooWide}
use Rattle.phase_fsm.specs.Machines.{AreWireNodes, row_of}
use Rattle.phase_fsm.specs.Sets.{HasGroups}
use Rattle.phase_fsm.proofs.Growing.{over_nodes}
use Rattle.phase_fsm.proofs.Backs.{same-parts, wires-back, groups-back}
use Rattle.phase_fsm.proofs.Setting.{same-error}
use Rattle.phase_fsm.proofs.Steps.{rows-grow, narrow-grows}
use Rattle.phase_fsm.proofs.machine.all_nodes.Goals as goal

-- src/machine.rt:97:19
pub returns-in_err-row-clause-wide : goal.returns-in_err-row-clause-wide
returns-in_err-row-clause-wide c = λ bits is.
    let p = err_from_is_err_and c.from_residual.result c.from_residual.ensures.1 in
    let own = c.sets.flat.arena in
    let same : c.as_slice.result.now ≡ row_of c.args.sets.now c.sets.at = c.as_slice.ensures ∙ get_or_read c.args.sets.now c.sets.at c.index-sets-at.result c.sets-test.true c.index-sets-at.is [] in
    let whole = c.set_nodes.ensures.wide bits (c.in_err-row.was ∙ ap Err (sym p.2 ∙ same-error p.0 (LoopTooWide bits) (sym p.1 ∙ is))) in
    record {
      set = c.sets.at;
      there = c.sets-test.true;
      before = c.sets.invariant.narrow;
      wide = subst (λ over. HasGroups c.args.flat.now over (Some bits)) same
          (groups-back c.args.flat.now own c.len.ensures.arena c.sets.invariant.extends c.requires.flat c.as_slice.result.now (Some bits)
          (subst (λ (f : Flat). HasGroups f c.as_slice.result.now (Some bits)) c.sets.invariant.is whole));
    }

-- src/machine.rt:96:5
pub sets-preserved : goal.sets-preserved
sets-preserved c =
    let own = c.sets.flat.arena in
    let same : c.as_slice.result.now ≡ row_of c.args.sets.now c.sets.at = c.as_slice.ensures ∙ get_or_read c.args.sets.now c.sets.at c.index-sets-at.result c.sets-test.true c.index-sets-at.is [] in
    let is : c.sets.flat ≡ over_nodes c.args.flat.now own = c.sets.invariant.is in
    let nodes : AreWireNodes c.args.flat.now (row_of c.args.sets.now c.sets.at) c.set_nodes.new.flat.arena c.in_ok-row.row =
    subst (λ over. AreWireNodes c.args.flat.now over c.set_nodes.new.flat.arena c.in_ok-row.row) same
    (wires-back c.args.flat.now own c.sets.invariant.extends c.requires.flat c.as_slice.result.now c.set_nodes.new.flat.arena c.in_ok-row.row
    (subst (λ (f : Flat). AreWireNodes f c.as_slice.result.now c.set_nodes.new.flat.arena c.in_ok-row.row) is c.in_ok-row.ensures.nodes)) in
    let narrow : HasGroups c.args.flat.now (row_of c.args.sets.now c.sets.at) None =
    subst (λ over. HasGroups c.args.flat.now over None) same
    (groups-back c.args.flat.now own c.len.ensures.arena c.sets.invariant.extends c.requires.flat c.as_slice.result.now None
    (subst (λ (f : Flat). HasGroups f c.as_slice.result.now None) is c.in_ok-row.ensures.narrow)) in
    let long = c.sets.invariant.begun.as_many in
    record {
      is = same-parts c.set_nodes.new.flat c.args.flat.now (c.set_nodes.ensures.kept.wires ∙ ap (λ f. f.wires) is) (c.set_nodes.ensures.kept.drivers ∙ ap (λ f. f.drivers) is) (c.set_nodes.ensures.kept.joins ∙ ap (λ f. f.joins) is);
      extends = extends_on c.args.flat.now.arena own c.set_nodes.new.flat.arena c.sets.invariant.extends c.set_nodes.ensures.kept.arena;
      sound = c.set_nodes.ensures.flat;
      begun = record {
        as_many = omega (arith, ap length c.in_ok-push.ensures.ok, length_push c.sets.nodes c.in_ok-row.row, long);
        each = λ s l. subst (λ rows. AreWireNodes c.args.flat.now (row_of c.args.sets.now s) c.set_nodes.new.flat.arena (row_of rows s)) (sym c.in_ok-push.ensures.ok)
            (rows-grow c.args.flat.now c.args.sets.now own c.set_nodes.new.flat.arena c.sets.nodes c.in_ok-row.row c.set_nodes.ensures.kept.arena
            (λ t m. c.sets.invariant.begun.each t (omega (arith, m, long))) (subst (λ k. AreWireNodes c.args.flat.now (row_of c.args.sets.now k) c.set_nodes.new.flat.arena c.in_ok-row.row) (sym long) nodes)
            s (omega (arith, l, long)));
      };
      narrow = narrow-grows c.args.flat.now c.args.sets.now c.sets.at c.sets.invariant.narrow narrow;
    }
