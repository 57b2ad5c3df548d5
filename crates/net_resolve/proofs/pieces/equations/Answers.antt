use Rattle.std.proofs.lemmas.Result.{IfOk-from_err}
use Rattle.std.proofs.Common.{◌≡◌, List, length, sym, ap, ◌∙◌, arith}
use Rattle.std.proofs.lemmas.List.{length-map, take_all}
use Rattle.lhs_alias.specs.declared.segs.Seg.{Seg}
use Rattle.driver_resolve.specs.declared.driver.NetEq.{NetEq}
use Rattle.driver_resolve.specs.Drivers.{widths_of}
use Rattle.svex_arena.proofs.Keeping.{extends_on}
use Rattle.event_nets.specs.Needs.{gift_rows}
use Rattle.std.specs.Prelude.{slice_index}
use Rattle.net_equations.specs.Equations.{seg_at}
use Rattle.net_resolve.proofs.Making.{run_kept}
use Rattle.net_resolve.proofs.Piecing.{segs_more, equation_more}
use Rattle.net_resolve.proofs.pieces.equations.Goals as goal

pub run_node-requires-clause-run : goal.run_node-requires-clause-run
run_node-requires-clause-run c =
    let i = c.nets.net in
    run_kept (widths_of c.args.wires.now) c.args.arena.now c.nets.arena (gift_rows c.args.rows.now) (slice_index c.args.nets.now i) (seg_at c.args.segs.now i).width c.nets.invariant.extends (c.requires.runs i (omega arith))

pub nets-preserved : goal.nets-preserved
nets-preserved c =
    let i = c.nets.net in
    let segs = c.args.segs.now in
    record {
      arena = c.in_ok-value.ensures.arena;
      extends = extends_on c.args.arena.now c.nets.arena c.run_node.new.arena c.nets.invariant.extends c.in_ok-value.ensures.extends;
      segs = segs_more segs i c.nets.eqs.items c.push.new.self.items c.in_ok-value.value (omega arith) c.in_ok-push.ensures.items c.nets.invariant.segs;
      each = equation_more (widths_of c.args.wires.now) c.args.arena.now c.nets.arena c.run_node.new.arena (gift_rows c.args.rows.now) c.args.nets.now segs i c.nets.eqs.items c.push.new.self.items c.in_ok-value.value
          c.len.ensures.arena c.nets.invariant.arena c.nets.invariant.extends c.in_ok-value.ensures.extends (omega arith) c.in_ok-push.ensures.items c.nets.invariant.segs (c.requires.runs i (omega arith)) c.nets.invariant.each c.in_ok-value.ensures.made;
    }

pub returns-in_err-push-clause-made : goal.returns-in_err-push-clause-made
returns-in_err-push-clause-made c = IfOk-from_err _ _ c.from_residual-in_err-push.ensures.0

pub returns-in_err-push-clause-segs : goal.returns-in_err-push-clause-segs
returns-in_err-push-clause-segs c = IfOk-from_err _ _ c.from_residual-in_err-push.ensures.0

pub returns-in_err-value-clause-made : goal.returns-in_err-value-clause-made
returns-in_err-value-clause-made c = IfOk-from_err _ _ c.from_residual.ensures.0

pub returns-in_err-value-clause-segs : goal.returns-in_err-value-clause-segs
returns-in_err-value-clause-segs c = IfOk-from_err _ _ c.from_residual.ensures.0

pub returns-clause-segs : goal.returns-clause-segs
returns-clause-segs c = c.nets.invariant.segs ∙ take_all c.nets.net c.args.segs.now (omega arith)

pub returns-clause-made : goal.returns-clause-made
returns-clause-made c =
    let all : c.nets.net ≡ length c.args.segs.now = omega arith in
    record {
      as_many = length-map c.nets.eqs.items (λ (e : NetEq). e.value) ∙ sym (length-map c.nets.eqs.items (λ (e : NetEq). e.seg)) ∙ ap (λ (l : List Seg). length l) (c.nets.invariant.segs ∙ take_all c.nets.net c.args.segs.now (omega arith));
      each = λ i lt. c.nets.invariant.each i (omega (arith, lt, all));
    }

pub returns-in_err-value-clause-extends : goal.returns-in_err-value-clause-extends
returns-in_err-value-clause-extends c = extends_on c.args.arena.now c.nets.arena c.run_node.new.arena c.nets.invariant.extends c.in_err-value.ensures.extends

pub returns-in_err-push-clause-extends : goal.returns-in_err-push-clause-extends
returns-in_err-push-clause-extends c = extends_on c.args.arena.now c.nets.arena c.run_node.new.arena c.nets.invariant.extends c.in_ok-value.ensures.extends
