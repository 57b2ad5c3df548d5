use Rattle.std.proofs.lemmas.Result.{IfOk-from_err}
use Rattle.std.proofs.Common.{◌+◌, ℕ, sym, ◌∙◌, subst, arith}
use Rattle.svex_arena.proofs.Keeping.{extends_on}
use Rattle.svex_arena.proofs.Steps.{width-extends}
use Rattle.driver_resolve.specs.Drivers.{widths_of}
use Rattle.event_nets.specs.Needs.{gift_rows}
use Rattle.net_resolve.specs.Pieces.{IsMade, IsGivenRun, HasInRun, run_value}
use Rattle.net_resolve.proofs.Making.{run_kept}
use Rattle.net_resolve.proofs.Piecing.{run-part, more_of_run}
use Rattle.net_resolve.proofs.pieces.run_node.Goals as goal

pub pieces-init : goal.pieces-init
pieces-init c = record {
  arena = c.in_ok-node.ensures.arena;
  extends = c.in_ok-node.ensures.extends;
  most = c.piece_width-at.ensures.most;
  made = c.in_ok-node.ensures.made;
}

pub piece_node-requires-in-pieces-clause-run : goal.piece_node-requires-in-pieces-clause-run
piece_node-requires-in-pieces-clause-run c =
    let widths = widths_of c.args.wires.now in
    let rows = gift_rows c.args.rows.now in
    let more = c.piece_width-more.result in
    run_kept widths c.args.arena.now c.pieces.arena rows (c.args.low + c.from.result) more c.pieces.invariant.extends
    (subst (λ (k : ℕ). IsGivenRun widths c.args.arena.now rows (c.args.low + k) more) (sym c.from.ensures)
    (run-part widths c.args.arena.now rows c.args.low c.args.width c.pieces.at more c.requires.run c.piece_width-more.ensures.some (omega (arith, c.piece_width-more.ensures.most, c.pieces.invariant.most))))

pub above-requires-clause-narrow : goal.above-requires-clause-narrow
above-requires-clause-narrow c =
    let high = c.in_ok-high.ensures.made.wide in
    let low = width-extends c.pieces.arena c.piece_node-in-pieces.new.arena c.pieces.node c.in_ok-high.ensures.extends c.pieces.invariant.made.there ∙ c.pieces.invariant.made.wide in
    omega (arith, high, low, c.piece_width-more.ensures.most, c.pieces.invariant.most, c.requires.run.most)

pub pieces-preserved : goal.pieces-preserved
pieces-preserved c =
    let widths = widths_of c.args.wires.now in
    let base = c.args.arena.now in
    let old = c.pieces.arena in
    let mid = c.piece_node-in-pieces.new.arena in
    let new = c.above.new.arena in
    let rows = gift_rows c.args.rows.now in
    let low = c.args.low in
    let at = c.pieces.at in
    let more = c.piece_width-more.result in
    let high = subst (λ (k : ℕ). IsMade widths old (HasInRun rows (low + k) more) more (run_value widths old rows (low + k) more) mid c.in_ok-high.high) c.from.ensures c.in_ok-high.ensures.made in
    record {
      arena = c.in_ok-node-2.ensures.arena;
      extends = extends_on base old new c.pieces.invariant.extends (extends_on old mid new c.in_ok-high.ensures.extends c.in_ok-node-2.ensures.extends);
      most = omega (arith, c.piece_width-more.ensures.most, c.pieces.invariant.most);
      made = more_of_run widths base old mid new rows low c.args.width at more c.pieces.node c.in_ok-high.high c.in_ok-node-2.node c.len.ensures.arena c.pieces.invariant.arena
          c.pieces.invariant.extends c.in_ok-high.ensures.extends c.requires.run c.piece_width-more.ensures.some (omega (arith, c.piece_width-more.ensures.most, c.pieces.invariant.most)) c.pieces.invariant.made high c.in_ok-node-2.ensures.pair;
    }

pub returns-in_err-high-clause-made : goal.returns-in_err-high-clause-made
returns-in_err-high-clause-made c = IfOk-from_err _ _ c.from_residual-in_err-high.ensures.0

pub returns-in_err-node-2-clause-made : goal.returns-in_err-node-2-clause-made
returns-in_err-node-2-clause-made c = IfOk-from_err _ _ c.from_residual-in_err-node-2.ensures.0

pub returns-in_err-node-clause-made : goal.returns-in_err-node-clause-made
returns-in_err-node-clause-made c = IfOk-from_err _ _ c.from_residual.ensures.0
