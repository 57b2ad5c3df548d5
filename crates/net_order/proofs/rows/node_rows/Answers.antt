use Rattle.std.proofs.lemmas.Result.{IfOk-from_err}
use Rattle.std.proofs.Common.{◌≡◌, ℕ, ◌+◌, List, length, ap, ◌∙◌, subst, arith}
use Rattle.std.specs.Prelude.{slice_index}
use Rattle.std.proofs.lemmas.List.{length_push, get_or_read}
use Rattle.svex_shape.specs.Shapes.{shape_at}
use Rattle.net_order.specs.Rows.{IsNodeRow}
use Rattle.net_order.proofs.Listing.{rows-more}
use Rattle.net_order.proofs.rows.node_rows.Goals as goal

pub nodes-preserved : goal.nodes-preserved
nodes-preserved c =
    let old = c.nodes.rows.items in
    let nodes = c.args.used.now.nodes.items in
    let v = c.index.result.now in
    let at : v ≡ slice_index nodes c.nodes.p = get_or_read nodes c.nodes.p v (omega (arith, c.nodes-test.true, c.len-p-end.ensures, c.args.used.now.nodes.ok.0)) c.index.ensures 0 in
    let row = c.in_ok-node_row.field-0 in
    record {
      size = ap (λ (l : List (List ℕ)). length l) c.in_ok-push.ensures.items ∙ length_push old row ∙ ap (λ n. n + 1) c.nodes.invariant.size;
      rows = rows-more (λ p r. IsNodeRow c.args.joins.now c.args.tellers.now.segs.items (length nodes) (slice_index c.args.used.now.places.items) (shape_at c.args.arena.now (slice_index nodes p)) r)
          old c.push.new.self.items row c.nodes.p c.nodes.invariant.size c.in_ok-push.ensures.items c.nodes.invariant.rows
          (subst (λ v. IsNodeRow c.args.joins.now c.args.tellers.now.segs.items (length nodes) (slice_index c.args.used.now.places.items) (shape_at c.args.arena.now v) row) at c.in_ok-node_row.ensures);
    }

pub returns-in_err-node_row-clause-rows : goal.returns-in_err-node_row-clause-rows
returns-in_err-node_row-clause-rows c = IfOk-from_err _ _ c.from_residual-in_err-node_row.ensures.0

pub returns-in_err-node_row-clause-size : goal.returns-in_err-node_row-clause-size
returns-in_err-node_row-clause-size c = IfOk-from_err _ _ c.from_residual-in_err-node_row.ensures.0

pub returns-in_err-push-clause-rows : goal.returns-in_err-push-clause-rows
returns-in_err-push-clause-rows c = IfOk-from_err _ _ c.from_residual-in_err-push.ensures.0

pub returns-in_err-push-clause-size : goal.returns-in_err-push-clause-size
returns-in_err-push-clause-size c = IfOk-from_err _ _ c.from_residual-in_err-push.ensures.0

pub returns-in_err-rows-clause-rows : goal.returns-in_err-rows-clause-rows
returns-in_err-rows-clause-rows c = IfOk-from_err _ _ c.from_residual.ensures.0

pub returns-in_err-rows-clause-size : goal.returns-in_err-rows-clause-size
returns-in_err-rows-clause-size c = IfOk-from_err _ _ c.from_residual.ensures.0
