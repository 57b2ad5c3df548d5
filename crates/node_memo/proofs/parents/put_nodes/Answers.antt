use Rattle.std.proofs.Common.{◌≡◌, ℕ, [], get_or, ◌∙◌, subst, arith, inl, inr}
use Rattle.std.specs.Prelude.{Contains}
use Rattle.std.proofs.lemmas.Bool.{cases_lt}
use Rattle.svex_shape.specs.Shapes.{OnChildren, shape_at}
use Rattle.svex_arena.proofs.Numbering.{map_children}
use Rattle.node_memo.specs.Memos.{rows_in}
use Rattle.node_memo.proofs.Rows.{gains-len}
use Rattle.node_memo.proofs.parents.put_nodes.Goals as goal

pub loop-node-preserved : goal.loop-node-preserved
loop-node-preserved c =
    let shapes = c.args.arena.now in
    let node = c.loop-node.node in
    let old = c.loop-node.parents in
    let new = c.put_node.new.parents in
    let kept = c.loop-node.invariant in
    let g = c.in_ok-put_node.ensures.gains in
    record {
      len = gains-len old new node g ∙ kept.len;
      inside = λ x k h. elim (g.only x k h) [
        | inl before ↦ omega (arith, kept.inside x k before)
        | inr same ↦ omega (arith, same)
      ];
      parents = λ k lt. elim (cases_lt k node) [
        | inl before ↦ map_children (λ x. Contains (get_or (rows_in old) x []) k) (λ x. Contains (get_or (rows_in new) x []) k) (λ x p. g.keeps x k p) (shape_at shapes k) (kept.parents k before)
        | inr past ↦
            let same : node ≡ k = omega (arith, past, lt) in
            subst (λ (j : ℕ). OnChildren (λ x. Contains (get_or (rows_in new) x []) j) (shape_at shapes j)) same c.in_ok-put_node.ensures.has
      ];
    }

pub returns-clause-inside : goal.returns-clause-inside
returns-clause-inside c = λ x k h. omega (arith, c.loop-node.invariant.inside x k h)
