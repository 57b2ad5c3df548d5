use Rattle.std.proofs.Common.{◌≡◌, ℕ, ◌<◌, [], length, get_or, ap, ◌∙◌, subst, arith, inl, inr}
use Rattle.std.specs.Prelude.{Option, Some, IfSome, Contains}
use Rattle.std.proofs.lemmas.Bool.{cases_lt}
use Rattle.svex_shape.specs.declared.shape.Shape.{Shape}
use Rattle.svex_shape.specs.Shapes.{shape_at}
use Rattle.node_memo.specs.Memos.{rows_in}
use Rattle.node_memo.proofs.Rows.{gains-len, rows-len}
use Rattle.event_sim.specs.Linked.{present_of}
use Rattle.event_sim.proofs.links.put_nodes.Goals as goal

pub loop-node-preserved : goal.loop-node-preserved
loop-node-preserved c =
    let shapes = c.args.arena.now in
    let node = c.loop-node.node in
    let old = c.loop-node.present in
    let new = c.put_present.new.present in
    let kept = c.loop-node.invariant in
    let g = c.in_ok-put_present.ensures.gains in
    let shape : c.shape.result ≡ shape_at shapes node = c.shape.ensures.is ∙ ap (λ k. shape_at shapes k) c.new.ensures in
    record {
      len = gains-len old new node g ∙ kept.len;
      inside = λ wire k h. elim (g.only wire k h) [
        | inl before ↦ omega (arith, kept.inside wire k before)
        | inr same ↦ omega (arith, same)
      ];
      present = λ k wire kl is wl.
          let within : wire < length (rows_in old) = omega (arith, wl, g.len) in
          elim (cases_lt k node) [
            | inl before ↦ g.keeps wire k (kept.present k wire before is within)
            | inr past ↦
                let same : node ≡ k = omega (arith, past, kl) in
                subst (λ (j : ℕ). present_of (shape_at shapes j) ≡ Some wire → Contains (get_or (rows_in new) wire []) j) same
                (λ is2.
                subst (λ (o : Option ℕ). IfSome o (λ w. w < length old → Contains (get_or (rows_in new) w []) node)) (ap (λ (s : Shape). present_of s) shape ∙ is2) c.in_ok-put_present.ensures.has
                (omega (arith, within, rows-len old)))
                is
          ];
    }

pub returns-clause-inside : goal.returns-clause-inside
returns-clause-inside c = λ wire k h. omega (arith, c.loop-node.invariant.inside wire k h)
