use Rattle.std.proofs.Common.{ℕ, ◌<◌, List, [], ◌∷◌, length, get_or, take, sym, ◌∙◌, subst, arith}
use Rattle.std.proofs.lemmas.List.{take_more}
use Rattle.node_memo.specs.Walks.{AreDropped}
use Rattle.node_memo.proofs.Ups.{dropped-both}
use Rattle.node_memo.proofs.memo.drop_all.Goals as goal

pub loop-node-preserved : goal.loop-node-preserved
loop-node-preserved c =
    let nodes = c.args.nodes.now in
    let i = c.loop-node.node-index in
    let lt : i < length nodes = omega arith in
    let fresh = c.loop-node.fresh.items in
    let stale = c.loop-node.stale.items in
    let fresh2 = c.drop_one.new.fresh.items in
    let stale2 = c.drop_one.new.stale.items in
    record {
      dropped = subst (λ (l : List ℕ). AreDropped l c.args.fresh.now.items c.args.stale.now.items fresh2 stale2) (sym (take_more nodes i 0 lt))
          (dropped-both (take i nodes) (get_or nodes i 0 ∷ []) c.args.fresh.now.items c.args.stale.now.items fresh stale fresh2 stale2 c.loop-node.invariant.dropped c.drop_one.ensures.dropped);
      room = c.drop_one.ensures.room ∙ c.loop-node.invariant.room;
    }
