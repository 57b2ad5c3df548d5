use Rattle.std.proofs.Common.{◌≡◌, ℕ, ◌<◌, List, [], false, length, get_or, take_all, refl, sym, ◌∙◌, subst, arith}
use Rattle.std.specs.Prelude.{All, Contains}
use Rattle.std.proofs.lemmas.List.Elements.{All-nil}
use Rattle.node_memo.specs.Memos.{rows_in, is_fresh}
use Rattle.event_sim.proofs.Forgetting.{forgotten-none, forgotten-both, forgotten-one, gone-more}
use Rattle.event_sim.proofs.queue.forget_wire.Goals as goal

pub loop-node-init : goal.loop-node-init
loop-node-init c = record {
  memo = c.requires.memo;
  gone = All-nil (λ k. is_fresh c.args.memo.now.fresh.items k ≡ false);
  forgotten = forgotten-none (rows_in c.args.takers.now) c.args.memo.now c.args.waiting.now.items;
  room = refl;
}

pub wake_takers-requires-clause-nodes : goal.wake_takers-requires-clause-nodes
wake_takers-requires-clause-nodes c =
    subst (λ (n : ℕ). All (λ k. k < n) c.deref.result.now) (sym c.requires.takers)
    (subst (λ (l : List ℕ). All (λ k. k < length c.args.arena.now) l) (sym c.deref.ensures.value) c.forget.ensures.inside)

pub loop-node-preserved : goal.loop-node-preserved
loop-node-preserved c =
    let nodes = c.args.nodes.now in
    let takers = rows_in c.args.takers.now in
    let i = c.loop-node.node-index in
    let lt : i < length nodes = omega arith in
    let old = c.loop-node.memo in
    let new = c.forget.new.self in
    let before = c.loop-node.waiting.items in
    let after = c.wake_takers.new.waiting.items in
    let woken = subst (λ (l : List ℕ). (k : ℕ) → Contains l k → All (Contains after) (get_or takers k [])) c.deref.ensures.value c.wake_takers.ensures.woken in
    record {
      memo = c.forget.ensures.memo;
      gone = gone-more nodes i old new lt c.loop-node.invariant.gone c.forget.ensures.forgotten.fewer c.forget.ensures.forgotten.gone;
      forgotten = forgotten-both takers c.args.memo.now old new c.args.waiting.now.items before after c.loop-node.invariant.forgotten
          (forgotten-one takers old new (get_or nodes i 0) before after c.forget.ensures.forgotten woken c.wake_takers.ensures.kept);
      room = c.wake_takers.ensures.room ∙ c.loop-node.invariant.room;
    }

pub wake_takers-requires-clause-inside : goal.wake_takers-requires-clause-inside
wake_takers-requires-clause-inside c = λ k low h. omega (arith, c.requires.inside k low h, c.loop-node.invariant.room)

pub returns-clause-gone : goal.returns-clause-gone
returns-clause-gone c =
    subst (λ (l : List ℕ). All (λ k. is_fresh c.loop-node.memo.fresh.items k ≡ false) l) (take_all c.loop-node.node-index c.args.nodes.now (omega arith)) c.loop-node.invariant.gone
