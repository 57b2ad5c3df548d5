use Rattle.std.proofs.Common.{◌≡◌, ℕ, ◌<◌, List, [], length, get_or, refl, sym, ◌∙◌, subst, arith}
use Rattle.std.specs.Prelude.{All, Contains}
use Rattle.std.proofs.lemmas.List.{get_or_default}
use Rattle.node_memo.specs.Memos.{rows_in}
use Rattle.node_memo.proofs.Rows.{none-has}
use Rattle.event_sim.proofs.Forgetting.{woken-more}
use Rattle.event_sim.proofs.Queueing.{woken-kept}
use Rattle.event_sim.proofs.queue.wake_takers.Goals as goal

pub loop-node-init : goal.loop-node-init
loop-node-init c = record { woken = λ k h. absurd (none-has k h); kept = λ k h. h; room = refl }

pub wake-requires : goal.wake-requires
wake-requires c =
    let nodes = c.args.nodes.now in
    let takers = c.args.takers.now in
    let i = c.loop-node.node-index in
    let lt : i < length nodes = omega arith in
    let node = get_or nodes i 0 in
    let row = get_or (rows_in takers) node [] in
    let there = c.requires.nodes i 0 lt in
    let list : c.nets_of.result.now ≡ row = c.nets_of.ensures in
    subst (λ (l : List ℕ). All (λ low. low < c.loop-node.waiting.room) l) (sym list)
    (λ j d l. omega (arith, c.requires.inside node (get_or row j d) (j, l, get_or_default row j (get_or row j d) d l), c.loop-node.invariant.room))

pub loop-node-preserved : goal.loop-node-preserved
loop-node-preserved c =
    let nodes = c.args.nodes.now in
    let takers = c.args.takers.now in
    let i = c.loop-node.node-index in
    let lt : i < length nodes = omega arith in
    let node = get_or nodes i 0 in
    let before = c.loop-node.waiting.items in
    let after = c.wake.new.waiting.items in
    let there = c.requires.nodes i 0 lt in
    let list : c.nets_of.result.now ≡ get_or (rows_in takers) node [] = c.nets_of.ensures in
    let kept = woken-kept c.nets_of.result.now before after c.wake.ensures.woken in
    record {
      woken = woken-more (rows_in takers) nodes i before after lt c.loop-node.invariant.woken kept (subst (λ (l : List ℕ). All (Contains after) l) list c.wake.ensures.woken.all);
      kept = λ k h. kept k (c.loop-node.invariant.kept k h);
      room = c.wake.ensures.room ∙ c.loop-node.invariant.room;
    }
