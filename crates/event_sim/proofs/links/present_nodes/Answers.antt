use Rattle.std.proofs.Common.{ℕ, ◌<◌, List, [], length, get_or, sym, subst, Vec, Global}
use Rattle.std.specs.Prelude.{Contains}
use Rattle.node_memo.specs.Memos.{rows_in}
use Rattle.node_memo.proofs.Rows.{slice_back}
use Rattle.event_sim.specs.Linked.{ArePresent}
use Rattle.event_sim.proofs.links.present_nodes.Goals as goal

pub returns-clause-inside : goal.returns-clause-inside
returns-clause-inside c =
    let back = slice_back c.in_ok-present.present.len c.put_nodes.new.present c.in_ok-present.present.items c.deref_mut.result.now c.in_ok-present.present.ok.0 c.put_nodes.auto.present c.deref_mut.ensures.value in
    subst (λ (l : List (Vec ℕ Global)). (wire k : ℕ) → Contains (get_or (rows_in l) wire []) k → k < length c.args.arena.now) (sym back) c.in_ok-put_nodes.ensures.inside

pub returns-clause-present : goal.returns-clause-present
returns-clause-present c =
    let back = slice_back c.in_ok-present.present.len c.put_nodes.new.present c.in_ok-present.present.items c.deref_mut.result.now c.in_ok-present.present.ok.0 c.put_nodes.auto.present c.deref_mut.ensures.value in
    subst (λ (l : List (Vec ℕ Global)). ArePresent c.args.arena.now (length c.args.arena.now) (rows_in l)) (sym back) c.in_ok-put_nodes.ensures.present
