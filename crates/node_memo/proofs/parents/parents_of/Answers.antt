use Rattle.std.proofs.Common.{ℕ, ◌<◌, List, [], length, get_or, sym, subst, Vec, Global}
use Rattle.std.specs.Prelude.{Contains}
use Rattle.node_memo.specs.Memos.{rows_in, AreParents}
use Rattle.node_memo.proofs.Rows.{slice_back}
use Rattle.node_memo.proofs.parents.parents_of.Goals as goal

pub returns-clause-inside : goal.returns-clause-inside
returns-clause-inside c =
    let back = slice_back c.in_ok-parents.parents.len c.put_nodes.new.parents c.in_ok-parents.parents.items c.deref_mut.result.now c.in_ok-parents.parents.ok.0 c.put_nodes.auto.parents c.deref_mut.ensures.value in
    subst (λ (l : List (Vec ℕ Global)). (x k : ℕ) → Contains (get_or (rows_in l) x []) k → k < length c.args.arena.now) (sym back) c.in_ok-put_nodes.ensures.inside

pub returns-clause-parents : goal.returns-clause-parents
returns-clause-parents c =
    let back = slice_back c.in_ok-parents.parents.len c.put_nodes.new.parents c.in_ok-parents.parents.items c.deref_mut.result.now c.in_ok-parents.parents.ok.0 c.put_nodes.auto.parents c.deref_mut.ensures.value in
    subst (λ (l : List (Vec ℕ Global)). AreParents c.args.arena.now (rows_in l)) (sym back) c.in_ok-put_nodes.ensures.parents
