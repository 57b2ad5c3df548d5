use Rattle.std.proofs.Common.{ℕ, ◌<◌, List, [], length, get_or, sym, subst, Vec, Global}
use Rattle.std.specs.Prelude.{Contains}
use Rattle.event_nets.specs.Needs.{gift_rows}
use Rattle.node_memo.specs.Memos.{rows_in}
use Rattle.node_memo.proofs.Rows.{slice_back}
use Rattle.event_sim.specs.Linked.{AreTaken}
use Rattle.event_sim.proofs.links.takers_of.Goals as goal

pub returns-clause-inside : goal.returns-clause-inside
returns-clause-inside c =
    let back = slice_back c.in_ok-takers.takers.len c.put_nets.new.takers c.in_ok-takers.takers.items c.deref_mut.result.now c.in_ok-takers.takers.ok.0 c.put_nets.auto.takers c.deref_mut.ensures.value in
    subst (λ (l : List (Vec ℕ Global)). (k low : ℕ) → Contains (get_or (rows_in l) k []) low → low < length c.args.tables.now.given.items) (sym back) c.in_ok-put_nets.ensures.inside

pub returns-clause-taken : goal.returns-clause-taken
returns-clause-taken c =
    let back = slice_back c.in_ok-takers.takers.len c.put_nets.new.takers c.in_ok-takers.takers.items c.deref_mut.result.now c.in_ok-takers.takers.ok.0 c.put_nets.auto.takers c.deref_mut.ensures.value in
    let tables = c.args.tables.now in
    subst (λ (l : List (Vec ℕ Global)). AreTaken tables.nets.items (gift_rows tables.given.items) (rows_in l)) (sym back) c.in_ok-put_nets.ensures.taken
