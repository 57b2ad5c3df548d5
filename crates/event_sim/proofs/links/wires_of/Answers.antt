use Rattle.std.proofs.Common.{ℕ, ◌<◌, List, [], length, get_or, sym, subst, Vec, Global}
use Rattle.std.specs.Prelude.{Contains}
use Rattle.node_memo.specs.Memos.{rows_in}
use Rattle.node_memo.proofs.Rows.{slice_back}
use Rattle.event_sim.specs.Linked.{LieThere}
use Rattle.event_sim.proofs.links.wires_of.Goals as goal

pub returns-clause-inside : goal.returns-clause-inside
returns-clause-inside c =
    let back = slice_back c.in_ok-wires.wires.len c.put_wires.new.wires c.in_ok-wires.wires.items c.deref_mut.result.now c.in_ok-wires.wires.ok.0 c.put_wires.auto.wires c.deref_mut.ensures.value in
    subst (λ (l : List (Vec ℕ Global)). (low n : ℕ) → Contains (get_or (rows_in l) low []) n → n < length c.args.widths.now) (sym back) c.in_ok-put_wires.ensures.inside

pub returns-clause-lie : goal.returns-clause-lie
returns-clause-lie c =
    let back = slice_back c.in_ok-wires.wires.len c.put_wires.new.wires c.in_ok-wires.wires.items c.deref_mut.result.now c.in_ok-wires.wires.ok.0 c.put_wires.auto.wires c.deref_mut.ensures.value in
    let tables = c.args.tables.now in
    subst (λ (l : List (Vec ℕ Global)). LieThere c.args.widths.now tables.starts.items tables.homes.items tables.lows.items (rows_in l)) (sym back) c.in_ok-put_wires.ensures.lie
