use Rattle.std.proofs.Common.{◌≡◌, ℕ, ◌<◌, List, [], length, get_or, take_all, sym, ap, ◌∙◌, subst, arith, inl, inr}
use Rattle.std.specs.Prelude.{All}
use Rattle.event_nets.specs.declared.gift.Gift.{Gift}
use Rattle.event_nets.specs.Needs.{gift_rows}
use Rattle.node_memo.specs.Lists.{Gains}
use Rattle.node_memo.specs.Memos.{rows_in}
use Rattle.node_memo.proofs.Rows.{gains-len}
use Rattle.event_sim.specs.Linked.{IsTakenBy, AreTaken}
use Rattle.event_sim.proofs.Linking.{nets-more}
use Rattle.event_sim.proofs.links.put_nets.Goals as goal

pub loop-low-preserved : goal.loop-low-preserved
loop-low-preserved c =
    let nets = c.args.tables.now.nets.items in
    let given = gift_rows c.args.tables.now.given.items in
    let items = c.deref-low-items.result.now in
    let i = c.loop-low.low-index in
    let lt : i < length items = omega arith in
    let within : i < length nets = omega (arith, lt, ap (λ (l : List ℕ). length l) c.deref-low-items.ensures.value) in
    let low = get_or nets i 0 in
    let old = rows_in c.loop-low.takers in
    let new = rows_in c.put_takers.new.takers in
    let same : get_or items i 0 ≡ low = ap (λ (l : List ℕ). get_or l i 0) c.deref-low-items.ensures.value in
    let g : Gains old low new = subst (λ (k : ℕ). Gains old k new) same c.in_ok-put_takers.ensures.gains in
    let own : All (IsTakenBy new low) (get_or given low []) =
    subst (λ (k : ℕ). All (IsTakenBy new k) (get_or given k [])) same
    (subst (λ (l : List Gift). All (IsTakenBy new (get_or items i 0)) l) c.given_to.ensures c.in_ok-put_takers.ensures.has) in
    record {
      len = gains-len c.loop-low.takers c.put_takers.new.takers low g ∙ c.loop-low.invariant.len;
      inside = λ k l h. elim (g.only k l h) [
        | inl before ↦ c.loop-low.invariant.inside k l before
        | inr last ↦ subst (λ (x : ℕ). x < length c.args.tables.now.given.items) (sym last) (c.requires.nets i 0 within)
      ];
      taken = nets-more nets given old new i within g c.loop-low.invariant.taken own;
    }

pub returns-clause-taken : goal.returns-clause-taken
returns-clause-taken c =
    let nets = c.args.tables.now.nets.items in
    let end = take_all c.loop-low.low-index nets (omega (arith, ap (λ (l : List ℕ). length l) c.deref-low-items.ensures.value)) in
    subst (λ (l : List ℕ). AreTaken l (gift_rows c.args.tables.now.given.items) (rows_in c.loop-low.takers)) end c.loop-low.invariant.taken
