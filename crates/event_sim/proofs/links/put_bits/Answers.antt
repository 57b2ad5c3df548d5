use Rattle.std.proofs.Common.{◌≡◌, ℕ, ◌+◌, [], get_or, ap, ◌∙◌, subst, arith, inl, inr}
use Rattle.std.specs.Prelude.{Option, IfSome, Contains}
use Rattle.std.proofs.lemmas.Bool.{cases_lt}
use Rattle.std.proofs.lemmas.Option.{IfSome_then}
use Rattle.node_memo.specs.Memos.{rows_in}
use Rattle.node_memo.proofs.Rows.{gains-both}
use Rattle.event_sim.specs.Rows.{low_at}
use Rattle.event_sim.proofs.links.put_bits.Goals as goal

pub loop-at-preserved : goal.loop-at-preserved
loop-at-preserved c =
    let homes = c.args.tables.now.homes.items in
    let lows = c.args.tables.now.lows.items in
    let start = c.args.start in
    let wire = c.args.wire in
    let at = c.loop-at.at in
    let old = c.loop-at.wires in
    let new = c.put_wire.new.wires in
    let g = c.in_ok-put_wire.ensures.gains in
    let low : c.net_at-low.result ≡ low_at homes lows (start + at) = c.net_at-low.ensures ∙ ap (λ j. low_at homes lows (start + j)) c.from.ensures in
    record {
      gains = gains-both (rows_in c.args.wires.now) (rows_in old) (rows_in new) wire c.loop-at.invariant.gains g;
      has = λ k lt. elim (cases_lt k at) [
        | inl before ↦ IfSome_then (low_at homes lows (start + k)) (c.loop-at.invariant.has k before) (λ l h. g.keeps l wire h)
        | inr past ↦
            let same : at ≡ k = omega (arith, past, lt) in
            subst (λ j. IfSome (low_at homes lows (start + j)) (λ l. Contains (get_or (rows_in new) l []) wire)) same
            (subst (λ (o : Option ℕ). IfSome o (λ l. Contains (get_or (rows_in new) l []) wire)) low c.in_ok-put_wire.ensures.has)
      ];
    }
