use Rattle.std.proofs.Common.{◌≡◌, ℕ, ◌+◌, ◌<◌, [], length, get_or, ◌∙◌, subst, arith, inl, inr}
use Rattle.std.specs.Prelude.{Option, Some, IfSome, Contains}
use Rattle.std.proofs.lemmas.Bool.{cases_lt}
use Rattle.std.proofs.lemmas.List.{get_or_default}
use Rattle.node_memo.specs.Memos.{rows_in}
use Rattle.node_memo.proofs.Rows.{gains-len}
use Rattle.event_sim.specs.Rows.{low_at}
use Rattle.event_sim.proofs.links.put_wires.Goals as goal

pub loop-wire-preserved : goal.loop-wire-preserved
loop-wire-preserved c =
    let homes = c.args.tables.now.homes.items in
    let lows = c.args.tables.now.lows.items in
    let starts = c.args.tables.now.starts.items in
    let widths = c.args.widths.now in
    let wire = c.loop-wire.wire in
    let old = c.loop-wire.wires in
    let new = c.put_bits.new.wires in
    let kept = c.loop-wire.invariant in
    let g = c.in_ok-put_bits.ensures.gains in
    let lt : wire < length starts = omega (arith, c.requires.starts) in
    let start : c.index.result.now ≡ get_or starts wire 0 = c.index.ensures ∙ get_or_default starts wire c.index.result.now 0 lt in
    record {
      len = gains-len old new wire g ∙ kept.len;
      inside = λ low n h. elim (g.only low n h) [
        | inl before ↦ omega (arith, kept.inside low n before)
        | inr same ↦ omega (arith, same)
      ];
      lie = λ n k low nl kl is. elim (cases_lt n wire) [
        | inl before ↦ g.keeps low n (kept.lie n k low before kl is)
        | inr past ↦
            let same : wire ≡ n = omega (arith, past, nl) in
            subst (λ (j : ℕ). k < get_or widths j 0 → low_at homes lows (get_or starts j 0 + k) ≡ Some low → Contains (get_or (rows_in new) low []) j) same
            (λ kl2 is2.
            subst (λ (o : Option ℕ). IfSome o (λ l. Contains (get_or (rows_in new) l []) wire)) is2
            (subst (λ (s : ℕ). IfSome (low_at homes lows (s + k)) (λ l. Contains (get_or (rows_in new) l []) wire)) start (c.in_ok-put_bits.ensures.has k kl2)))
            kl is
      ];
    }

pub returns-clause-inside : goal.returns-clause-inside
returns-clause-inside c = λ low n h. omega (arith, c.loop-wire.invariant.inside low n h)
