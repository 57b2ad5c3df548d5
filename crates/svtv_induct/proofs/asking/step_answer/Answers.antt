use Rattle.std.proofs.Common.{◌≡◌, ◌<◌, ℕ, List, [], length, All, Option, get_or, ap, ◌∙◌, sym, subst}
use Rattle.std.specs.Prelude.{IsTrue}
use Rattle.goal_gates.specs.Goals.{is_chosen}
use Rattle.svex_arena.specs.Arenas.{Extends}
use Rattle.svex_arena.proofs.Keeping.{extends_on}
use Rattle.svex_shape.specs.declared.shape.Shape.{Shape}
use Rattle.svex_shape.specs.Shapes.{width_at}
use Rattle.svex_shape.specs.Values.{each_variable}
use Rattle.svtv_table.specs.declared.bound.Sample.{Sample}
use Rattle.svtv_unroll.specs.Unrolled.{Start}
use Rattle.svtv_unroll.proofs.Growing.{grown_on}
use Rattle.svtv_unroll.proofs.Running.{design_grown}
use Rattle.svtv_induct.specs.Halves.{claims_at}
use Rattle.svtv_induct.specs.Putting.{ArePresent}
use Rattle.svtv_induct.proofs.Answering.{claims_there, claims_wide, goal_as, grown_with, half_over, half_with, hyps_held, hyps_there, hyps_wide, joined_held, row_held, step_chosen, step_said, table_bound, table_sets, vars_many, vars_widths, vars_wires, wide_firsts}
use Rattle.svtv_induct.proofs.Reading.{are_chosen, are_there}
use Rattle.svtv_induct.proofs.Hypotheses.{are_present}
use Rattle.svtv_induct.proofs.Step.{nodes_kept}
use Rattle.svtv_induct.proofs.asking.step_answer.Goals as goal

-- ---- the row before the first phase

pub state_row-requires-clause-widths : goal.state_row-requires-clause-widths
state_row-requires-clause-widths c = vars_widths c.args.half.now c.args.at c.args.bound.now c.as_slice-vars.result.now c.requires.half c.requires.wider c.as_slice-vars.ensures

pub state_row-requires-clause-wires : goal.state_row-requires-clause-wires
state_row-requires-clause-wires c =
    vars_wires c.args.half.now c.args.at c.args.bound.now c.as_slice-vars.result.now c.requires.half c.requires.wider c.as_slice-vars.ensures c.as_slice.result.now c.len-2.result c.as_slice.ensures c.len-2.ensures

pub state_row-requires-clause-many : goal.state_row-requires-clause-many
state_row-requires-clause-many c =
    vars_many c.args.half.now c.args.at c.args.bound.now c.as_slice-vars.result.now c.requires.half c.requires.wider c.as_slice-vars.ensures c.as_slice.result.now c.len-2.result c.as_slice.ensures c.len-2.ensures

pub state_row-requires-clause-firsts : goal.state_row-requires-clause-firsts
state_row-requires-clause-firsts c = wide_firsts c.args.half.now c.args.at c.as_slice.result.now c.as_slice-2.result.now c.requires.half c.as_slice.ensures c.as_slice-2.ensures

pub returns-in_err-start-clause-grown : goal.returns-in_err-start-clause-grown
returns-in_err-start-clause-grown c = let h = c.args.half.now in half_with h _ (grown_with h.fsm c.state_row.new.arena c.state_row.ensures.extends)

-- ---- the period from there

pub unroll_from-requires-clause-bound : goal.unroll_from-requires-clause-bound
unroll_from-requires-clause-bound c = table_bound c.args.half.now c.args.at c.args.bound.now c.requires.half c.requires.wider

pub unroll_from-requires-clause-design : goal.unroll_from-requires-clause-design
unroll_from-requires-clause-design c = let h = c.args.half.now in design_grown h.fsm _ (grown_with h.fsm c.state_row.new.arena c.state_row.ensures.extends) c.requires.half.design

pub unroll_from-requires-clause-sets : goal.unroll_from-requires-clause-sets
unroll_from-requires-clause-sets c = table_sets c.args.half.now c.args.at c.args.bound.now c.requires.half c.requires.wider

pub unroll_from-requires-clause-start : goal.unroll_from-requires-clause-start
unroll_from-requires-clause-start c =
    row_held c.args.half.now c.args.bound.now c.state_row.new.arena c.as_slice-vars.result.now c.as_slice.result.now c.in_ok-start.start.items c.deref.result.now c.as_slice-vars.ensures c.as_slice.ensures c.deref.ensures.value c.in_ok-start.ensures.row

pub returns-in_err-samples-clause-grown : goal.returns-in_err-samples-clause-grown
returns-in_err-samples-clause-grown c =
    let h = c.args.half.now in half_with h c.unroll_from.new.fsm (grown_on h.fsm _ c.unroll_from.new.fsm (grown_with h.fsm c.state_row.new.arena c.state_row.ensures.extends) c.unroll_from.ensures.grown)

-- ---- the hypotheses

pub claims_of-claims-requires : goal.claims_of-claims-requires
claims_of-claims-requires c = subst (λ (cs : List (List ℕ)). c.args.at < length cs) (sym c.as_slice-3.ensures) c.requires.half.there

pub hypotheses-requires-clause-present : goal.hypotheses-requires-clause-present
hypotheses-requires-clause-present c =
    let h = c.args.half.now in
    let bound = c.args.bound.now in
    let row = row_held h bound c.state_row.new.arena c.as_slice-vars.result.now c.as_slice.result.now c.in_ok-start.start.items c.deref-2.result.now c.as_slice-vars.ensures c.as_slice.ensures c.deref-2.ensures.value c.in_ok-start.ensures.row in
    subst (λ (ss : List Sample). ArePresent ss c.deref-2.result.now) (sym c.as_slice-4.ensures)
    (are_present bound.vars c.state_row.new.arena h.fsm.flat.wires bound c.deref-2.result.now (table_bound h c.args.at bound c.requires.half c.requires.wider) row)

pub hypotheses-requires-clause-claims : goal.hypotheses-requires-clause-claims
hypotheses-requires-clause-claims c =
    let h = c.args.half.now in
    let mid = c.unroll_from.new.fsm.flat.arena in
    subst (λ (ns : List ℕ). All (λ node. node < length mid) ns) (sym (c.claims_of-claims.ensures ∙ ap (λ (cs : List (List ℕ)). get_or cs c.args.at []) c.as_slice-3.ensures))
    (claims_there h c.args.at mid c.requires.half (extends_on h.fsm.flat.arena c.state_row.new.arena mid c.state_row.ensures.extends c.unroll_from.ensures.grown.extends))

pub returns-in_err-hyps-clause-grown : goal.returns-in_err-hyps-clause-grown
returns-in_err-hyps-clause-grown c =
    let h = c.args.half.now in
    let fsm = c.unroll_from.new.fsm in
    half_over h fsm c.hypotheses.new.arena (grown_on h.fsm _ fsm (grown_with h.fsm c.state_row.new.arena c.state_row.ensures.extends) c.unroll_from.ensures.grown) c.hypotheses.ensures.extends

-- ---- the question

pub ask_broken-requires-clause-widths : goal.ask_broken-requires-clause-widths
ask_broken-requires-clause-widths c = vars_widths c.args.half.now c.args.at c.args.bound.now c.as_slice-vars.result.now c.requires.half c.requires.wider c.as_slice-vars.ensures

pub ask_broken-requires-clause-samples : goal.ask_broken-requires-clause-samples
ask_broken-requires-clause-samples c =
    let bound = c.args.bound.now in
    let new = c.hypotheses.new.arena in
    let own = c.in_ok-samples.samples in
    let kept = nodes_kept bound.vars bound.samples c.unroll_from.new.fsm.flat.arena new own c.hypotheses.ensures.extends c.in_ok-samples.ensures.nodes in
    subst (λ (ns : List ℕ). All (λ node. node < length new) ns) (sym c.as_slice-samples.ensures) (are_there bound.vars bound.samples new own kept)

pub ask_broken-requires-clause-chosen : goal.ask_broken-requires-clause-chosen
ask_broken-requires-clause-chosen c =
    let bound = c.args.bound.now in
    let new = c.hypotheses.new.arena in
    let own = c.in_ok-samples.samples in
    let kept = nodes_kept bound.vars bound.samples c.unroll_from.new.fsm.flat.arena new own c.hypotheses.ensures.extends c.in_ok-samples.ensures.nodes in
    subst (λ (ns : List ℕ). All (λ node. IsTrue (each_variable is_chosen new node)) ns) (sym c.as_slice-samples.ensures) (are_chosen bound.vars bound.samples new own c.hypotheses.ensures.arena kept)

pub ask_broken-requires-clause-hyps : goal.ask_broken-requires-clause-hyps
ask_broken-requires-clause-hyps c =
    let new = c.hypotheses.new.arena in
    subst (λ (ns : List ℕ). All (λ node. node < length new) ns) (sym c.deref-3.ensures.value) (hyps_there _ _ _ new _ c.in_ok-hyps.hyps.items c.in_ok-hyps.ensures.hyps)

pub ask_broken-requires-clause-claims : goal.ask_broken-requires-clause-claims
ask_broken-requires-clause-claims c =
    let h = c.args.half.now in
    let new = c.hypotheses.new.arena in
    let mid = c.unroll_from.new.fsm.flat.arena in
    subst (λ (ns : List ℕ). All (λ node. node < length new) ns) (sym (c.claims_of-claims.ensures ∙ ap (λ (cs : List (List ℕ)). get_or cs c.args.at []) c.as_slice-3.ensures))
    (claims_there h c.args.at new c.requires.half
    (extends_on h.fsm.flat.arena mid new (extends_on h.fsm.flat.arena c.state_row.new.arena mid c.state_row.ensures.extends c.unroll_from.ensures.grown.extends) c.hypotheses.ensures.extends))

pub ask_broken-requires-clause-one_bit : goal.ask_broken-requires-clause-one_bit
ask_broken-requires-clause-one_bit c =
    let h = c.args.half.now in
    let new = c.hypotheses.new.arena in
    let mid = c.unroll_from.new.fsm.flat.arena in
    let wide = subst (λ (ns : List ℕ). All (λ node. width_at mid node ≡ 1) ns) (sym (c.claims_of-claims.ensures ∙ ap (λ (cs : List (List ℕ)). get_or cs c.args.at []) c.as_slice-3.ensures))
    (claims_wide h c.args.at mid c.requires.half (extends_on h.fsm.flat.arena c.state_row.new.arena mid c.state_row.ensures.extends c.unroll_from.ensures.grown.extends)) in
    subst (λ (ns : List ℕ). All (λ node. width_at new node ≡ 1) ns) (sym c.deref-3.ensures.value) (hyps_wide _ _ mid new c.claims_of-claims.result.now c.in_ok-hyps.hyps.items c.in_ok-hyps.ensures.hyps wide)

pub ask_broken-requires-clause-one_bit_claims : goal.ask_broken-requires-clause-one_bit_claims
ask_broken-requires-clause-one_bit_claims c =
    let h = c.args.half.now in
    let new = c.hypotheses.new.arena in
    let mid = c.unroll_from.new.fsm.flat.arena in
    subst (λ (ns : List ℕ). All (λ node. width_at new node ≡ 1) ns) (sym (c.claims_of-claims.ensures ∙ ap (λ (cs : List (List ℕ)). get_or cs c.args.at []) c.as_slice-3.ensures))
    (claims_wide h c.args.at new c.requires.half
    (extends_on h.fsm.flat.arena mid new (extends_on h.fsm.flat.arena c.state_row.new.arena mid c.state_row.ensures.extends c.unroll_from.ensures.grown.extends) c.hypotheses.ensures.extends))

-- ---- what is said

pub returns-clause-answer : goal.returns-clause-answer
returns-clause-answer c =
    let h = c.args.half.now in
    let at = c.args.at in
    let bound = c.args.bound.now in
    let begin = c.state_row.new.arena in
    let mid = c.unroll_from.new.fsm.flat.arena in
    let new = c.hypotheses.new.arena in
    let row : List (Option ℕ) = c.deref.result.now in
    let start : Start = record { shapes = begin; row = row } in
    let own = c.in_ok-samples.samples in
    let hyps = c.in_ok-hyps.hyps.items in
    let same : c.claims_of-claims.result.now ≡ claims_at h at = c.claims_of-claims.ensures ∙ ap (λ (cs : List (List ℕ)). get_or cs at []) c.as_slice-3.ensures in
    step_said h at c.args.budget bound start mid new own hyps c.ask_broken.result c.requires.wider
    (record {
      half = c.requires.half;
      arena = c.len.ensures.arena;
      mid_arena = c.len-3.ensures.arena;
      new_arena = c.hypotheses.ensures.arena;
      begins = c.state_row.ensures.extends;
      unrolls = c.unroll_from.ensures.grown.extends;
      puts = c.hypotheses.ensures.extends;
      row = row_held h bound begin c.as_slice-vars.result.now c.as_slice.result.now c.in_ok-start.start.items row c.as_slice-vars.ensures c.as_slice.ensures c.deref.ensures.value c.in_ok-start.ensures.row;
      joined = joined_held h bound begin c.as_slice-vars.result.now c.as_slice.result.now c.len-2.result c.as_slice-2.result.now c.in_ok-start.start.items row c.as_slice-vars.ensures c.as_slice.ensures c.len-2.ensures c.as_slice-2.ensures c.deref.ensures.value
          c.in_ok-start.ensures.joined;
      nodes = c.in_ok-samples.ensures.nodes;
      put = hyps_held bound mid new c.as_slice-4.result.now row c.deref-2.result.now (claims_at h at) c.claims_of-claims.result.now hyps c.as_slice-4.ensures (c.deref-2.ensures.value ∙ sym c.deref.ensures.value) same c.in_ok-hyps.ensures.hyps;
      least = c.in_ok-samples.ensures.least;
    })
    (goal_as c.args.budget new c.ask_broken.result bound.vars c.as_slice-vars.result.now own c.as_slice-samples.result.now hyps c.deref-3.result.now (claims_at h at) c.claims_of-claims.result.now c.as_slice-vars.ensures c.as_slice-samples.ensures
    c.deref-3.ensures.value same c.ask_broken.ensures.answer)

pub returns-clause-chosen : goal.returns-clause-chosen
returns-clause-chosen c =
    let h = c.args.half.now in
    let at = c.args.at in
    let bound = c.args.bound.now in
    let new = c.hypotheses.new.arena in
    let own = c.in_ok-samples.samples in
    let hyps = c.in_ok-hyps.hyps.items in
    let same : c.claims_of-claims.result.now ≡ claims_at h at = c.claims_of-claims.ensures ∙ ap (λ (cs : List (List ℕ)). get_or cs at []) c.as_slice-3.ensures in
    step_chosen h at c.args.budget bound new own hyps c.ask_broken.result c.requires.wider
    (goal_as c.args.budget new c.ask_broken.result bound.vars c.as_slice-vars.result.now own c.as_slice-samples.result.now hyps c.deref-3.result.now (claims_at h at) c.claims_of-claims.result.now c.as_slice-vars.ensures c.as_slice-samples.ensures
    c.deref-3.ensures.value same c.ask_broken.ensures.answer)

pub returns-clause-grown : goal.returns-clause-grown
returns-clause-grown c =
    let h = c.args.half.now in
    let fsm = c.unroll_from.new.fsm in
    half_over h fsm c.ask_broken.new.arena (grown_on h.fsm _ fsm (grown_with h.fsm c.state_row.new.arena c.state_row.ensures.extends) c.unroll_from.ensures.grown)
    (subst (λ (a : List Shape). Extends fsm.flat.arena a) (sym c.ask_broken.ensures.same) c.hypotheses.ensures.extends)
