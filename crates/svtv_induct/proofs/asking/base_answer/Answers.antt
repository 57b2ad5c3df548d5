use Rattle.std.proofs.Common.{◌≡◌, ◌<◌, ℕ, List, [], length, All, get_or, refl, ap, ◌∙◌, sym, subst}
use Rattle.std.specs.Prelude.{IsTrue}
use Rattle.goal_gates.specs.Goals.{goal_of, is_chosen}
use Rattle.svex_arena.specs.Arenas.{Extends}
use Rattle.svex_arena.proofs.Keeping.{extends_self}
use Rattle.svex_shape.specs.declared.shape.Shape.{Shape}
use Rattle.svex_shape.specs.Shapes.{width_at}
use Rattle.svex_shape.specs.Values.{each_variable}
use Rattle.svtv_induct.specs.Halves.{claims_at}
use Rattle.svtv_induct.proofs.Answering.{base_chosen, base_said, claims_there, claims_wide, goal_as, half_over, half_with}
use Rattle.svtv_induct.proofs.Reading.{are_chosen, are_there}
use Rattle.svtv_induct.proofs.asking.base_answer.Goals as goal

pub returns-in_err-samples-clause-grown : goal.returns-in_err-samples-clause-grown
returns-in_err-samples-clause-grown c = half_with c.args.half.now c.unroll_in.new.fsm c.unroll_in.ensures.grown

pub ask_broken-requires-clause-samples : goal.ask_broken-requires-clause-samples
ask_broken-requires-clause-samples c =
    let h = c.args.half.now in
    subst (λ (ns : List ℕ). All (λ node. node < length c.unroll_in.new.fsm.flat.arena) ns) (sym c.as_slice-2.ensures) (are_there h.bound.vars h.bound.samples c.unroll_in.new.fsm.flat.arena c.in_ok-samples.samples c.in_ok-samples.ensures.nodes)

pub ask_broken-requires-clause-chosen : goal.ask_broken-requires-clause-chosen
ask_broken-requires-clause-chosen c =
    let h = c.args.half.now in
    subst (λ (ns : List ℕ). All (λ node. IsTrue (each_variable is_chosen c.unroll_in.new.fsm.flat.arena node)) ns) (sym c.as_slice-2.ensures)
    (are_chosen h.bound.vars h.bound.samples c.unroll_in.new.fsm.flat.arena c.in_ok-samples.samples c.len-2.ensures.arena c.in_ok-samples.ensures.nodes)

pub ask_broken-requires-clause-claims : goal.ask_broken-requires-clause-claims
ask_broken-requires-clause-claims c =
    let h = c.args.half.now in
    subst (λ (ns : List ℕ). All (λ node. node < length c.unroll_in.new.fsm.flat.arena) ns) (sym (c.claims_of.ensures ∙ ap (λ (cs : List (List ℕ)). get_or cs c.args.at []) c.as_slice-3.ensures))
    (claims_there h c.args.at c.unroll_in.new.fsm.flat.arena c.requires.half c.in_ok-samples.ensures.grown.extends)

pub ask_broken-requires-clause-one_bit_claims : goal.ask_broken-requires-clause-one_bit_claims
ask_broken-requires-clause-one_bit_claims c =
    let h = c.args.half.now in
    subst (λ (ns : List ℕ). All (λ node. width_at c.unroll_in.new.fsm.flat.arena node ≡ 1) ns) (sym (c.claims_of.ensures ∙ ap (λ (cs : List (List ℕ)). get_or cs c.args.at []) c.as_slice-3.ensures))
    (claims_wide h c.args.at c.unroll_in.new.fsm.flat.arena c.requires.half c.in_ok-samples.ensures.grown.extends)

pub returns-clause-answer : goal.returns-clause-answer
returns-clause-answer c =
    let h = c.args.half.now in
    let at = c.args.at in
    let new = c.unroll_in.new.fsm.flat.arena in
    let own = c.in_ok-samples.samples in
    let e = c.in_ok-samples.ensures in
    base_said h at c.args.budget new own c.ask_broken.result c.requires.half c.len.ensures.arena c.len-2.ensures.arena e.grown.extends e.nodes e.least
    (goal_as c.args.budget new c.ask_broken.result h.bound.vars c.as_slice.result.now own c.as_slice-2.result.now [] [] (claims_at h at) c.claims_of.result.now c.as_slice.ensures c.as_slice-2.ensures refl
    (c.claims_of.ensures ∙ ap (λ (cs : List (List ℕ)). get_or cs at []) c.as_slice-3.ensures) c.ask_broken.ensures.answer)

pub returns-clause-grown : goal.returns-clause-grown
returns-clause-grown c =
    let fsm = c.unroll_in.new.fsm in
    half_over c.args.half.now fsm c.ask_broken.new.arena c.unroll_in.ensures.grown (subst (λ (a : List Shape). Extends fsm.flat.arena a) (sym c.ask_broken.ensures.same) (extends_self fsm.flat.arena))

pub returns-clause-chosen : goal.returns-clause-chosen
returns-clause-chosen c =
    let h = c.args.half.now in
    let at = c.args.at in
    let new = c.unroll_in.new.fsm.flat.arena in
    let own = c.in_ok-samples.samples in
    base_chosen (goal_of new h.bound.vars own [] (claims_at h at)) c.args.budget c.ask_broken.result
    (goal_as c.args.budget new c.ask_broken.result h.bound.vars c.as_slice.result.now own c.as_slice-2.result.now [] [] (claims_at h at) c.claims_of.result.now c.as_slice.ensures c.as_slice-2.ensures refl
    (c.claims_of.ensures ∙ ap (λ (cs : List (List ℕ)). get_or cs at []) c.as_slice-3.ensures) c.ask_broken.ensures.answer)
