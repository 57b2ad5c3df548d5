use Rattle.std.proofs.Common.{◌≡◌, ℕ, ◌<◌, List, length, get_or, refl, sym, ap, ◌∙◌, subst, arith}
use Rattle.std.specs.Vec.{with_item}
use Rattle.std.proofs.lemmas.List.{get_or_default}
use Rattle.svex_shape.specs.Values.{Vector}
use Rattle.driver_resolve.specs.Drivers.{has_wire}
use Rattle.flat_net.specs.Flats.{IsLeastSettling}
use Rattle.event_sim.specs.Sims.{Fits, store_of}
use Rattle.svtv_least.specs.declared.settlers.Settler.{Settler}
use Rattle.svtv_least.specs.Running.{over_of}
use Rattle.svtv_least.proofs.Planning.{over_at, plan_used, settler_fits}
use Rattle.svtv_least.proofs.Same.{least_same}
use Rattle.svtv_least.proofs.settlers.Plan.settle.Goals as goal

pub returns-clause-plan : goal.returns-clause-plan
returns-clause-plan c = λ overs phases plan.
    let flat = c.args.flat.now in
    let settlers = c.args.self.now.settlers.items in
    let settler : Settler = c.index_mut-settler.result.now in
    let place : ℕ = c.index-place.result.now in
    let used : Settler = record { over = settler.over; sim = c.settle.new.self } in
    let in_plan : c.args.phase < length c.args.self.now.of_phase.items = (let l = c.requires.plan.2 in let own = c.requires.plan.3 in omega (arith, l, own.long)) in
    let there : place < length settlers = subst (λ k. k < length settlers) (sym c.index-place.ensures) (plan.there c.args.phase place in_plan) in
    let fits : Fits flat settler.over settler.sim = settler_fits flat settlers place settler plan.fit there c.index_mut-settler.ensures.value in
    let own : settler.over ≡ (get_or settlers place used).over = ap (λ (x : Settler). x.over) (c.index_mut-settler.ensures.value ∙ get_or_default settlers place settler used there) in
    plan_used flat overs c.args.self.now (record { settlers = with_item c.args.self.now.settlers place used; of_phase = c.args.self.now.of_phase }) place phases used plan refl refl own (c.settle.ensures.fits settler.over fits)

pub returns-clause-least : goal.returns-clause-least
returns-clause-least c = λ overs phases over plan l h.
    let flat = c.args.flat.now in
    let settler : Settler = c.index_mut-settler.result.now in
    let place : ℕ = c.index-place.result.now in
    let in_plan : c.args.phase < length c.args.self.now.of_phase.items = omega (arith, l, plan.long) in
    let numbered : place ≡ get_or c.args.self.now.of_phase.items c.args.phase 0 = c.index-place.ensures ∙ get_or_default c.args.self.now.of_phase.items c.args.phase place 0 in_plan in
    let there : place < length c.args.self.now.settlers.items = subst (λ k. k < length c.args.self.now.settlers.items) (sym c.index-place.ensures) (plan.there c.args.phase place in_plan) in
    let fits : Fits flat settler.over settler.sim = settler_fits flat c.args.self.now.settlers.items place settler plan.fit there c.index_mut-settler.ensures.value in
    let own : settler.over ≡ over_of c.args.self.now.settlers.items (get_or c.args.self.now.of_phase.items c.args.phase 0) = sym (over_at c.args.self.now.settlers.items place settler there c.index_mut-settler.ensures.value) ∙ ap (over_of c.args.self.now.settlers.items) numbered in
    least_same flat settler.over over (λ n. ap (λ (z : List ℕ). has_wire z n) own ∙ plan.wires c.args.phase l n ∙ sym (h n)) (store_of c.args.stim.now.values) (store_of c.args.prev.now.values) (store_of c.save.new.into.values)
    (subst (λ (z : List Vector). IsLeastSettling flat settler.over (store_of c.args.stim.now.values) (store_of c.args.prev.now.values) (store_of z)) (sym c.save.ensures) (c.settle.ensures.least settler.over fits))
