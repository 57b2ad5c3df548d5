use Rattle.std.proofs.Common.{ℕ, [], ◌∷◌, ◌++◌, ap, ◌∙◌, Vec, Global}
use Rattle.svtv_least.proofs.Planning.{plan_more, set_from}
use Rattle.svtv_least.proofs.settlers.Plan.add_phase.Goals as goal

pub returns : goal.returns
returns c =
    let place = c.in_ok-place.place in
    let over = c.in_ok-over.over in
    let overs = c.args.bound.now.overs in
    plan_more c.args.flat.now overs c.args.self.now (record { settlers = c.settler_of.new.self.settlers; of_phase = c.push.new.self }) over place c.args.phase c.requires.plan c.in_ok-place.ensures.fit c.in_ok-place.ensures.apart c.in_ok-place.ensures.found
    (c.in_ok-push.ensures.items ∙ ap (λ (v : Vec ℕ Global). v.items ++ place ∷ []) c.in_ok-place.ensures.of_phase)
    (set_from over overs c.args.phase c.in_ok-over.ensures.wires)
