use Rattle.std.proofs.Common.{◌++◌, ◌∙◌, ap}
use Rattle.sv_meaning.specs.Layouts.{scope_of}
use Rattle.sv_names.specs.Names.{names_are}
use Rattle.goal_text.specs.Nodes.{IsGoal, IsLowered}
use Rattle.goal_text.proofs.Declared.{hyps_hold, claims_hold}
use Rattle.goal_text.proofs.Truths.{goal_is, zip_weaker}
use Rattle.goal_text.proofs.lowering.lowered.Goals as goal

pub returns-clause-goals : goal.returns-clause-goals
returns-clause-goals c =
    let vars = c.args.vars.now in
    let samples = c.args.samples.now in
    let hyps = names_are c.in_ok-hyps.hyps in
    let claims = names_are c.in_ok-claims.claims in
    zip_weaker (IsLowered hyps claims c.goals.new.arena) (IsGoal vars samples c.goals.new.arena)
    (goal_is vars samples hyps claims c.goals.new.arena (c.in_ok-hyps.ensures ∙ ap scope_of c.in_ok-variables.ensures) (c.in_ok-claims.ensures ∙ (λ i. scope_of (c.in_ok-variables.ensures i ++ c.in_ok-sampled.ensures i)))
    (hyps_hold vars c.requires.vars) (claims_hold vars samples c.requires.vars c.requires.samples))
    c.args.trees.now c.in_ok-found.found c.in_ok-found.ensures.goals
