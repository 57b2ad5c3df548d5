use Rattle.std.proofs.Common.{◌∙◌}
use Rattle.sv_names.proofs.Places.{nothing_seen, nothing_declared}
use Rattle.goal_text.proofs.Scoped.{two_scopes, two_fronts}
use Rattle.goal_text.proofs.scopes.claim_names.Goals as goal

pub returns : goal.returns
returns c =
    let new = c.new-names in
    two_scopes c.push_scope-2.new.self c.args.variables.now c.args.samples.now c.len-count.result c.len-sampled.result c.len-count.ensures c.len-sampled.ensures
    (two_fronts _ _ _ _ _ c.in_ok-push_scope-2.ensures.frames c.in_ok-push_scope.ensures.frames (nothing_seen new.result new.ensures.frames))
    (two_fronts _ _ _ _ _ c.in_ok-push_scope-2.ensures.above c.in_ok-push_scope.ensures.above (nothing_declared new.result new.ensures.frames))
    (c.in_ok-push_scope-2.ensures.loops ∙ c.in_ok-push_scope.ensures.loops ∙ new.ensures.loops)
