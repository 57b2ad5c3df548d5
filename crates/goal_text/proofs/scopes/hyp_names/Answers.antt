use Rattle.std.proofs.Common.{◌∙◌}
use Rattle.sv_names.proofs.Places.{nothing_seen, nothing_declared}
use Rattle.goal_text.proofs.Scoped.{one_scope, one_front}
use Rattle.goal_text.proofs.scopes.hyp_names.Goals as goal

pub returns : goal.returns
returns c =
    let new = c.new-names in
    one_scope c.push_scope.new.self c.args.variables.now c.len-count.result c.len-count.ensures
    (one_front _ _ _ c.in_ok-push_scope.ensures.frames (nothing_seen new.result new.ensures.frames))
    (one_front _ _ _ c.in_ok-push_scope.ensures.above (nothing_declared new.result new.ensures.frames))
    (c.in_ok-push_scope.ensures.loops ∙ new.ensures.loops)
