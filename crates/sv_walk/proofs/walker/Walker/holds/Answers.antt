use Rattle.std.proofs.Common.{◌∙◌, ap, subst}
use Rattle.sv_meaning.specs.Deeds.{fixed_truth}
use Rattle.sv_meaning.specs.Layouts.{Scope, constant_scope}
use Rattle.sv_meaning.specs.Values.{mean}
use Rattle.sv_loops.specs.Answers.{Gives}
use Rattle.sv_hierarchy.specs.Scopes.{seen_at}
use Rattle.sv_levels.specs.Levels.{levels_are}
use Rattle.sv_walk.proofs.walker.Walker.holds.Goals as goal

pub returns : goal.returns
returns c =
    subst (λ (at : Scope). Gives (fixed_truth (mean at c.args.test.now)) c.condition-held.result) (ap constant_scope (c.in_ok-names.ensures.names ∙ ap (seen_at (levels_are c.args.self.now.levels)) c.here-at.ensures)) c.condition-held.ensures
