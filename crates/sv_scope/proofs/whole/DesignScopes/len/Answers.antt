use Rattle.std.proofs.Common.{◌∙◌, ◌-◌, ℕ, sym, ap}
use Rattle.sv_hierarchy.specs.Scopes.{behind}
use Rattle.sv_scope.specs.Scoped.{levels_of}
use Rattle.sv_scope.proofs.WholeDesign.{instances_length, behind_length}
use Rattle.sv_scope.proofs.whole.DesignScopes.len.Goals as goal

pub returns : goal.returns
returns c =
    let all = levels_of c.args.self.now in
    c.saturating_sub.ensures ∙ ap (λ (n : ℕ). n - 1) c.len.ensures ∙ sym (behind_length all) ∙ sym (instances_length 1 all (behind all))
