use Rattle.std.proofs.lemmas.Bool.{false≢true}
use Rattle.std.proofs.Common.{sym, ap, ◌∙◌}
use Rattle.node_replace.specs.Walks.{is_variable}
use Rattle.node_replace.proofs.Walking.{not_variable}
use Rattle.compose_rounds.proofs.reaching.variable.Goals as goal

pub returns-in_default : goal.returns-in_default
returns-in_default c =
    absurd (false≢true (sym (not_variable c.shape-shape.result c.in_default.not-Var) ∙ ap is_variable c.shape-shape.ensures.is ∙ c.requires.variable))
