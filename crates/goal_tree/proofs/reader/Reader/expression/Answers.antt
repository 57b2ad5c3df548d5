use Rattle.std.proofs.Common.{◌≡◌, Ok, sym, ap, ◌∙◌, subst}
use Rattle.goal_tree.specs.Reading.{expression}
use Rattle.goal_tree.proofs.Skipped.{expression_read}
use Rattle.goal_tree.proofs.reader.Reader.expression.Goals as goal

pub returns : goal.returns
returns c =
    subst (λ i. expression i ≡ Ok (c.in_ok-tree.tree, c.last-self-inside.result.now)) c.self.view_is
    (expression_read c.self.inside.rest.now c.expr.new.tokens c.last-self-inside.result.now c.in_ok-tree.tree c.left.result (ap expression (sym c.new-cursor.ensures) ∙ c.in_ok-tree.ensures) c.left.ensures c.last-self-inside.ensures)
