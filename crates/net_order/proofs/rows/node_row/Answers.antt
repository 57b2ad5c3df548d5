use Rattle.std.proofs.Common.{sym, ap, ◌∙◌}
use Rattle.lhs_alias.specs.Joined.{widths_of}
use Rattle.svex_shape.specs.Shapes.{shape_at}
use Rattle.net_equations.specs.Equations.{is_of_phase}
use Rattle.net_order.proofs.Listing.{var-passes}
use Rattle.net_order.proofs.rows.node_row.Goals as goal

pub variable_row-requires-clause-name : goal.variable_row-requires-clause-name
variable_row-requires-clause-name c =
    var-passes (is_of_phase (widths_of c.args.joins.now)) c.args.arena.now c.args.node c.in-Var.name c.in-Var.width c.len.ensures.arena c.requires.node
    (ap (shape_at c.args.arena.now) (sym c.new.ensures) ∙ sym c.shape-shape.ensures.is ∙ c.in-Var.is) c.requires.variables
