use Rattle.std.proofs.Common.{ap, sym, ◌∙◌, arith}
use Rattle.sv_expr_reader.specs.Heights.{capped, last}
use Rattle.sv_expr_reader.proofs.Raised.{last_binary, last_choose}
use Rattle.sv_expr_reader.proofs.nesting.last_height.Goals as goal

pub returns-in-Binary : goal.returns-in-Binary
returns-in-Binary c =
    c.height.ensures ∙ (ap capped c.get.ensures ∙ sym (ap last c.in-Binary.is ∙ last_binary c.in-Binary.field-0 c.in-Binary.field-1 c.in-Binary.field-2 c.in-Binary.right))

pub returns-in-Choose : goal.returns-in-Choose
returns-in-Choose c =
    let first = c.height-most.ensures ∙ ap capped c.get-in-Choose.ensures in
    let second = c.height-in-Choose.ensures ∙ ap capped c.get-in-Choose-2.ensures in
    let is = ap last c.in-Choose.is ∙ last_choose c.in-Choose.field-0 c.in-Choose.first c.in-Choose.second in
    omega (arith, c.max.ensures, first, second, is)
