use Rattle.std.proofs.Common.{◌∙◌, sym}
use Rattle.table_cells.proofs.Literals.{known, unknown, refused}
use Rattle.table_cells.proofs.cells.known_literal.Goals as goal

pub returns-in_default : goal.returns-in_default
returns-in_default c =
    refused c.args.text.now c.in_default.field-0
    (record { shape = c.in_default.ensures.shape; wide = c.in_default.ensures.wide; range = c.in_default.ensures.range })

pub returns-then-is_bool : goal.returns-then-is_bool
returns-then-is_bool c =
    known c.args.text.now c.in-Ok.answer (record { shape = c.in-Ok.ensures.shape; wide = c.in-Ok.ensures.wide; range = c.in-Ok.ensures.range })
    c.in-Ok.ensures.value (sym c.is_bool.ensures ∙ c.if-is_bool.true)

pub returns-else-is_bool : goal.returns-else-is_bool
returns-else-is_bool c =
    unknown c.args.text.now c.in-Ok.answer (record { shape = c.in-Ok.ensures.shape; wide = c.in-Ok.ensures.wide; range = c.in-Ok.ensures.range })
    c.in-Ok.ensures.value (sym c.is_bool.ensures ∙ c.if-is_bool.false)
