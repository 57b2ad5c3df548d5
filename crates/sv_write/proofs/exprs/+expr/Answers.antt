use Rattle.std.proofs.Common.{codes}
use Rattle.sv_write.specs.Exprs.{before, cast_to, in_braces, in_parens, write_expr, write_select}
use Rattle.sv_write.specs.Writing.{each, mark}
use Rattle.sv_write.proofs.Adding.{◌▷◌, both_under, made, under}
use Rattle.sv_write.proofs.ExprsMade.{made_binary, made_cast_literal, made_cast_name, made_cast_paren, made_cast_sign, made_choose, made_concat, made_index, made_literal, made_member, made_name, made_paren, made_range, made_repeat, made_system, made_unary}
use Rattle.sv_write.proofs.Loops.{left_next, left_last, commas_first}
use Rattle.sv_write.proofs.exprs.+expr.Goals as goal

pub exprs-parts-init : goal.exprs-parts-init
exprs-parts-init t c = commas_first write_expr c.args.all.now c.first-item.result c.in-len1-up.len_at_least c.first-item.is c.expr.ensures

pub exprs-parts-preserved : goal.exprs-parts-preserved
exprs-parts-preserved t c = left_next c.parts-test.true c.part-item.is c.parts.invariant (c.mark.ensures ▷ c.expr-in-parts.ensures)

pub exprs-returns-after-parts : goal.exprs-returns-after-parts
exprs-returns-after-parts t c = left_last c.parts-test.false c.parts.invariant

pub selects-parts-preserved : goal.selects-parts-preserved
selects-parts-preserved t c = left_next c.parts-test.true c.part-item.is c.parts.invariant c.select.ensures

pub selects-returns : goal.selects-returns
selects-returns t c = left_last c.parts-test.false c.parts.invariant

pub expr_and_mark-returns : goal.expr_and_mark-returns
expr_and_mark-returns t c = c.expr.ensures ▷ c.mark.ensures

pub in_parens-returns : goal.in_parens-returns
in_parens-returns t c = c.mark.ensures ▷ c.expr_and_mark.ensures

pub cast_to-returns : goal.cast_to-returns
cast_to-returns t c = c.mark.ensures ▷ c.in_parens.ensures

pub in_braces-returns : goal.in_braces-returns
in_braces-returns t c = c.mark.ensures ▷ c.exprs.ensures ▷ c.mark-2.ensures

pub select-returns-in-Member : goal.select-returns-in-Member
select-returns-in-Member t c = made write_select c.in-Member.is (made_member _ _) (c.mark.ensures ▷ c.name.ensures)

pub select-returns-in-Index : goal.select-returns-in-Index
select-returns-in-Index t c = made write_select c.in-Index.is (made_index _ _) (c.mark-in-Index.ensures ▷ under (λ x. before x (codes "]")) c.get.ensures c.expr_and_mark.ensures)

pub select-returns-in-Range : goal.select-returns-in-Range
select-returns-in-Range t c = made write_select c.in-Range.is (made_range _ _ _ _) (c.mark-in-Range.ensures ▷ both_under before c.get-in-Range.ensures c.range_text.ensures c.expr_and_mark-in-Range.ensures ▷ under (λ x. before x (codes "]")) c.get-in-Range-2.ensures c.expr_and_mark-in-Range-2.ensures)

pub expr-returns-in-Literal : goal.expr-returns-in-Literal
expr-returns-in-Literal t c = made write_expr c.in-Literal.is (made_literal _) (c.literal.ensures)

pub expr-returns-in-Name : goal.expr-returns-in-Name
expr-returns-in-Name t c = made write_expr c.in-Name.is (made_name _ _) (c.name.ensures ▷ under (each write_select) c.as_slice.ensures c.selects.ensures)

pub expr-returns-in-Paren : goal.expr-returns-in-Paren
expr-returns-in-Paren t c = made write_expr c.in-Paren.is (made_paren _ _) (under in_parens c.get.ensures c.in_parens.ensures)

pub expr-returns-in-Concat : goal.expr-returns-in-Concat
expr-returns-in-Concat t c = made write_expr c.in-Concat.is (made_concat _ _) (under in_braces c.as_slice-in-Concat.ensures c.in_braces.ensures)

pub expr-returns-in-Repeat : goal.expr-returns-in-Repeat
expr-returns-in-Repeat t c = made write_expr c.in-Repeat.is (made_repeat _ _ _) (c.mark.ensures ▷ under write_expr c.get-in-Repeat.ensures c.expr.ensures ▷ under in_braces c.as_slice-in-Repeat.ensures c.in_braces-in-Repeat.ensures ▷ c.mark-in-Repeat.ensures)

pub expr-returns-in-CastLiteral : goal.expr-returns-in-CastLiteral
expr-returns-in-CastLiteral t c = made write_expr c.in-CastLiteral.is (made_cast_literal _ _) (c.literal-in-CastLiteral.ensures ▷ under cast_to c.get-in-CastLiteral.ensures c.cast_to.ensures)

pub expr-returns-in-CastName : goal.expr-returns-in-CastName
expr-returns-in-CastName t c = made write_expr c.in-CastName.is (made_cast_name _ _) (c.name-in-CastName.ensures ▷ under cast_to c.get-in-CastName.ensures c.cast_to-in-CastName.ensures)

pub expr-returns-in-CastParen : goal.expr-returns-in-CastParen
expr-returns-in-CastParen t c = made write_expr c.in-CastParen.is (made_cast_paren _ _ _) (under in_parens c.get-in-CastParen.ensures c.in_parens-in-CastParen.ensures ▷ under cast_to c.get-in-CastParen-2.ensures c.cast_to-in-CastParen.ensures)

pub expr-returns-in-CastSign : goal.expr-returns-in-CastSign
expr-returns-in-CastSign t c = made write_expr c.in-CastSign.is (made_cast_sign _ _ _) (c.sign_word.ensures ▷ under cast_to c.get-in-CastSign.ensures c.cast_to-in-CastSign.ensures)

pub expr-returns-in-System : goal.expr-returns-in-System
expr-returns-in-System t c = made write_expr c.in-System.is (made_system _ _ _) (c.system_word.ensures ▷ under in_parens c.get-in-System.ensures c.in_parens-in-System.ensures)

pub expr-returns-in-Unary : goal.expr-returns-in-Unary
expr-returns-in-Unary t c = made write_expr c.in-Unary.is (made_unary _ _ _) (under mark c.unary_mark.ensures c.mark-in-Unary.ensures ▷ under write_expr c.get-in-Unary.ensures c.expr-in-Unary.ensures)

pub expr-returns-in-Binary : goal.expr-returns-in-Binary
expr-returns-in-Binary t c = made write_expr c.in-Binary.is (made_binary _ _ _ _) (both_under before c.get-in-Binary.ensures c.binary_mark.ensures c.expr_and_mark.ensures ▷ under write_expr c.get-in-Binary-2.ensures c.expr-in-Binary.ensures)

pub expr-returns-in-Choose : goal.expr-returns-in-Choose
expr-returns-in-Choose t c = made write_expr c.in-Choose.is (made_choose _ _ _) (under (λ x. before x (codes "?")) c.get-in-Choose.ensures c.expr_and_mark-in-Choose.ensures ▷ under (λ x. before x (codes ":")) c.get-in-Choose-2.ensures c.expr_and_mark-in-Choose-2.ensures ▷ under write_expr c.get-in-Choose-3.ensures c.expr-in-Choose.ensures)
