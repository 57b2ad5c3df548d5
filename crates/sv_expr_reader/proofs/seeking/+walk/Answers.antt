use Rattle.std.proofs.Common.{◌<◌, length, ap, sym, ◌∙◌, arith}
use Rattle.std.proofs.lemmas.Grind.{common_steps}
use Rattle.sv_tree.specs.Nesting.{one, expr_depths, select_depths}
use Rattle.sv_expr_reader.specs.Seeking.{seek}
use Rattle.sv_expr_reader.proofs.Sought.{select_next, part_next, nothing_passed, name_end, parts_end, of_literal, of_name, of_paren, of_concat, of_repeat, of_cast_literal, of_cast_name, of_cast_paren, of_cast_sign, of_system, of_unary, of_binary, of_choose, of_member, of_index, of_range}
use Rattle.sv_expr_reader.proofs.seeking.+walk.Goals as goal

pub name-loop-x-init : goal.name-loop-x-init
name-loop-x-init t c = sym (nothing_passed _ _)

pub name-loop-x-preserved : goal.name-loop-x-preserved
name-loop-x-preserved t c =
    c.select-behind.ensures
    ∙ (ap (seek _ (select_depths c.x-item.result)) c.loop-x.invariant ∙ sym (select_next _ _ _ c.loop-x.x-index c.x-item.result c.loop-x-test.true c.x-item.is))

pub parts-loop-x-init : goal.parts-loop-x-init
parts-loop-x-init t c = sym (nothing_passed _ _)

pub parts-loop-x-preserved : goal.parts-loop-x-preserved
parts-loop-x-preserved t c =
    c.walk-behind.ensures
    ∙ (ap (seek c.args.depth (expr_depths c.x-item.result)) (c.token.ensures ∙ ap (seek c.args.depth one) c.loop-x.invariant)
    ∙ sym (part_next c.args.depth _ _ c.loop-x.x-index c.x-item.result c.loop-x-test.true c.x-item.is))

pub name-returns : goal.name-returns
name-returns t c =
    let some : 0 < length c.args.all.now = grind (arith, common_steps, c.if-is_empty.ensures, c.if-is_empty.false, c.is_empty.ensures) in
    name_end c.args.depth c.saturating_sub-inside.result c.loop-x.x-index c.args.at c.token-behind.result c.loop-x.behind c.args.all.now some c.loop-x-test.false c.saturating_sub-inside.ensures
    c.token-behind.ensures c.loop-x.invariant

pub parts-returns-after-loop-x : goal.parts-returns-after-loop-x
parts-returns-after-loop-x t c =
    parts_end c.args.depth c.loop-x.x-index c.args.at c.walk-begun.result c.loop-x.behind c.args.all.now c.first-item.result (omega (arith, c.in-len1-up.len_at_least)) c.first-item.is c.loop-x-test.false
    c.walk-begun.ensures c.loop-x.invariant

pub walk-returns-in-Literal : goal.walk-returns-in-Literal
walk-returns-in-Literal t c = grind (arith, of_literal)

pub walk-returns-in-Name : goal.walk-returns-in-Name
walk-returns-in-Name t c = grind (arith, of_name)

pub walk-returns-in-Paren : goal.walk-returns-in-Paren
walk-returns-in-Paren t c = grind (arith, of_paren)

pub walk-returns-in-Concat : goal.walk-returns-in-Concat
walk-returns-in-Concat t c = grind (arith, of_concat)

pub walk-returns-in-Repeat : goal.walk-returns-in-Repeat
walk-returns-in-Repeat t c = grind (arith, of_repeat)

pub walk-returns-in-CastLiteral : goal.walk-returns-in-CastLiteral
walk-returns-in-CastLiteral t c = grind (arith, of_cast_literal)

pub walk-returns-in-CastName : goal.walk-returns-in-CastName
walk-returns-in-CastName t c = grind (arith, of_cast_name)

pub walk-returns-in-CastParen : goal.walk-returns-in-CastParen
walk-returns-in-CastParen t c = grind (arith, of_cast_paren)

pub walk-returns-in-CastSign : goal.walk-returns-in-CastSign
walk-returns-in-CastSign t c = grind (arith, of_cast_sign)

pub walk-returns-in-System : goal.walk-returns-in-System
walk-returns-in-System t c = grind (arith, of_system)

pub walk-returns-in-Unary : goal.walk-returns-in-Unary
walk-returns-in-Unary t c = grind (arith, of_unary)

pub walk-returns-in-Binary : goal.walk-returns-in-Binary
walk-returns-in-Binary t c = grind (arith, of_binary)

pub walk-returns-in-Choose : goal.walk-returns-in-Choose
walk-returns-in-Choose t c = grind (arith, of_choose)

pub select-returns-in-Member : goal.select-returns-in-Member
select-returns-in-Member t c = grind (arith, of_member)

pub select-returns-in-Index : goal.select-returns-in-Index
select-returns-in-Index t c = grind (arith, of_index)

pub select-returns-in-Range : goal.select-returns-in-Range
select-returns-in-Range t c = grind (arith, of_range)
