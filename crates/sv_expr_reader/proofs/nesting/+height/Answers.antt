use Rattle.std.proofs.Common.{arith}
use Rattle.std.proofs.lemmas.Grind.{common_steps}
use Rattle.sv_expr_reader.proofs.Capped.{all_next, chain_next, of_literal, of_name, of_paren, of_concat, of_repeat, of_cast_literal, of_cast_name, of_cast_paren, of_cast_sign, of_system, of_unary, of_binary, of_choose, of_member, of_index, of_range}
use Rattle.sv_expr_reader.proofs.nesting.+height.Goals as goal

pub all_height-loop-x-preserved : goal.all_height-loop-x-preserved
all_height-loop-x-preserved t c =
    let e = all_next c.args.all.now c.loop-x.x-index c.x-item.result c.loop-x-test.true c.x-item.is in
    let f = c.loop-x.invariant in
    let g = c.height.ensures in
    let h = c.max-most.ensures in
    grind (arith, common_steps, e, f, g, h)

pub selects_height-loop-x-preserved : goal.selects_height-loop-x-preserved
selects_height-loop-x-preserved t c =
    let e = chain_next c.args.all.now c.loop-x.x-index c.x-item.result c.loop-x-test.true c.x-item.is in
    let f = c.loop-x.invariant in
    let g = c.select_height.ensures in
    let h = c.max-most.ensures in
    grind (arith, common_steps, e, f, g, h)

pub height-returns-in-Literal : goal.height-returns-in-Literal
height-returns-in-Literal t c = grind (arith, of_literal)

pub height-returns-in-Name : goal.height-returns-in-Name
height-returns-in-Name t c = grind (arith, of_name)

pub height-returns-in-Paren : goal.height-returns-in-Paren
height-returns-in-Paren t c = grind (arith, of_paren)

pub height-returns-in-Concat : goal.height-returns-in-Concat
height-returns-in-Concat t c = grind (arith, of_concat)

pub height-returns-in-Repeat : goal.height-returns-in-Repeat
height-returns-in-Repeat t c = grind (arith, of_repeat)

pub height-returns-in-CastLiteral : goal.height-returns-in-CastLiteral
height-returns-in-CastLiteral t c = grind (arith, of_cast_literal)

pub height-returns-in-CastName : goal.height-returns-in-CastName
height-returns-in-CastName t c = grind (arith, of_cast_name)

pub height-returns-in-CastParen : goal.height-returns-in-CastParen
height-returns-in-CastParen t c = grind (arith, of_cast_paren)

pub height-returns-in-CastSign : goal.height-returns-in-CastSign
height-returns-in-CastSign t c = grind (arith, of_cast_sign)

pub height-returns-in-System : goal.height-returns-in-System
height-returns-in-System t c = grind (arith, of_system)

pub height-returns-in-Unary : goal.height-returns-in-Unary
height-returns-in-Unary t c = grind (arith, of_unary)

pub height-returns-in-Binary : goal.height-returns-in-Binary
height-returns-in-Binary t c = grind (arith, of_binary)

pub height-returns-in-Choose : goal.height-returns-in-Choose
height-returns-in-Choose t c = grind (arith, of_choose)

pub select_height-returns-in-Member : goal.select_height-returns-in-Member
select_height-returns-in-Member t c = grind (arith, of_member)

pub select_height-returns-in-Index : goal.select_height-returns-in-Index
select_height-returns-in-Index t c = grind (arith, of_index)

pub select_height-returns-in-Range : goal.select_height-returns-in-Range
select_height-returns-in-Range t c = grind (arith, of_range)
