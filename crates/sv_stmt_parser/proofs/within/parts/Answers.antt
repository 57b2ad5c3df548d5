use Rattle.std.proofs.Common.{◌+◌, ◌-◌, length, sym, ◌∙◌, rules, arith}
use Rattle.std.proofs.lemmas.Grind.{common_steps}
use Rattle.sv_cursor.specs.Parsers.{many_from}
use Rattle.sv_cursor.proofs.Turns.{handed, after_none, many_ends, many_stops, many_fails, many_goes}
use Rattle.sv_type_parser.specs.Lists.{while_told}
use Rattle.sv_expr_reader.proofs.Held.{failed_as, read_as}
use Rattle.sv_stmt_parser.proofs.within.parts.Goals as goal

pub loop-turn-init : goal.loop-turn-init
unfolding while_told
loop-turn-init g c =
    let e = after_none (many_from g.R.Nested.test (g.R.Nested.parser c.args.rules.now) (length c.args.tokens.now) c.args.tokens.now) in
    first_of (search rules, grind (arith, common_steps))

pub returns : goal.returns
returns g c = many_stops g.R.Nested.test (g.R.Nested.parser c.args.rules.now) _ c.loop-turn.found _ c.loop-turn.tokens (omega arith) c.loop-turn.invariant

pub returns-then-not-comes : goal.returns-then-not-comes
returns-then-not-comes g c = many_ends g.R.Nested.test (g.R.Nested.parser c.args.rules.now) _ c.loop-turn.found _ c.loop-turn.tokens (sym c.comes.ensures ∙ c.if-not-comes.true) c.loop-turn.invariant

pub returns-in_err-keep : goal.returns-in_err-keep
returns-in_err-keep g c =
    handed _ c.from_residual.result c.in_err-keep.field-0.0 c.part-part.new.tokens c.from_residual.ensures.1
    (many_fails g.R.Nested.test (g.R.Nested.parser c.args.rules.now) _ c.loop-turn.found _ (c.left-turn-end.result - (c.loop-turn._turn + 1))
    c.loop-turn.tokens c.part-part.new.tokens c.in_err-keep.field-0.0 (omega arith) (sym c.comes.ensures ∙ c.if-not-comes.false) c.loop-turn.invariant (failed_as _ c.part-part.result _ _ c.part-part.ensures c.in_err-keep.ensures.failed))

pub loop-turn-preserved : goal.loop-turn-preserved
loop-turn-preserved g c =
    rw c.in_ok-keep.ensures.kept.2
    (many_goes g.R.Nested.test (g.R.Nested.parser c.args.rules.now) _ c.loop-turn.found _ (c.left-turn-end.result - (c.loop-turn._turn + 1))
    c.loop-turn.tokens c.part-part.new.tokens c.in_ok-keep.ensures.kept.0 (omega arith) (sym c.comes.ensures ∙ c.if-not-comes.false) c.loop-turn.invariant (read_as _ c.part-part.result _ _ c.part-part.ensures c.in_ok-keep.ensures.kept.1))
