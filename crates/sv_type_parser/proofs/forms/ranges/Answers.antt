use Rattle.std.proofs.Common.{◌+◌, ◌-◌, length, sym, ◌∙◌, rules, arith}
use Rattle.std.proofs.lemmas.Grind.{common_steps}
use Rattle.sv_cursor.specs.Parsers.{many_from}
use Rattle.sv_cursor.proofs.Turns.{handed, after_none, many_ends, many_stops, many_fails, many_goes}
use Rattle.sv_cursor.specs.declared.sort.Mark.TheVariants as m
use Rattle.sv_cursor.specs.Tests.{mark_test}
use Rattle.sv_type_parser.specs.Forms.{range, ranges}
use Rattle.sv_expr_reader.proofs.Held.{failed_as, read_as}
use Rattle.sv_type_parser.proofs.forms.ranges.Goals as goal

pub loop-turn-init : goal.loop-turn-init
unfolding ranges
loop-turn-init c =
    let e = after_none (many_from (mark_test m.LeftBracket) range (length c.args.tokens.now) c.args.tokens.now) in
    first_of (search rules, grind (arith, common_steps))

pub returns : goal.returns
returns c = many_stops (mark_test m.LeftBracket) range _ c.loop-turn.found _ c.loop-turn.tokens (omega arith) c.loop-turn.invariant

pub returns-then-not-sees : goal.returns-then-not-sees
returns-then-not-sees c = many_ends (mark_test m.LeftBracket) range _ c.loop-turn.found _ c.loop-turn.tokens (sym c.sees.ensures ∙ c.if-not-sees.true) c.loop-turn.invariant

pub returns-in_err-keep : goal.returns-in_err-keep
returns-in_err-keep c =
    handed _ c.from_residual.result c.in_err-keep.field-0.0 c.range-part.new.tokens c.from_residual.ensures.1
    (many_fails (mark_test m.LeftBracket) range _ c.loop-turn.found _ (c.left-turn-end.result - (c.loop-turn._turn + 1))
    c.loop-turn.tokens c.range-part.new.tokens c.in_err-keep.field-0.0 (omega arith) (sym c.sees.ensures ∙ c.if-not-sees.false) c.loop-turn.invariant (failed_as _ c.range-part.result _ _ c.range-part.ensures c.in_err-keep.ensures.failed))

pub loop-turn-preserved : goal.loop-turn-preserved
loop-turn-preserved c =
    rw c.in_ok-keep.ensures.kept.2
    (many_goes (mark_test m.LeftBracket) range _ c.loop-turn.found _ (c.left-turn-end.result - (c.loop-turn._turn + 1))
    c.loop-turn.tokens c.range-part.new.tokens c.in_ok-keep.ensures.kept.0 (omega arith) (sym c.sees.ensures ∙ c.if-not-sees.false) c.loop-turn.invariant (read_as _ c.range-part.result _ _ c.range-part.ensures c.in_ok-keep.ensures.kept.1))
