use Rattle.std.proofs.Common.{◌+◌, ◌-◌, length, sym, ◌∙◌, rules, arith}
use Rattle.std.proofs.lemmas.Grind.{common_steps}
use Rattle.sv_cursor.specs.Parsers.{many_from}
use Rattle.sv_cursor.proofs.Turns.{handed, after_none, many_ends, many_stops, many_fails, many_goes}
use Rattle.sv_word_parser.specs.Combined.{sort_test}
use Rattle.sv_word_parser.specs.Words.{item_by_sort}
use Rattle.sv_item_parser.specs.Items.{item, items}
use Rattle.sv_expr_reader.proofs.Held.{failed_as, read_as}
use Rattle.sv_parser.proofs.source.body.Goals as goal

pub loop-turn-init : goal.loop-turn-init
unfolding items
loop-turn-init c =
    let e = after_none (many_from (sort_test item_by_sort) (item 200) (length c.args.tokens.now) c.args.tokens.now) in
    first_of (search rules, grind (arith, common_steps))

pub returns : goal.returns
returns c = many_stops (sort_test item_by_sort) (item 200) _ c.loop-turn.found _ c.loop-turn.tokens (omega arith) c.loop-turn.invariant

pub returns-then-not-sees_item : goal.returns-then-not-sees_item
returns-then-not-sees_item c = many_ends (sort_test item_by_sort) (item 200) _ c.loop-turn.found _ c.loop-turn.tokens (sym c.sees_item.ensures ∙ c.if-not-sees_item.true) c.loop-turn.invariant

pub returns-in_err-keep : goal.returns-in_err-keep
returns-in_err-keep c =
    handed _ c.from_residual.result c.in_err-keep.field-0.0 c.body_item-part.new.tokens c.from_residual.ensures.1
    (many_fails (sort_test item_by_sort) (item 200) _ c.loop-turn.found _ (c.left-turn-end.result - (c.loop-turn._turn + 1))
    c.loop-turn.tokens c.body_item-part.new.tokens c.in_err-keep.field-0.0 (omega arith) (sym c.sees_item.ensures ∙ c.if-not-sees_item.false) c.loop-turn.invariant (failed_as _ c.body_item-part.result _ _ c.body_item-part.ensures c.in_err-keep.ensures.failed))

pub loop-turn-preserved : goal.loop-turn-preserved
loop-turn-preserved c =
    rw c.in_ok-keep.ensures.kept.2
    (many_goes (sort_test item_by_sort) (item 200) _ c.loop-turn.found _ (c.left-turn-end.result - (c.loop-turn._turn + 1))
    c.loop-turn.tokens c.body_item-part.new.tokens c.in_ok-keep.ensures.kept.0 (omega arith) (sym c.sees_item.ensures ∙ c.if-not-sees_item.false) c.loop-turn.invariant (read_as _ c.body_item-part.result _ _ c.body_item-part.ensures c.in_ok-keep.ensures.kept.1))
