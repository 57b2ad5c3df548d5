use Rattle.std.proofs.Common.{◌+◌, ◌-◌, length, sym, ◌∙◌, rules, arith}
use Rattle.std.proofs.lemmas.Grind.{common_steps}
use Rattle.sv_tree.specs.GrammarExprs.{is_range}
use Rattle.sv_cursor.specs.Parsers.{chain_from}
use Rattle.sv_expr_words.specs.Signs.{select_test}
use Rattle.sv_expr_reader.specs.Reading.{select, selects, expr}
use Rattle.sv_cursor.proofs.Turns.{handed, after_none, chain_ends, chain_stops, chain_fails, chain_last, chain_goes}
use Rattle.sv_expr_reader.proofs.grammar.Grammar.selects.Goals as goal

pub loop-turn-init : goal.loop-turn-init
unfolding selects
loop-turn-init g c =
    let e = after_none (chain_from select_test is_range (select c.args.self.now.depth (expr c.args.self.now.depth)) (length c.args.tokens.now) c.args.tokens.now) in
    first_of (search rules, grind (arith, common_steps))

pub returns : goal.returns
returns g c =
    chain_stops select_test (select c.args.self.now.depth (expr c.args.self.now.depth)) is_range _ c.loop-turn.found _ c.loop-turn.tokens (omega arith) c.loop-turn.invariant

pub returns-then-not-sees_select : goal.returns-then-not-sees_select
returns-then-not-sees_select g c =
    chain_ends select_test (select c.args.self.now.depth (expr c.args.self.now.depth)) is_range _ c.loop-turn.found _ c.loop-turn.tokens (sym c.sees_select.ensures ∙ c.if-not-sees_select.true) c.loop-turn.invariant

pub returns-in_err-select : goal.returns-in_err-select
returns-in_err-select g c =
    handed _ c.from_residual.result c.in_err-select.field-0.0 c.select.new.tokens c.from_residual.ensures.1
    (chain_fails select_test (select c.args.self.now.depth (expr c.args.self.now.depth)) is_range _ c.loop-turn.found _ (c.left-turn-end.result - (c.loop-turn._turn + 1))
    c.loop-turn.tokens c.select.new.tokens c.in_err-select.field-0.0 (omega arith) (sym c.sees_select.ensures ∙ c.if-not-sees_select.false) c.loop-turn.invariant c.in_err-select.ensures)

pub returns-then-last : goal.returns-then-last
returns-then-last g c =
    rw c.in_ok-push.ensures.ok
    (chain_last select_test (select c.args.self.now.depth (expr c.args.self.now.depth)) is_range _ c.loop-turn.found _ (c.left-turn-end.result - (c.loop-turn._turn + 1))
    c.loop-turn.tokens c.select.new.tokens c.in_ok-select.select (omega arith) (sym c.sees_select.ensures ∙ c.if-not-sees_select.false) c.loop-turn.invariant c.in_ok-select.ensures (sym c.is_range-last.ensures ∙ c.if-last.true))

pub loop-turn-preserved : goal.loop-turn-preserved
loop-turn-preserved g c =
    rw c.in_ok-push.ensures.ok
    (chain_goes select_test (select c.args.self.now.depth (expr c.args.self.now.depth)) is_range _ c.loop-turn.found _ (c.left-turn-end.result - (c.loop-turn._turn + 1))
    c.loop-turn.tokens c.select.new.tokens c.in_ok-select.select (omega arith) (sym c.sees_select.ensures ∙ c.if-not-sees_select.false) c.loop-turn.invariant c.in_ok-select.ensures (sym c.is_range-last.ensures ∙ c.if-last.false))
