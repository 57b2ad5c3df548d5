use Rattle.std.proofs.lemmas.Result.{IfOk-from_err}
use Rattle.std.proofs.Common.{◌∙◌, ap, sym, drop}
use Rattle.aig.specs.Graph.{count_inputs}
use Rattle.aig.proofs.Growth.{none_counted}
use Rattle.goal_gates.proofs.Tops.{told_by_parts}
use Rattle.goal_gates.proofs.gates.gates_of.Goals as goal

pub blast-requires-clause-no_inputs : goal.blast-requires-clause-no_inputs
blast-requires-clause-no_inputs c = ap count_inputs c.requires.empty ∙ sym none_counted

pub returns-clause-told : goal.returns-clause-told
returns-clause-told c =
    told_by_parts c.args.vars.now c.args.arena.now c.blast.new.aig c.literals.new.aig c.args.roots.now c.in_ok-rails.rails.items c.deref.result.now c.behind.result.now c.args.count _
    c.in_ok-literals.literals.0 c.in_ok-literals.literals.1 c.deref.ensures.value (c.behind.ensures ∙ ap (drop c.args.count) c.deref-2.ensures.value) c.requires.count
    (record {
      arena = c.len.ensures.arena;
      within = c.requires.roots;
      counted = c.in_ok-rails.ensures.inputs;
      long = c.in_ok-rails.ensures.long;
      wired = c.in_ok-rails.ensures.wired;
      shows = c.in_ok-rails.ensures.rails;
    })
    c.in_ok-literals.ensures.graph c.in_ok-literals.ensures.grew c.in_ok-literals.ensures.met c.in_ok-literals.ensures.broken

pub returns-in_err-literals-clause-few : goal.returns-in_err-literals-clause-few
returns-in_err-literals-clause-few c = IfOk-from_err _ _ c.from_residual-in_err-literals.ensures.0

pub returns-in_err-literals-clause-told : goal.returns-in_err-literals-clause-told
returns-in_err-literals-clause-told c = IfOk-from_err _ _ c.from_residual-in_err-literals.ensures.0

pub returns-in_err-rails-clause-few : goal.returns-in_err-rails-clause-few
returns-in_err-rails-clause-few c = IfOk-from_err _ _ c.from_residual.ensures.0

pub returns-in_err-rails-clause-told : goal.returns-in_err-rails-clause-told
returns-in_err-rails-clause-told c = IfOk-from_err _ _ c.from_residual.ensures.0
