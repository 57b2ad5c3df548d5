use Rattle.std.proofs.lemmas.Result.{IfOk-from_err}
use Rattle.std.proofs.Common.{List, subst, arith}
use Rattle.std.proofs.lemmas.List.{take_all}
use Rattle.svtv_table.specs.declared.bound.VarDecl.{VarDecl}
use Rattle.svex_blast.specs.Chosen.{HasVariables, widths_of}
use Rattle.svex_blast.proofs.Choosing.{variables_none, variables_more, extends_then}
use Rattle.svex_blast.proofs.inputs.variables.Goals as goal

pub vars-init : goal.vars-init
vars-init c = rw c.new-words.ensures.items (variables_none c.args.aig.now)

pub vars-preserved : goal.vars-preserved
vars-preserved c =
    rw (c.in_ok-push.ensures.items, c.from_vec.ensures) (variables_more c.args.vars.now c.vars.var-index c.var-item.result c.args.aig.now c.vars.aig _ c.vars.words.items c.in_ok-word.word.items
    c.vars-test.true c.var-item.is c.vars.invariant c.in_ok-word.ensures.made)

pub returns-clause-made : goal.returns-clause-made
returns-clause-made c = subst (λ (t : List VarDecl). HasVariables (widths_of t) c.args.aig.now c.vars.aig c.vars.words.items) (take_all c.vars.var-index c.args.vars.now (omega arith)) c.vars.invariant

pub returns-clause-extends : goal.returns-clause-extends
returns-clause-extends c = c.vars.invariant.extends

pub returns-in_err-word-clause-extends : goal.returns-in_err-word-clause-extends
returns-in_err-word-clause-extends c = extends_then c.args.aig.now c.vars.aig _ c.vars.invariant.extends c.in_err-word.ensures.extends

pub returns-in_err-push-clause-extends : goal.returns-in_err-push-clause-extends
returns-in_err-push-clause-extends c = extends_then c.args.aig.now c.vars.aig _ c.vars.invariant.extends c.in_ok-word.ensures.extends

pub returns-in_err-push-clause-made : goal.returns-in_err-push-clause-made
returns-in_err-push-clause-made c = IfOk-from_err _ _ c.from_residual-in_err-push.ensures.0

pub returns-in_err-word-clause-made : goal.returns-in_err-word-clause-made
returns-in_err-word-clause-made c = IfOk-from_err _ _ c.from_residual.ensures.0
