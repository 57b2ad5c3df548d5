use Rattle.std.proofs.lemmas.Result.{IfOk-from_err}
use Rattle.std.proofs.Common.{◌+◌, ◌*◌, arith}
use Rattle.aig.proofs.Growth.{Obeys-older}
use Rattle.aig_words.proofs.Grown.{Grew-then}
use Rattle.aig_words.proofs.Numbers.{less_more}
use Rattle.aig_words.proofs.orders.is_less.Goals as goal

pub loop-i-preserved : goal.loop-i-preserved
loop-i-preserved c =
    let i = c.loop-i.i in
    let grew = c.in_ok-last.ensures.grew in
    record {
      grew = Grew-then (4 * i) 4 (4 * (i + 1)) c.args.aig.now c.loop-i.aig _ (omega arith) c.loop-i.invariant.grew grew;
      within = c.in_ok-last.ensures.within;
      graph = λ some. c.in_ok-last.ensures.value.graph;
      value = λ v o. less_more v c.args.a.now c.args.b.now i _ _ c.requires.same c.loop-i-test.true
          (c.loop-i.invariant.value v (Obeys-older v _ _ grew.grows o)) (c.in_ok-last.ensures.value.obeyed v o);
    }

pub returns-in_err-last-clause-graph : goal.returns-in_err-last-clause-graph
returns-in_err-last-clause-graph c = IfOk-from_err _ _ c.from_residual.ensures.0

pub returns-in_err-last-clause-value : goal.returns-in_err-last-clause-value
returns-in_err-last-clause-value c = IfOk-from_err _ _ c.from_residual.ensures.0

pub returns-in_err-last-clause-within : goal.returns-in_err-last-clause-within
returns-in_err-last-clause-within c = IfOk-from_err _ _ c.from_residual.ensures.0
