use Rattle.std.proofs.lemmas.Result.{IfOk-from_err}
use Rattle.std.proofs.Common.{◌+◌, ◌*◌, List, take, eqb, ap, ◌∙◌, arith}
use Rattle.std.proofs.lemmas.List.{take_all}
use Rattle.aig.specs.declared.gate.Lit.{Lit}
use Rattle.aig.proofs.Growth.{Obeys-older}
use Rattle.aig.proofs.Values.{always_from}
use Rattle.aig_words.specs.Words.{number}
use Rattle.aig_words.proofs.Grown.{Grew-then}
use Rattle.aig_words.proofs.Numbers.{same_more}
use Rattle.aig_words.proofs.orders.eq.Goals as goal

pub loop-i-preserved : goal.loop-i-preserved
loop-i-preserved c =
    let i = c.loop-i.i in
    let grew = c.in_ok-last.ensures.grew in
    record {
      grew = Grew-then (4 * i) 4 (4 * (i + 1)) c.args.aig.now c.loop-i.aig _ (omega arith) c.loop-i.invariant.grew grew;
      within = c.in_ok-last.ensures.within;
      graph = λ some. c.in_ok-last.ensures.value.graph;
      value = λ v o. same_more v c.args.a.now c.args.b.now i _ _ c.requires.same c.loop-i-test.true
          (c.loop-i.invariant.value v (Obeys-older v _ _ grew.grows o)) (c.in_ok-last.ensures.value.obeyed v o);
    }

pub returns-clause-value : goal.returns-clause-value
returns-clause-value c =
    let a = c.args.a.now in
    let b = c.args.b.now in
    let i = c.loop-i.i in
    always_from _ _ (c.loop-i.invariant.graph (omega (arith, c.requires.some))) (λ v o.
    c.loop-i.invariant.value v o ∙ ap (λ (xs : List Lit). eqb (number v xs) (number v (take i b))) (take_all i a (omega arith)) ∙
    ap (λ (xs : List Lit). eqb (number v a) (number v xs)) (take_all i b (omega (arith, c.requires.same))))

pub returns-in_err-last-clause-value : goal.returns-in_err-last-clause-value
returns-in_err-last-clause-value c = IfOk-from_err _ _ c.from_residual.ensures.0

pub returns-in_err-last-clause-within : goal.returns-in_err-last-clause-within
returns-in_err-last-clause-within c = IfOk-from_err _ _ c.from_residual.ensures.0
