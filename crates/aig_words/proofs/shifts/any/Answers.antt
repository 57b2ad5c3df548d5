use Rattle.std.proofs.lemmas.Result.{IfOk-from_err}
use Rattle.std.proofs.Common.{◌≡◌, ◌+◌, ◌-◌, ltb, List, length, ap, sym, ◌∙◌, arith}
use Rattle.std.proofs.lemmas.List.{drop_all}
use Rattle.aig.specs.declared.gate.Lit.{Lit}
use Rattle.aig.proofs.Growth.{Obeys-older}
use Rattle.aig_words.specs.Words.{number}
use Rattle.aig_words.proofs.Grown.{Grew-refl, Grew-then}
use Rattle.aig_words.proofs.Numbers.{any_more, holds-zero, number-nil}
use Rattle.aig_words.proofs.shifts.any.Goals as goal

pub loop-i-init : goal.loop-i-init
loop-i-init c = record {
  grew = Grew-refl 0 c.args.aig.now;
  within = (let e : c.constant-last.result.node ≡ 0 = ap (λ (l : Lit). l.node) c.constant-last.ensures in omega (arith, c.requires.some));
  value = λ v o. holds-zero v _ c.constant-last.ensures o.bottom ∙
      sym (ap (λ n. ltb 0 n) (ap (λ (xs : List Lit). number v xs) (drop_all (length c.args.a.now - 0) c.args.a.now (omega arith)) ∙ number-nil v));
}

pub loop-i-preserved : goal.loop-i-preserved
loop-i-preserved c =
    let i = c.loop-i.i in
    let grew = c.in_ok-last.ensures.grew in
    record {
      grew = Grew-then i 1 (i + 1) c.args.aig.now c.loop-i.aig _ (omega arith) c.loop-i.invariant.grew grew;
      within = c.in_ok-last.ensures.within;
      value = λ v o. any_more v c.args.a.now i _ _ c.loop-i-test.true
          (c.loop-i.invariant.value v (Obeys-older v _ _ grew.grows o)) (c.in_ok-last.ensures.value.obeyed v o);
    }

pub returns-in_err-last-clause-value : goal.returns-in_err-last-clause-value
returns-in_err-last-clause-value c = IfOk-from_err _ _ c.from_residual.ensures.0

pub returns-in_err-last-clause-within : goal.returns-in_err-last-clause-within
returns-in_err-last-clause-within c = IfOk-from_err _ _ c.from_residual.ensures.0
