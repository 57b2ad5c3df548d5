use Rattle.std.proofs.lemmas.Result.{IfOk-from_err}
use Rattle.std.proofs.Common.{◌≡◌, ◌+◌, ◌*◌, ℕ, List, length, take, sym, ap, subst, ◌∙◌, arith}
use Rattle.std.proofs.lemmas.List.{take_all}
use Rattle.aig.proofs.Growth.{Obeys-older}
use Rattle.aig_words.proofs.Grown.{Grew-refl, Grew-then, Grew-wider}
use Rattle.aig_words.specs.Words.{Grew}
use Rattle.fourvec.specs.Bits.{each_pair}
use Rattle.pair_words.specs.declared.pairs.Pair.{Pair}
use Rattle.pair_words.specs.Rails.{bits}
use Rattle.pair_words.specs.Steps.{step_value, step_nodes}
use Rattle.pair_words.proofs.Growing.{IsVector-nil, IsVector-push, vector_at, wired-later, one_place}
use Rattle.pair_words.proofs.Stepping.{step-later}
use Rattle.pair_words.proofs.Lists.{each_pair_none, each_pair_more}
use Rattle.pair_words.proofs.steps.each_place.Goals as goal

pub loop-i-init : goal.loop-i-init
loop-i-init c = rw c.new-word.ensures.items (record {
  grew = Grew-wider 0 (step_nodes c.args.step * 0) _ _ (omega arith) (Grew-refl 0 c.args.aig.now);
  word = IsVector-nil c.args.aig.now;
  value = λ v o. sym (each_pair_none (step_value v c.args.step));
})

pub loop-i-preserved : goal.loop-i-preserved
loop-i-preserved c =
    let i = c.loop-i.i in
    let m : ℕ = step_nodes c.args.step in
    let grew = c.in_ok-next.ensures.grew in
    rw c.in_ok-push.ensures.items (record {
      grew = Grew-then (m * i) m (m * (i + 1)) c.args.aig.now c.loop-i.aig _ (one_place m i (i + 1) (omega arith)) c.loop-i.invariant.grew grew;
      word = IsVector-push c.loop-i.aig _ i c.loop-i.word.items _ grew.grows c.loop-i.invariant.word c.in_ok-next.ensures.within;
      value = λ v o. each_pair_more v (step_value v c.args.step) c.args.a.now c.args.b.now c.loop-i.word.items i _ _ _ c.requires.same c.loop-i-test.true
          (c.loop-i.invariant.value v (Obeys-older v _ _ grew.grows o)) (c.in_ok-next.ensures.value v o);
    })

pub stepped-requires-clause-step_in : goal.stepped-requires-clause-step_in
stepped-requires-clause-step_in c = step-later c.args.aig.now c.loop-i.aig c.args.step c.loop-i.invariant.grew.grows c.requires.step_in

pub stepped-requires-clause-a_in : goal.stepped-requires-clause-a_in
stepped-requires-clause-a_in c = wired-later c.args.aig.now c.loop-i.aig c.args.a.now c.loop-i.invariant.grew.grows c.requires.a_in c.loop-i.i _ c.loop-i-test.true

pub stepped-requires-clause-b_in : goal.stepped-requires-clause-b_in
stepped-requires-clause-b_in c = wired-later c.args.aig.now c.loop-i.aig c.args.b.now c.loop-i.invariant.grew.grows c.requires.b_in c.loop-i.i _ (omega (arith, c.requires.same, c.loop-i-test.true))

pub returns-clause-grew : goal.returns-clause-grew
returns-clause-grew c =
    let e : c.loop-i.i ≡ length c.args.a.now = omega arith in
    subst (λ (n : ℕ). Grew (step_nodes c.args.step * n) c.args.aig.now c.loop-i.aig) e c.loop-i.invariant.grew

pub returns-clause-word : goal.returns-clause-word
returns-clause-word c = vector_at c.loop-i.aig c.loop-i.i (length c.args.a.now) c.loop-i.word.items (omega arith) c.loop-i.invariant.word

pub returns-clause-value : goal.returns-clause-value
returns-clause-value c = λ v o.
    let a = c.args.a.now in
    let b = c.args.b.now in
    let f = step_value v c.args.step in
    c.loop-i.invariant.value v o ∙
    ap (λ (xs : List Pair). each_pair f (bits v xs) (bits v (take c.loop-i.i b))) (take_all c.loop-i.i a (omega arith)) ∙
    ap (λ (xs : List Pair). each_pair f (bits v a) (bits v xs)) (take_all c.loop-i.i b (omega (arith, c.requires.same)))

pub returns-in_err-next-clause-grew : goal.returns-in_err-next-clause-grew
returns-in_err-next-clause-grew c =
    let m : ℕ = step_nodes c.args.step in
    let n : ℕ = length c.args.a.now in
    Grew-then (m * c.loop-i.i) m (m * n) c.args.aig.now c.loop-i.aig _ (one_place m c.loop-i.i n c.loop-i-test.true) c.loop-i.invariant.grew c.in_err-next.ensures.grew

pub returns-in_err-push-clause-grew : goal.returns-in_err-push-clause-grew
returns-in_err-push-clause-grew c =
    let m : ℕ = step_nodes c.args.step in
    let n : ℕ = length c.args.a.now in
    Grew-then (m * c.loop-i.i) m (m * n) c.args.aig.now c.loop-i.aig _ (one_place m c.loop-i.i n c.loop-i-test.true) c.loop-i.invariant.grew c.in_ok-next.ensures.grew

pub returns-in_err-next-clause-value : goal.returns-in_err-next-clause-value
returns-in_err-next-clause-value c = IfOk-from_err _ _ c.from_residual.ensures.0

pub returns-in_err-next-clause-word : goal.returns-in_err-next-clause-word
returns-in_err-next-clause-word c = IfOk-from_err _ _ c.from_residual.ensures.0

pub returns-in_err-push-clause-value : goal.returns-in_err-push-clause-value
returns-in_err-push-clause-value c = IfOk-from_err _ _ c.from_residual-in_err-push.ensures.0

pub returns-in_err-push-clause-word : goal.returns-in_err-push-clause-word
returns-in_err-push-clause-word c = IfOk-from_err _ _ c.from_residual-in_err-push.ensures.0
