use Rattle.std.proofs.Common.{◌≡◌, ℕ, ◌+◌, ◌*◌, ◌^◌, List, false, length, take, ap, subst, arith, get_or}
use Rattle.std.proofs.lemmas.Result.{IfOk-from_err}
use Rattle.std.proofs.lemmas.List.{take_all}
use Rattle.aig.specs.declared.gate.Lit.{Lit}
use Rattle.aig.specs.Graph.{holds, constant_lit}
use Rattle.aig.proofs.Growth.{Obeys-older}
use Rattle.aig.proofs.Values.{always_from}
use Rattle.aig_words.specs.Words.{weight, number, IsWord}
use Rattle.aig_words.proofs.Grown.{Grew-refl, Grew-then, Grew-wider, IsIn-later, IsWord-nil, IsWord-push}
use Rattle.aig_words.proofs.Numbers.{number-nil, ripple_more}
use Rattle.aig_words.proofs.sums.sum_of.Goals as goal

pub loop-i-init : goal.loop-i-init
loop-i-init c = rw c.new-word.ensures.items (record {
  grew = Grew-refl 0 c.args.aig.now;
  word = IsWord-nil c.args.aig.now;
  carry_out = c.requires.carry_in;
  graph = λ some. absurd (omega arith);
  value = λ v o. omega (arith, number-nil v);
})

pub loop-i-preserved : goal.loop-i-preserved
loop-i-preserved c =
    let i = c.loop-i.i in
    let grew = c.in_ok-next.ensures.grew in
    rw c.in_ok-push.ensures.items (record {
      grew = Grew-then (7 * i) 7 (7 * (i + 1)) c.args.aig.now c.loop-i.aig _ (omega arith) c.loop-i.invariant.grew grew;
      word = IsWord-push c.loop-i.aig _ i c.loop-i.word.items _ grew.grows c.loop-i.invariant.word c.in_ok-next.ensures.sum_in;
      carry_out = c.in_ok-next.ensures.carry_in;
      graph = λ some. c.in_ok-next.ensures.value.graph;
      value = λ v o. ripple_more v c.args.a.now c.args.b.now c.loop-i.word.items i _ c.loop-i.last c.in_ok-next.next.carry (weight (holds v c.args.carry)) c.requires.same c.loop-i-test.true c.loop-i.invariant.word.long
          (c.loop-i.invariant.value v (Obeys-older v _ _ grew.grows o)) (c.in_ok-next.ensures.value.obeyed v o);
    })

pub returns-clause-value : goal.returns-clause-value
returns-clause-value c =
    let a = c.args.a.now in
    let b = c.args.b.now in
    let i = c.loop-i.i in
    let end : i ≡ length a = omega arith in
    always_from _ _ (c.loop-i.invariant.graph (omega (arith, c.requires.some))) (λ v o.
    let low_a : number v (take i a) ≡ number v a = ap (λ (xs : List Lit). number v xs) (take_all i a (omega arith)) in
    let low_b : number v (take i b) ≡ number v b = ap (λ (xs : List Lit). number v xs) (take_all i b (omega (arith, c.requires.same))) in
    let carry : 2 ^ i * weight (holds v c.loop-i.last) ≡ 2 ^ length a * weight (holds v c.loop-i.last) = ap (λ n. 2 ^ n * weight (holds v c.loop-i.last)) end in
    omega (arith, c.loop-i.invariant.value v o))

pub add_column-requires-clause-a_in : goal.add_column-requires-clause-a_in
add_column-requires-clause-a_in c = IsIn-later c.args.aig.now c.loop-i.aig (get_or c.args.a.now c.loop-i.i (constant_lit false)) c.loop-i.invariant.grew.grows (c.requires.a_in c.loop-i.i (constant_lit false) c.loop-i-test.true)

pub add_column-requires-clause-b_in : goal.add_column-requires-clause-b_in
add_column-requires-clause-b_in c = IsIn-later c.args.aig.now c.loop-i.aig (get_or c.args.b.now c.loop-i.i (constant_lit false)) c.loop-i.invariant.grew.grows (c.requires.b_in c.loop-i.i (constant_lit false) (omega (arith, c.loop-i-test.true, c.requires.same)))

pub add_column-requires-clause-c_in : goal.add_column-requires-clause-c_in
add_column-requires-clause-c_in c = c.loop-i.invariant.carry_out

pub returns-clause-grew : goal.returns-clause-grew
returns-clause-grew c =
    let end : c.loop-i.i ≡ length c.args.a.now = omega arith in
    Grew-wider (7 * c.loop-i.i) (7 * length c.args.a.now) c.args.aig.now c.loop-i.aig (omega (arith, end)) c.loop-i.invariant.grew

pub returns-clause-word : goal.returns-clause-word
returns-clause-word c =
    let end : c.loop-i.i ≡ length c.args.a.now = omega arith in
    subst (λ (n : ℕ). IsWord c.loop-i.aig n c.loop-i.word.items) end c.loop-i.invariant.word

pub returns-clause-carry_out : goal.returns-clause-carry_out
returns-clause-carry_out c = c.loop-i.invariant.carry_out

pub returns-in_err-next-clause-grew : goal.returns-in_err-next-clause-grew
returns-in_err-next-clause-grew c = Grew-then (7 * c.loop-i.i) 7 (7 * length c.args.a.now) c.args.aig.now c.loop-i.aig _ (omega (arith, c.loop-i-test.true)) c.loop-i.invariant.grew c.in_err-next.ensures.grew

pub returns-in_err-push-clause-grew : goal.returns-in_err-push-clause-grew
returns-in_err-push-clause-grew c = Grew-then (7 * c.loop-i.i) 7 (7 * length c.args.a.now) c.args.aig.now c.loop-i.aig _ (omega (arith, c.loop-i-test.true)) c.loop-i.invariant.grew c.in_ok-next.ensures.grew

pub returns-in_err-next-clause-word : goal.returns-in_err-next-clause-word
returns-in_err-next-clause-word c = IfOk-from_err _ _ c.from_residual.ensures.0

pub returns-in_err-next-clause-carry_out : goal.returns-in_err-next-clause-carry_out
returns-in_err-next-clause-carry_out c = IfOk-from_err _ _ c.from_residual.ensures.0

pub returns-in_err-next-clause-value : goal.returns-in_err-next-clause-value
returns-in_err-next-clause-value c = IfOk-from_err _ _ c.from_residual.ensures.0

pub returns-in_err-push-clause-word : goal.returns-in_err-push-clause-word
returns-in_err-push-clause-word c = IfOk-from_err _ _ c.from_residual-in_err-push.ensures.0

pub returns-in_err-push-clause-carry_out : goal.returns-in_err-push-clause-carry_out
returns-in_err-push-clause-carry_out c = IfOk-from_err _ _ c.from_residual-in_err-push.ensures.0

pub returns-in_err-push-clause-value : goal.returns-in_err-push-clause-value
returns-in_err-push-clause-value c = IfOk-from_err _ _ c.from_residual-in_err-push.ensures.0
