use Rattle.std.proofs.Common.{◌≡◌, ℕ, ◌+◌, ◌-◌, ◌*◌, false, List, [], ◌∷◌, length, get_or, drop, ap, subst, ◌∙◌, arith}
use Rattle.std.proofs.lemmas.List.{drop_all}
use Rattle.aig.specs.declared.gate.Lit.{Lit}
use Rattle.aig.specs.Graph.{constant_lit}
use Rattle.aig.proofs.Growth.{Obeys-older}
use Rattle.aig.proofs.Values.{always_from}
use Rattle.aig_words.specs.Words.{number, IsWord, IsTurn, IsDivided}
use Rattle.std.proofs.lemmas.Result.{IfOk-from_err}
use Rattle.aig_words.proofs.Steps.{turns_fit}
use Rattle.aig_words.proofs.Grown.{Grew-refl, Grew-then, Grew-wider, IsWord-nil, IsWord-cons}
use Rattle.aig_words.proofs.Numbers.{number-nil, divide_more}
use Rattle.aig_words.proofs.divides.divide.Goals as goal

pub loop-i-init : goal.loop-i-init
loop-i-init c =
    let a = c.args.a.now in
    rw (c.new-rest.ensures.items, c.new-quotient.ensures.items) (record {
      grew = Grew-refl _ c.args.aig.now;
      quotient = IsWord-nil c.args.aig.now;
      rest = IsWord-nil c.args.aig.now;
      graph = λ some. absurd (omega arith);
      value = λ v o pos.
          let q : number v [] * number v c.args.b.now ≡ 0 * number v c.args.b.now = ap (λ n. n * number v c.args.b.now) (number-nil v) in
          let d : number v (drop (length a - 0) a) ≡ 0 = ap (λ (xs : List Lit). number v xs) (drop_all (length a - 0) a (omega arith)) ∙ number-nil v in
          (omega (arith, number-nil v), omega (arith, number-nil v));
    })

pub loop-i-preserved : goal.loop-i-preserved
loop-i-preserved c =
    let a = c.args.a.now in
    let b = c.args.b.now in
    let i = c.loop-i.i in
    let grew = c.in_ok-next.ensures.grew in
    let q : c.in_ok-quotient.quotient.items ≡ c.in_ok-next.next.bit ∷ c.loop-i.quotient.items = c.in_ok-quotient.ensures ∙ ap (λ (xs : List Lit). c.in_ok-next.next.bit ∷ xs) c.deref-in-loop-i.ensures.value in
    let long : length c.deref.result.now + 1 ≡ i + 1 = ap (λ (xs : List Lit). length xs + 1) c.deref.ensures.value ∙ ap (λ n. n + 1) c.loop-i.invariant.rest.long in
    rw q (record {
      grew = Grew-then (11 * length a * i) (11 * length b) (11 * length a * (i + 1)) c.args.aig.now c.loop-i.aig _ (omega (arith, c.requires.same)) c.loop-i.invariant.grew grew;
      quotient = IsWord-cons c.loop-i.aig _ i c.loop-i.quotient.items c.in_ok-next.next.bit grew.grows c.loop-i.invariant.quotient c.in_ok-next.ensures.bit_out;
      rest = subst (λ (n : ℕ). IsWord c.take_turn.new.aig n c.in_ok-next.next.rest.items) long c.in_ok-next.ensures.word;
      graph = λ some. c.in_ok-next.ensures.value.graph;
      value = λ v o pos.
          let before = c.loop-i.invariant.value v (Obeys-older v _ _ grew.grows o) pos in
          let turn = subst (λ (xs : List Lit). IsTurn (get_or a (length a - 1 - i) (constant_lit false)) xs b c.in_ok-next.next.bit c.in_ok-next.next.rest.items v) c.deref.ensures.value (c.in_ok-next.ensures.value.obeyed v o) before.1 in
          (divide_more v a c.loop-i.quotient.items c.loop-i.rest.items c.in_ok-next.next.rest.items (number v b) i c.in_ok-next.next.bit c.loop-i-test.true before.0 turn.0, turn.1);
    })

pub returns-clause-value : goal.returns-clause-value
returns-clause-value c =
    let a = c.args.a.now in
    let start : length a - c.loop-i.i ≡ 0 = omega arith in
    always_from _ _ (c.loop-i.invariant.graph (omega (arith, c.requires.some))) (λ v o.
    subst (λ (n : ℕ). IsDivided (drop n a) c.args.b.now c.loop-i.quotient.items c.loop-i.rest.items v) start (c.loop-i.invariant.value v o))

pub returns-clause-grew : goal.returns-clause-grew
returns-clause-grew c =
    let l = length c.args.a.now in
    let i = c.loop-i.i in
    let end : i ≡ l = omega arith in
    Grew-wider (11 * l * i) (11 * l * l) c.args.aig.now c.loop-i.aig (omega (arith, ap (λ n. 11 * l * n) end)) c.loop-i.invariant.grew

pub returns-in_err-next-clause-grew : goal.returns-in_err-next-clause-grew
returns-in_err-next-clause-grew c =
    let l = length c.args.a.now in
    let i = c.loop-i.i in
    Grew-then (11 * l * i) (11 * length c.args.b.now) (11 * l * l) c.args.aig.now c.loop-i.aig _ (omega (arith, turns_fit 11 l i c.loop-i-test.true, c.requires.same)) c.loop-i.invariant.grew c.in_err-next.ensures.grew

pub returns-in_err-quotient-clause-grew : goal.returns-in_err-quotient-clause-grew
returns-in_err-quotient-clause-grew c =
    let l = length c.args.a.now in
    let i = c.loop-i.i in
    Grew-then (11 * l * i) (11 * length c.args.b.now) (11 * l * l) c.args.aig.now c.loop-i.aig _ (omega (arith, turns_fit 11 l i c.loop-i-test.true, c.requires.same)) c.loop-i.invariant.grew c.in_ok-next.ensures.grew

pub returns-in_err-next-clause-quotient : goal.returns-in_err-next-clause-quotient
returns-in_err-next-clause-quotient c = IfOk-from_err _ _ c.from_residual.ensures.0

pub returns-in_err-next-clause-rest : goal.returns-in_err-next-clause-rest
returns-in_err-next-clause-rest c = IfOk-from_err _ _ c.from_residual.ensures.0

pub returns-in_err-next-clause-value : goal.returns-in_err-next-clause-value
returns-in_err-next-clause-value c = IfOk-from_err _ _ c.from_residual.ensures.0

pub returns-in_err-quotient-clause-quotient : goal.returns-in_err-quotient-clause-quotient
returns-in_err-quotient-clause-quotient c = IfOk-from_err _ _ c.from_residual-in_err-quotient.ensures.0

pub returns-in_err-quotient-clause-rest : goal.returns-in_err-quotient-clause-rest
returns-in_err-quotient-clause-rest c = IfOk-from_err _ _ c.from_residual-in_err-quotient.ensures.0

pub returns-in_err-quotient-clause-value : goal.returns-in_err-quotient-clause-value
returns-in_err-quotient-clause-value c = IfOk-from_err _ _ c.from_residual-in_err-quotient.ensures.0
