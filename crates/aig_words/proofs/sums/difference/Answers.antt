use Rattle.std.proofs.Common.{◌≡◌, ◌+◌, ◌^◌, Bool, List, length, map, ap, sym, ◌∙◌, arith}
use Rattle.std.proofs.lemmas.Result.{IfOk-from_err}
use Rattle.std.proofs.lemmas.List.{length-map}
use Rattle.aig.specs.declared.gate.Lit.{Lit}
use Rattle.aig.specs.Graph.{holds, negation}
use Rattle.aig.proofs.Values.{always_from}
use Rattle.aig_words.specs.Words.{number, weight}
use Rattle.aig_words.proofs.Grown.{Grew-refl, negated_in, if_ok}
use Rattle.aig_words.proofs.Numbers.{holds-one, number-negated}
use Rattle.aig_words.proofs.sums.difference.Goals as goal

pub sum_of-requires-clause-same : goal.sum_of-requires-clause-same
sum_of-requires-clause-same c = c.requires.same ∙ sym (ap (λ (xs : List Lit). length xs) (c.deref.ensures.value ∙ c.in_ok-complement.ensures) ∙ length-map c.args.b.now negation)

pub sum_of-requires-clause-b_in : goal.sum_of-requires-clause-b_in
sum_of-requires-clause-b_in c = rw (c.deref.ensures.value, c.in_ok-complement.ensures) (negated_in c.args.aig.now c.args.b.now c.requires.b_in)

pub returns-clause-grew : goal.returns-clause-grew
returns-clause-grew c = c.sum_of.ensures.grew

pub returns-clause-word : goal.returns-clause-word
returns-clause-word c = c.sum_of.ensures.word

pub returns-clause-carry_out : goal.returns-clause-carry_out
returns-clause-carry_out c = c.sum_of.ensures.carry_out

pub returns-clause-value : goal.returns-clause-value
returns-clause-value c = if_ok _ _ _ c.sum_of.ensures.value (λ s h. always_from _ _ h.graph (λ v o.
    let a = c.args.a.now in
    let b = c.args.b.now in
    let e = h.obeyed v o in
    let z : weight (holds v c.constant.result) ≡ 1 = ap (λ (t : Bool). weight t) (holds-one v c.constant.result c.constant.ensures o.bottom) in
    let n : number v c.deref.result.now ≡ number v (map negation b) = ap (λ (xs : List Lit). number v xs) (c.deref.ensures.value ∙ c.in_ok-complement.ensures) in
    let m : number v (map negation b) + number v b + 1 ≡ 2 ^ length a = number-negated v b ∙ ap (λ t. 2 ^ t) (sym c.requires.same) in
    omega (arith, e, z, n, m)))

pub returns-in_err-complement-clause-grew : goal.returns-in_err-complement-clause-grew
returns-in_err-complement-clause-grew c = Grew-refl _ c.args.aig.now

pub returns-in_err-complement-clause-word : goal.returns-in_err-complement-clause-word
returns-in_err-complement-clause-word c = IfOk-from_err _ _ c.from_residual.ensures.0

pub returns-in_err-complement-clause-carry_out : goal.returns-in_err-complement-clause-carry_out
returns-in_err-complement-clause-carry_out c = IfOk-from_err _ _ c.from_residual.ensures.0

pub returns-in_err-complement-clause-value : goal.returns-in_err-complement-clause-value
returns-in_err-complement-clause-value c = IfOk-from_err _ _ c.from_residual.ensures.0
