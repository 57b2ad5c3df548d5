use Rattle.std.proofs.lemmas.Result.{IfOk-from_err}
use Rattle.std.proofs.Common.{◌≡◌, List, length, replicate, false, ltb, ap, ◌∙◌, ◌*◌}
use Rattle.aig.specs.declared.gate.Lit.{Lit}
use Rattle.aig.specs.Graph.{constant_lit}
use Rattle.aig_words.specs.Words.{number}
use Rattle.aig_words.proofs.Grown.{zeros_in, some_node, if_ok, Grew-refl}
use Rattle.aig_words.proofs.Numbers.{number-zeros}
use Rattle.pair_words.proofs.Growing.{Grew_at}
use Rattle.std.proofs.lemmas.List.{length-replicate}
use Rattle.pair_words.proofs.numbers.some.Goals as goal

pub lt-requires-clause-a_in : goal.lt-requires-clause-a_in
lt-requires-clause-a_in c =
    let b = c.args.b.now in
    rw (c.deref.ensures.value, c.in_ok-none.ensures) (zeros_in c.args.aig.now (length b) (some_node c.args.aig.now b c.requires.some c.requires.b_in))

pub returns-clause-value : goal.returns-clause-value
returns-clause-value c = if_ok c.lt.result _ _ c.lt.ensures.value (λ r h v o.
    let b = c.args.b.now in
    let z : c.deref.result.now ≡ replicate (length b) (constant_lit false) = c.deref.ensures.value ∙ c.in_ok-none.ensures in
    h.obeyed v o ∙ ap (λ n. ltb n (number v b)) (ap (λ (xs : List Lit). number v xs) z ∙ number-zeros v (length b) o.bottom))

pub returns-in_err-none-clause-value : goal.returns-in_err-none-clause-value
returns-in_err-none-clause-value c = IfOk-from_err _ _ c.from_residual.ensures.0

pub returns-in_err-none-clause-within : goal.returns-in_err-none-clause-within
returns-in_err-none-clause-within c = IfOk-from_err _ _ c.from_residual.ensures.0

pub lt-requires-clause-same : goal.lt-requires-clause-same
lt-requires-clause-same c =
    let b = c.args.b.now in
    ap (λ (xs : List Lit). length xs) (c.deref.ensures.value ∙ c.in_ok-none.ensures) ∙ length-replicate (length b) (constant_lit false)

pub lt-requires-clause-b_in : goal.lt-requires-clause-b_in
lt-requires-clause-b_in c = c.requires.b_in

pub returns-clause-within : goal.returns-clause-within
returns-clause-within c = c.lt.ensures.within

pub returns-in_err-none-clause-grew : goal.returns-in_err-none-clause-grew
returns-in_err-none-clause-grew c = Grew-refl _ c.args.aig.now

pub returns-clause-grew : goal.returns-clause-grew
returns-clause-grew c =
    let b = c.args.b.now in
    let long = ap (λ (xs : List Lit). length xs) (c.deref.ensures.value ∙ c.in_ok-none.ensures) ∙ length-replicate (length b) (constant_lit false) in
    Grew_at (4 * length c.deref.result.now) (4 * length b) c.args.aig.now _ (ap (λ n. 4 * n) long) c.lt.ensures.grew
