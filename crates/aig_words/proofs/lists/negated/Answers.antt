use Rattle.std.proofs.Common.{◌≤◌, List, [], ◌∷◌, ◌++◌, false, length, get_or, map, take, ap, sym, ◌∙◌, arith}
use Rattle.std.proofs.lemmas.List.{map-append, take_all, take_more}
use Rattle.std.proofs.lemmas.Result.{IfOk-from_err}
use Rattle.aig.specs.declared.gate.Lit.{Lit}
use Rattle.aig.specs.Graph.{constant_lit, negation}
use Rattle.aig_words.proofs.lists.negated.Goals as goal

pub loop-l-init : goal.loop-l-init
loop-l-init c = c.new-word.ensures.items

pub loop-l-preserved : goal.loop-l-preserved
loop-l-preserved c =
    let a = c.args.a.now in
    let i = c.loop-l.l-index in
    let l : Lit = get_or a i (constant_lit false) in
    c.in_ok-push.ensures.items ∙ ap (λ (w : List Lit). w ++ c.not.result ∷ []) c.loop-l.invariant ∙ ap (λ (n : Lit). map negation (take i a) ++ n ∷ []) c.not.ensures
    ∙ sym (map-append negation (take i a) (l ∷ [])) ∙ ap (map negation) (sym (take_more a i (constant_lit false) c.loop-l-test.true))

pub returns : goal.returns
returns c =
    let end : length c.args.a.now ≤ c.loop-l.l-index = omega arith in
    c.loop-l.invariant ∙ ap (map negation) (take_all c.loop-l.l-index c.args.a.now end)

pub returns-in_err-push : goal.returns-in_err-push
returns-in_err-push c = IfOk-from_err _ _ c.from_residual.ensures.0
