use Rattle.std.proofs.lemmas.Result.{IfOk-from_err}
use Rattle.std.proofs.Common.{◌≡◌, ℕ, ◌-◌, ltb, List, [], ◌∷◌, ◌++◌, length, take, drop, ap, ◌∙◌, arith}
use Rattle.std.proofs.lemmas.List.{length-drop, take_all}
use Rattle.aig.specs.declared.gate.Lit.{Lit}
use Rattle.aig_words.specs.Words.{number}
use Rattle.pair_words.proofs.Moving.{capped_by}
use Rattle.pair_words.proofs.shifts.capped.Goals as goal

pub returns-clause-value : goal.returns-clause-value
returns-clause-value c = λ v o most le.
    let b = c.args.b.now in
    let n : ℕ = c.args.n in
    let high : take (length b - n) (drop n b) ≡ drop n b = take_all (length b - n) (drop n b) (omega (arith, length-drop n b)) in
    capped_by v b c.push.new.self.items n c.in_ok-far.far most c.requires.more le
    (c.in_ok-push.ensures.items ∙ ap (λ (t : List Lit). t ++ c.in_ok-far.far ∷ []) c.in_ok-word.ensures.items)
    (c.in_ok-far.ensures.value v o ∙ ap (λ (t : List Lit). ltb 0 (number v t)) high)

pub returns-in_err-far-clause-value : goal.returns-in_err-far-clause-value
returns-in_err-far-clause-value c = IfOk-from_err _ _ c.from_residual.ensures.0

pub returns-in_err-far-clause-word : goal.returns-in_err-far-clause-word
returns-in_err-far-clause-word c = IfOk-from_err _ _ c.from_residual.ensures.0

pub returns-in_err-push-clause-value : goal.returns-in_err-push-clause-value
returns-in_err-push-clause-value c = IfOk-from_err _ _ c.from_residual-in_err-push.ensures.0

pub returns-in_err-push-clause-word : goal.returns-in_err-push-clause-word
returns-in_err-push-clause-word c = IfOk-from_err _ _ c.from_residual-in_err-push.ensures.0

pub returns-in_err-word-clause-value : goal.returns-in_err-word-clause-value
returns-in_err-word-clause-value c = IfOk-from_err _ _ c.from_residual-in_err-word.ensures.0

pub returns-in_err-word-clause-word : goal.returns-in_err-word-clause-word
returns-in_err-word-clause-word c = IfOk-from_err _ _ c.from_residual-in_err-word.ensures.0
