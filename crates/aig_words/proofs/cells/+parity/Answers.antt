use Rattle.std.proofs.lemmas.Result.{IfOk-from_err}
use Rattle.std.proofs.Common.{◌/◌, List, length, ap, ◌∙◌}
use Rattle.aig.specs.declared.gate.Lit.{Lit}
use Rattle.aig.specs.Graph.{holds}
use Rattle.aig.proofs.Growth.{Obeys-older}
use Rattle.aig_words.specs.Words.{parity_of}
use Rattle.aig_words.proofs.Grown.{if_ok}
use Rattle.aig_words.proofs.Parities.{behind_whole, parity_one, parity_both}
use Rattle.aig_words.proofs.cells.+parity.Goals as goal

pub returns-then-a-eq1-clause-value : goal.returns-then-a-eq1-clause-value
returns-then-a-eq1-clause-value t c = λ v o. parity_one v c.args.a.now _ c.if-a-eq1.true

pub returns-clause-value : goal.returns-clause-value
returns-clause-value t c = if_ok c.xor.result _ _ c.xor.ensures.value (λ l h v o.
    let o2 = Obeys-older v _ _ c.xor.ensures.grew.grows o in
    let o1 = Obeys-older v _ _ c.in_ok-second.ensures.grew.grows o2 in
    parity_both v c.args.a.now (length c.args.a.now / 2) (holds v c.in_ok-first.first) (holds v c.in_ok-second.second) (holds v l)
    (h.obeyed v o) (c.in_ok-first.ensures.value v o1)
    (c.in_ok-second.ensures.value v o2 ∙ ap (λ (xs : List Lit). parity_of v xs) (behind_whole (length c.args.a.now / 2) c.args.a.now)))

pub returns-in_err-first-clause-value : goal.returns-in_err-first-clause-value
returns-in_err-first-clause-value t c = IfOk-from_err _ _ c.from_residual.ensures.0

pub returns-in_err-first-clause-within : goal.returns-in_err-first-clause-within
returns-in_err-first-clause-within t c = IfOk-from_err _ _ c.from_residual.ensures.0

pub returns-in_err-second-clause-value : goal.returns-in_err-second-clause-value
returns-in_err-second-clause-value t c = IfOk-from_err _ _ c.from_residual-in_err-second.ensures.0

pub returns-in_err-second-clause-within : goal.returns-in_err-second-clause-within
returns-in_err-second-clause-within t c = IfOk-from_err _ _ c.from_residual-in_err-second.ensures.0
