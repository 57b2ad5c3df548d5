use Rattle.std.proofs.Common.{ℕ, ◌++◌, ◌∷◌, [], List, refl, ap, ◌∙◌}
use Rattle.hash_index.proofs.Keeping.{on_err}
use Rattle.std.proofs.lemmas.Result.{IfOk-from_err}
use Rattle.hash_index.proofs.index.push_entry.Goals as goal

pub returns-in_err-reserve-2-clause-hashes : goal.returns-in_err-reserve-2-clause-hashes
returns-in_err-reserve-2-clause-hashes c = IfOk-from_err _ _ c.from_residual-in_err-reserve-2.ensures.0

pub returns-in_err-reserve-2-clause-high : goal.returns-in_err-reserve-2-clause-high
returns-in_err-reserve-2-clause-high c = IfOk-from_err _ _ c.from_residual-in_err-reserve-2.ensures.0

pub returns-in_err-reserve-2-clause-low : goal.returns-in_err-reserve-2-clause-low
returns-in_err-reserve-2-clause-low c = IfOk-from_err _ _ c.from_residual-in_err-reserve-2.ensures.0

pub returns-in_err-reserve-3-clause-hashes : goal.returns-in_err-reserve-3-clause-hashes
returns-in_err-reserve-3-clause-hashes c = IfOk-from_err _ _ c.from_residual-in_err-reserve-3.ensures.0

pub returns-in_err-reserve-3-clause-high : goal.returns-in_err-reserve-3-clause-high
returns-in_err-reserve-3-clause-high c = IfOk-from_err _ _ c.from_residual-in_err-reserve-3.ensures.0

pub returns-in_err-reserve-3-clause-low : goal.returns-in_err-reserve-3-clause-low
returns-in_err-reserve-3-clause-low c = IfOk-from_err _ _ c.from_residual-in_err-reserve-3.ensures.0

pub returns-in_err-reserve-clause-hashes : goal.returns-in_err-reserve-clause-hashes
returns-in_err-reserve-clause-hashes c = IfOk-from_err _ _ c.from_residual.ensures.0

pub returns-in_err-reserve-clause-high : goal.returns-in_err-reserve-clause-high
returns-in_err-reserve-clause-high c = IfOk-from_err _ _ c.from_residual.ensures.0

pub returns-in_err-reserve-clause-low : goal.returns-in_err-reserve-clause-low
returns-in_err-reserve-clause-low c = IfOk-from_err _ _ c.from_residual.ensures.0

pub returns-in_err-reserve-clause-hashes_kept : goal.returns-in_err-reserve-clause-hashes_kept
returns-in_err-reserve-clause-hashes_kept c = on_err _ _ c.reserve.ensures.items

pub returns-in_err-reserve-clause-low_kept : goal.returns-in_err-reserve-clause-low_kept
returns-in_err-reserve-clause-low_kept c = on_err _ _ refl

pub returns-in_err-reserve-clause-high_kept : goal.returns-in_err-reserve-clause-high_kept
returns-in_err-reserve-clause-high_kept c = on_err _ _ refl

pub returns-in_err-reserve-2-clause-hashes_kept : goal.returns-in_err-reserve-2-clause-hashes_kept
returns-in_err-reserve-2-clause-hashes_kept c = on_err _ _ c.reserve.ensures.items

pub returns-in_err-reserve-2-clause-low_kept : goal.returns-in_err-reserve-2-clause-low_kept
returns-in_err-reserve-2-clause-low_kept c = on_err _ _ c.reserve-2.ensures.items

pub returns-in_err-reserve-2-clause-high_kept : goal.returns-in_err-reserve-2-clause-high_kept
returns-in_err-reserve-2-clause-high_kept c = on_err _ _ refl

pub returns-in_err-reserve-3-clause-hashes_kept : goal.returns-in_err-reserve-3-clause-hashes_kept
returns-in_err-reserve-3-clause-hashes_kept c = on_err _ _ c.reserve.ensures.items

pub returns-in_err-reserve-3-clause-low_kept : goal.returns-in_err-reserve-3-clause-low_kept
returns-in_err-reserve-3-clause-low_kept c = on_err _ _ c.reserve-2.ensures.items

pub returns-in_err-reserve-3-clause-high_kept : goal.returns-in_err-reserve-3-clause-high_kept
returns-in_err-reserve-3-clause-high_kept c = on_err _ _ c.reserve-3.ensures.items

pub returns-clause-hashes : goal.returns-clause-hashes
returns-clause-hashes c = c.push_reserved.ensures.items ∙ ap (λ (l : List ℕ). l ++ c.args.hash ∷ []) c.reserve.ensures.items

pub returns-clause-hashes_kept : goal.returns-clause-hashes_kept
returns-clause-hashes_kept c = tt

pub returns-clause-low : goal.returns-clause-low
returns-clause-low c = c.push_reserved-2.ensures.items ∙ ap (λ (l : List ℕ). l ++ 0 ∷ []) c.reserve-2.ensures.items

pub returns-clause-low_kept : goal.returns-clause-low_kept
returns-clause-low_kept c = tt

pub returns-clause-high : goal.returns-clause-high
returns-clause-high c = c.push_reserved-3.ensures.items ∙ ap (λ (l : List ℕ). l ++ 0 ∷ []) c.reserve-3.ensures.items

pub returns-clause-high_kept : goal.returns-clause-high_kept
returns-clause-high_kept c = tt
