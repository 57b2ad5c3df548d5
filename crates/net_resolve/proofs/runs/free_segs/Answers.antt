use Rattle.std.proofs.lemmas.Result.{IfOk-from_err}
use Rattle.std.proofs.Common.{ℕ, ◌<◌, List, length, sym, ap, ◌∙◌, subst}
use Rattle.std.specs.Prelude.{Option, slice_index}
use Rattle.net_resolve.specs.Runs.{begins_in}
use Rattle.net_resolve.proofs.Running.{begin-at}
use Rattle.net_resolve.proofs.runs.free_segs.Goals as goal

pub run_segs-requires-clause-runs : goal.run_segs-requires-clause-runs
run_segs-requires-clause-runs c =
    let lows = c.in_ok-free_lows.free_lows.items in
    let runs = c.deref-4.ensures.value ∙ c.in_ok-runs.ensures ∙ ap (λ (l : List (Option ℕ)). begins_in l) c.deref-2.ensures.value in
    subst (λ (l : List (Option ℕ)). (i : ℕ) → i < length c.deref-4.result.now → slice_index c.deref-4.result.now i < length l) (sym c.deref-3.ensures.value)
    (subst (λ (r : List ℕ). (i : ℕ) → i < length r → slice_index r i < length lows) (sym runs) (λ i lt. (begin-at lows i lt).0))

pub returns-in_err-free_lows : goal.returns-in_err-free_lows
returns-in_err-free_lows c = IfOk-from_err _ _ c.from_residual-in_err-free_lows.ensures.0

pub returns-in_err-marks : goal.returns-in_err-marks
returns-in_err-marks c = IfOk-from_err _ _ c.from_residual.ensures.0

pub returns-in_err-runs : goal.returns-in_err-runs
returns-in_err-runs c = IfOk-from_err _ _ c.from_residual-in_err-runs.ensures.0
