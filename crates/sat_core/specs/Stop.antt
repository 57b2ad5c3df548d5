-- What the end of the search over all clauses means.
use Rattle.std.specs.Prelude.{◌≡◌, ℕ, false, List, Option, length, slice_index_or, IsSomeAnd}
use Rattle.cnf.specs.Formula.{Formula}
use Rattle.cnf.specs.Clauses.{Solves}
use Rattle.refute_check.specs.Accepted.{IsAccepted}
use Rattle.refute_check.specs.Entry.{Entry}
use Rattle.refute_check.specs.Fresh.{IsFresh}
use Rattle.sat_core.specs.declared.whole.Stop.{Stop}
use Rattle.sat_core.specs.declared.whole.Stop.TheVariants.{Solved, Refuted, UsedUp}

-- A full solution; steps that the checker accepts; or, only within a budget, as many new steps as it has.
abbrev pub IsRightStop : Formula → Option ℕ → List Entry → Stop → Type 0
IsRightStop formula budget steps (Solved values) = (length values.items ≡ formula.vars) × Solves (λ v. slice_index_or values.items v false) formula.clauses
IsRightStop formula budget steps Refuted = IsAccepted formula steps
IsRightStop formula budget steps UsedUp = IsSomeAnd budget (λ n. IsFresh formula steps n)
