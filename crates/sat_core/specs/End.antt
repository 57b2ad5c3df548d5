-- What an answer of the solver means.
use Rattle.std.specs.Prelude.{◌≡◌, ℕ, false, Option, length, slice_index_or, IsSomeAnd}
use Rattle.cnf.specs.Formula.{Formula}
use Rattle.cnf.specs.Clauses.{Solves}
use Rattle.refute_check.specs.Accepted.{IsAccepted}
use Rattle.refute_check.specs.Fresh.{IsFresh}
use Rattle.sat_core.specs.declared.answers.Proposal.{Proposal}
use Rattle.sat_core.specs.declared.answers.Proposal.TheVariants.{Solution, Refutation, Nothing}
use Rattle.sat_core.specs.declared.solver.SatEnd.{SatEnd}
use Rattle.sat_core.specs.declared.solver.SatEnd.TheVariants.{Sat, Unsat, Spent}

-- A full solution; a log that the checker accepts; or, only within a budget, as many new steps as it has.
abbrev pub IsRightEnd : Formula → Option ℕ → SatEnd → Type 0
IsRightEnd formula budget (Sat values) = (length values.items ≡ formula.vars) × Solves (λ v. slice_index_or values.items v false) formula.clauses
IsRightEnd formula budget (Unsat log) = IsAccepted formula log
IsRightEnd formula budget (Spent log) = IsSomeAnd budget (λ n. IsFresh formula log n)

-- A full solution; of a log nothing is said before it is judged.
abbrev pub IsRightProposal : Formula → Proposal → Type 0
IsRightProposal formula (Solution values) = (length values.items ≡ formula.vars) × Solves (λ v. slice_index_or values.items v false) formula.clauses
IsRightProposal formula (Refutation log) = Unit {0}
IsRightProposal formula Nothing = Unit {0}
