-- Sets of overridden wires.
use Rattle.std.specs.Prelude.{◌≡◌, ◌≢◌, ◌⊎◌, ◌<◌, ℕ, List, [], ◌∷◌, ◌++◌, length, All, AllPairs, Contains, Option}
use Rattle.phase_fsm.specs.Machines.{row_of}
use Rattle.svtv_table.specs.declared.bound.Drive.{Drive}
use Rattle.svtv_table.specs.Overs.{IsAscending}
use Rattle.svtv_unroll.specs.Unrolled.{AreSet, HasSet}

-- the set is among them, and they stay, or it is not, and stands behind them
abbrev pub HasMore : List (List ℕ) → List ℕ → List (List ℕ) → Type 0
HasMore old over new = (Contains old over × (new ≡ old)) ⊎ ((Contains old over → ⊥) × (new ≡ old ++ over ∷ []))

-- The wires that are overridden in one of so many phases, ascending.
pub record IsOfPhase (overs : List (ℕ × List (Option Drive))) (phases : ℕ) (over : List ℕ) : Type 0 where
  pub phase : ℕ
  pub below : phase < phases
  pub wires : AreSet over overs phase
  pub ascending : IsAscending over

-- before each phase that has a set, each set that stands in front of it has a phase of its own
abbrev pub AreByFirstPhase : List (ℕ × List (Option Drive)) → ℕ → List (List ℕ) → Type 0
AreByFirstPhase overs phases sets = (s t : ℕ) → s < t → t < length sets → (phase : ℕ) → phase < phases → AreSet (row_of sets t) overs phase
    → (earlier : ℕ) × (earlier < phase) × AreSet (row_of sets s) overs earlier

-- The sets of overridden wires of a table, each once, in the order of the first phase that has each.
pub record AreSetsOf (overs : List (ℕ × List (Option Drive))) (phases : ℕ) (sets : List (List ℕ)) : Type 0 where
  pub all : (phase : ℕ) → phase < phases → HasSet sets overs phase
  pub once : AllPairs ◌≢◌ sets
  pub only : All (IsOfPhase overs phases) sets
  pub order : AreByFirstPhase overs phases sets
