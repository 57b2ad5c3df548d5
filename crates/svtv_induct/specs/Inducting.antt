-- Which verdicts of an invariant are right, over the values of nodes.
use Rattle.std.specs.Prelude.{◌≡◌, ◌<◌, ◌≤◌, ◌↔◌, ℕ, Bool, List, [], length, take, Option, Some, slice_index_or}
use Rattle.cnf.specs.Clauses.{AllBelow, Solves}
use Rattle.cnf.specs.Formula.{Formula}
use Rattle.driver_resolve.specs.Drivers.{widths_of}
use Rattle.event_nets.specs.Tables.{IsValuation, store_of}
use Rattle.fourvec.specs.declared.Bit.{Bit}
use Rattle.goal_gates.specs.Goals.{Goal, IsBreaking}
use Rattle.goal_gates.specs.Rooms.{AreReached, room}
use Rattle.goal_prove.specs.declared.answers.Answer.{Answer}
use Rattle.goal_prove.specs.declared.answers.Answer.TheVariants.{Found, Never, Spent}
use Rattle.refute_check.specs.Entry.{Entry}
use Rattle.refute_check.specs.Fresh.{IsFresh}
use Rattle.settling.specs.Settling.{Store, Even, first_bit}
use Rattle.sv_meaning.specs.Designs.{Design, links_of}
use Rattle.svex_arena.specs.Arenas.{Extends}
use Rattle.svtv_choices.specs.Choices.{bits_of}
use Rattle.svtv_periods.specs.Invariants.{signals_in, samples_in}
use Rattle.svtv_runs.specs.Runs.{Run, IsLeastRun, IsLeastRunFrom, asks_of}
use Rattle.svtv_table.specs.Stimuli.{IsChoice}
use Rattle.svtv_table.specs.declared.bound.VarDecl.{VarDecl}
use Rattle.svtv_unroll.specs.Unrolled.{AreSampleNodes, IsGrown}
use Rattle.svtv_induct.specs.Halves.{AreOneOver, claims_at}
use Rattle.svtv_induct.specs.States.{joined_state, own_state, with_vars}
use Rattle.svtv_induct.specs.declared.half.Half.{Half}
use Rattle.svtv_induct.specs.declared.half.Inducted.{Inducted}
use Rattle.svtv_induct.specs.declared.half.Inducted.TheVariants.{Invariant, BaseFails, StepFails, Undecided}

-- ---- the two questions

-- Under this choice some claim is not 1 over the samples of the least run of the design.
pub record BreaksBase (d : Design) (h : Half) (at : ℕ) (choice : List (List Bit)) : Type 0 where
  pub is : IsChoice h.bound.vars choice
  pub run : Run
  pub least : IsLeastRun d (asks_of choice h.bound) h.bound.phases run
  pub breaks : AreOneOver h (samples_in h.bound.samples run) at → ⊥

-- The claims are 1 over the samples' signals in this valuation, whose joined bits are equal, and under this choice some claim is not 1 over the
-- samples of the least run of the design from there.
pub record BreaksStep (d : Design) (h : Half) (at : ℕ) (choice : List (List Bit)) (state : Store) : Type 0 where
  pub is : IsChoice h.bound.vars choice
  pub even : Even (links_of d.works) state
  pub before : AreOneOver h (signals_in h.bound.samples state) at
  pub run : Run
  pub least : IsLeastRunFrom d (asks_of choice h.bound) h.bound.phases state run
  pub breaks : AreOneOver h (samples_in h.bound.samples run) at → ⊥

-- whether some choice breaks the base, and whether some choice and valuation break the step
pub data Question : Type 0 where
  of_base : Question
  of_step : Question

abbrev pub HasAnswer : Design → Half → Half → ℕ → Question → Type 0
HasAnswer d base step at of_base = (choice : List (List Bit)) × BreaksBase d base at choice
HasAnswer d base step at of_step = (choice : List (List Bit)) × (state : Store) × BreaksStep d step at choice state

-- ---- the graphs in which they stand

-- The question of the base as a goal of nodes: over a graph that has all nodes of the half, under the same numbers, without hypotheses.
pub record IsBaseGoal (d : Design) (h : Half) (at : ℕ) (g : Goal) : Type 0 where
  pub graph : Extends h.fsm.flat.arena g.shapes
  pub vars : g.vars ≡ h.bound.vars
  pub samples : AreSampleNodes h.bound.vars h.bound.samples g.shapes g.samples
  pub hyps : g.hyps ≡ []
  pub claims : g.claims ≡ claims_at h at
  pub asks : (choice : List (List Bit)) → IsBreaking g choice ↔ BreaksBase d h at choice

-- And that of the step, with two variables more for each wire and a hypothesis for each claim.
pub record IsStepGoal (d : Design) (h : Half) (at : ℕ) (g : Goal) : Type 0 where
  pub graph : Extends h.fsm.flat.arena g.shapes
  pub vars : g.vars ≡ (with_vars h.bound h.fsm.flat.wires).vars
  pub samples : AreSampleNodes (with_vars h.bound h.fsm.flat.wires).vars h.bound.samples g.shapes g.samples
  pub hyps : length g.hyps ≡ length (claims_at h at)
  pub claims : g.claims ≡ claims_at h at
  pub asks : ((choice : List (List Bit)) × IsBreaking g choice) ↔ ((choice : List (List Bit)) × (state : Store) × BreaksStep d h at choice state)

abbrev pub IsGoalOf : Design → Half → Half → ℕ → Question → Goal → Type 0
IsGoalOf d base step at of_base g = IsBaseGoal d base at g
IsGoalOf d base step at of_step g = IsStepGoal d step at g

-- ---- verdicts

-- The budget is n. The clauses are over their variables alone, and have a solution exactly where something is. They have no more variables than a goal
-- of nodes has room for that asks it, over variables of more than 12 bits; and n new clauses follow from them, one after the other.
pub record IsLeft (budget : Option ℕ) (Is : Type 0) (IsGoal : Goal → Type 0) (formula : Formula) (log : List Entry) : Type 0 where
  pub n : ℕ
  pub given : budget ≡ Some n
  pub below : AllBelow formula.vars formula.clauses
  pub asked : ((v : ℕ → Bool) × Solves v formula.clauses) ↔ Is
  pub posed : Goal
  pub asks : IsGoal posed
  pub many : 12 < bits_of posed.vars
  pub fits : (marks : List Bool) → AreReached posed marks → formula.vars ≤ room posed marks
  pub fresh : IsFresh formula log n

-- The budget was used up by new clauses over clauses that ask one of the two.
pub record IsUndecided (d : Design) (base step : Half) (at : ℕ) (budget : Option ℕ) (formula : Formula) (log : List Entry) : Type 0 where
  pub question : Question
  pub left : IsLeft budget (HasAnswer d base step at question) (IsGoalOf d base step at question) formula log

-- a verdict is right of a design where this budget is given, or none
abbrev pub IsRight : Design → Half → Half → ℕ → Option ℕ → Inducted → Type 0
IsRight d base step at budget Invariant = ((choice : List (List Bit)) → BreaksBase d base at choice → ⊥) × ((choice : List (List Bit)) (state : Store) → BreaksStep d step at choice state → ⊥)
IsRight d base step at budget (BaseFails choice) = BreaksBase d base at choice
IsRight d base step at budget (StepFails choice state) = IsValuation (widths_of step.fsm.flat.wires) state.values × BreaksStep d step at choice (store_of state.values)
IsRight d base step at budget (Undecided formula log) = IsUndecided d base step at budget formula log

-- The vectors of a failure are a choice of the table's variables, and for the step those of a valuation of the wires.
abbrev pub HasVectors : Half → Half → Inducted → Type 0
HasVectors base step Invariant = Unit {0}
HasVectors base step (BaseFails choice) = IsChoice base.bound.vars choice
HasVectors base step (StepFails choice state) = IsChoice step.bound.vars choice × IsValuation (widths_of step.fsm.flat.wires) state.values
HasVectors base step (Undecided formula log) = Unit {0}

-- ---- words of the inner functions

-- the valuation that a choice of the variables and of those of the wires stands for
abbrev pub state_of : Design → Half → List (List Bit) → Store
state_of d h choice = joined_state (first_bit (links_of d.works)) (own_state choice (length h.bound.vars) (length h.fsm.flat.wires))

-- joined bits are equal in a valuation, and it is that one within the wires
pub record IsStateOf (d : Design) (h : Half) (choice : List (List Bit)) (state : Store) : Type 0 where
  pub even : Even (links_of d.works) state
  pub within : (n k : ℕ) → n < length h.fsm.flat.wires → k < slice_index_or (widths_of h.fsm.flat.wires) n 0 → state n k ≡ state_of d h choice n k

-- what comes of the question of the base
abbrev pub IsBaseBy : Design → Half → ℕ → Option ℕ → Answer → Type 0
IsBaseBy d h at budget (Found choice) = BreaksBase d h at choice
IsBaseBy d h at budget (Never cert) = (choice : List (List Bit)) → BreaksBase d h at choice → ⊥
IsBaseBy d h at budget (Spent cert) = IsLeft budget ((choice : List (List Bit)) × BreaksBase d h at choice) (IsBaseGoal d h at) cert.cnf cert.log

-- and of that of the step, of which the answer has two vectors more for each wire
abbrev pub IsStepBy : Design → Half → ℕ → Option ℕ → Answer → Type 0
IsStepBy d h at budget (Found choice) = (state : Store) → IsStateOf d h choice state → BreaksStep d h at (take (length h.bound.vars) choice) state
IsStepBy d h at budget (Never cert) = (choice : List (List Bit)) (state : Store) → BreaksStep d h at choice state → ⊥
IsStepBy d h at budget (Spent cert) = IsLeft budget ((choice : List (List Bit)) × (state : Store) × BreaksStep d h at choice state) (IsStepGoal d h at) cert.cnf cert.log

-- what is found is a choice of these variables
abbrev pub IsChosen : List VarDecl → Answer → Type 0
IsChosen vars (Found choice) = IsChoice vars choice
IsChosen vars (Never cert) = Unit {0}
IsChosen vars (Spent cert) = Unit {0}

-- what is said of the step where the base holds
abbrev pub IsStepRight : Design → Half → ℕ → Option ℕ → Inducted → Type 0
IsStepRight d h at budget Invariant = (choice : List (List Bit)) (state : Store) → BreaksStep d h at choice state → ⊥
IsStepRight d h at budget (BaseFails choice) = ⊥
IsStepRight d h at budget (StepFails choice state) = IsValuation (widths_of h.fsm.flat.wires) state.values × BreaksStep d h at choice (store_of state.values)
IsStepRight d h at budget (Undecided formula log) = IsLeft budget ((choice : List (List Bit)) × (state : Store) × BreaksStep d h at choice state) (IsStepGoal d h at) formula log

-- the arena of a half alone grows
pub record IsHalfGrown (old new : Half) : Type 0 where
  pub fsm : IsGrown old.fsm new.fsm
  pub bound : new.bound ≡ old.bound
  pub firsts : new.firsts ≡ old.firsts
  pub claims : new.claims ≡ old.claims
