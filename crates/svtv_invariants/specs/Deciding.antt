-- Invariants of a design, decided over the nodes of two halves.
use Rattle.std.specs.Prelude.{◌≡◌, ℕ, List, [], length, Option}
use Rattle.std.specs.List.{AllZip}
use Rattle.driver_resolve.specs.Drivers.{widths_of}
use Rattle.event_nets.specs.Tables.{IsValuation, store_of}
use Rattle.flat_net.specs.declared.flat.Flat.{Flat}
use Rattle.fourvec.specs.declared.Bit.{Bit}
use Rattle.goal_text.specs.Nodes.{IsTruth}
use Rattle.goal_text.specs.Scopes.{claims_scope, is_of_table}
use Rattle.goal_tree.specs.declared.tree.GoalTree.{GoalTree}
use Rattle.settling.specs.Settling.{Store}
use Rattle.sv_meaning.specs.Designs.{Design}
use Rattle.svtv_induct.specs.Halves.{claims_at}
use Rattle.svtv_induct.specs.declared.half.Half.{Half}
use Rattle.svtv_induct.specs.declared.half.Inducted.{Inducted}
use Rattle.svtv_induct.specs.declared.half.Inducted.TheVariants as found
use Rattle.svtv_least.specs.Running.{AreAsWide}
use Rattle.svtv_periods.specs.Invariants.{IsRight, ShowsBase, ShowsStep, Verdict, invariant, base_fails, step_fails, undecided, signals_in}
use Rattle.svtv_periods.specs.Periods.{Course, Stretch}
use Rattle.svtv_report.specs.declared.held.Held.{Held}
use Rattle.svtv_report.specs.declared.held.Held.TheVariants.{Invariant, BaseFails, StepFails, Undecided}
use Rattle.svtv_runs.specs.Runs.{Asked, asks_of}
use Rattle.svtv_table.specs.Stimuli.{IsChoice}
use Rattle.svtv_table.specs.declared.bound.Bound.{Bound}
use Rattle.svtv_invariants.specs.Showing.{AreLeastSamples, AreSamplesFrom}
use Rattle.svtv_invariants.specs.declared.deciding.Decided.{Decided}

-- ---- courses

-- a table that is bound, where this is asked under each choice
abbrev pub stretch_over : (List (List Bit) → Asked) → Bound → Stretch
stretch_over asked bound = record { asked = asked; phases = bound.phases; vars = bound.vars; samples = bound.samples }

-- a design under the table of its reset, and that of its periods
abbrev pub course_over : Design → (List (List Bit) → Asked) → (List (List Bit) → Asked) → Bound → Bound → Course
course_over d reset period first later = record { design = d; reset = stretch_over reset first; period = stretch_over period later }

-- under each choice of its variables the bound table asks what is asked
abbrev pub IsAskedBy : (List (List Bit) → Asked) → Bound → Type 0
IsAskedBy asked bound = (choice : List (List Bit)) → IsChoice bound.vars choice → asks_of choice bound ≡ asked choice

-- ---- claims

-- the claims of this number have the truths of the tree's, over the samples of the half's table
abbrev pub AreClaimsOf : GoalTree → Half → ℕ → Type 0
AreClaimsOf tree h at = AllZip (IsTruth (claims_scope [] h.bound.samples) (is_of_table [] h.bound.samples) h.fsm.flat.arena) tree.claims (claims_at h at)

-- ---- what is said

-- the verdict, where a period that fails begins with this valuation
abbrev pub verdict_from : Store → Held → Verdict
verdict_from state Invariant = invariant
verdict_from state (BaseFails choice) = base_fails choice
verdict_from state (StepFails choice) = step_fails choice state
verdict_from state (Undecided n) = undecided n

-- what is shown beside a verdict: nothing is asked where nothing fails
abbrev pub Shows : Course → GoalTree → Verdict → List (List Bit) → List (List Bit) → Type 0
Shows c tree invariant before shown = Unit {0}
Shows c tree (base_fails choice) before shown = ShowsBase c tree choice shown
Shows c tree (step_fails choice state) before shown = ShowsStep c tree choice state before shown
Shows c tree (undecided n) before shown = Unit {0}

-- For some valuation the verdict is right where this budget is given, or none, and what is shown is what breaks the claims.
pub record IsDecided (c : Course) (tree : GoalTree) (budget : Option ℕ) (x : Decided) : Type 0 where
  pub state : Store
  pub right : IsRight c tree budget (verdict_from state x.verdict)
  pub shows : Shows c tree (verdict_from state x.verdict) x.before x.shown

-- ---- words of the inner functions

-- what is said where this is found of the nodes
abbrev pub held_of : Inducted → Held
held_of found.Invariant = Invariant
held_of (found.BaseFails choice) = BaseFails choice
held_of (found.StepFails choice state) = StepFails choice
held_of (found.Undecided formula log) = Undecided (length log)

-- the vectors of a failure are as wide as variables and wires
abbrev pub Fits : Flat → Bound → Bound → Inducted → Type 0
Fits flat reset period found.Invariant = Unit {0}
Fits flat reset period (found.BaseFails choice) = AreAsWide reset.vars choice
Fits flat reset period (found.StepFails choice state) = AreAsWide period.vars choice × IsValuation (widths_of flat.wires) state.values
Fits flat reset period (found.Undecided formula log) = Unit {0}

-- what a failure shows
abbrev pub AreShown : Flat → Bound → Bound → Inducted → Decided → Type 0
AreShown flat reset period found.Invariant x = Unit {0}
AreShown flat reset period (found.BaseFails choice) x = AreLeastSamples flat reset choice x.shown
AreShown flat reset period (found.StepFails choice state) x = (x.before ≡ signals_in period.samples (store_of state.values)) × AreSamplesFrom flat period choice (store_of state.values) x.shown
AreShown flat reset period (found.Undecided formula log) x = Unit {0}
