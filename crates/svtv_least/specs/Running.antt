-- Words of the inner functions: what runs one phase after another.
use Rattle.std.specs.Prelude.{◌≡◌, ◌≢◌, ◌<◌, ◌≤◌, ℕ, zero, suc, ◌==◌, nat_lt, List, [], All, length, map, slice_get, slice_index_or, Option, Some, None, if◌then◌else◌}
use Rattle.fourvec.specs.declared.Bit.{Bit}
use Rattle.fourvec.specs.declared.Bit.TheVariants.{Unknown}
use Rattle.fourvec.specs.Bits.{all_x}
use Rattle.settling.specs.Settling.{Store}
use Rattle.driver_resolve.specs.Drivers.{has_wire, widths_of}
use Rattle.flat_net.specs.declared.flat.Flat.{Flat}
use Rattle.event_sim.specs.Sims.{IsValuation, Fits, store_of}
use Rattle.sv_meaning.specs.Designs.{Design}
use Rattle.sv_elab.specs.Elaborated.{IsElaborated}
use Rattle.svtv_table.specs.declared.bound.Bound.{Bound}
use Rattle.svtv_table.specs.declared.bound.Drive.{Drive}
use Rattle.svtv_table.specs.declared.bound.Drive.TheVariants as drive
use Rattle.svtv_table.specs.declared.bound.Sample.{Sample}
use Rattle.svtv_table.specs.declared.bound.VarDecl.{VarDecl}
use Rattle.svtv_table.specs.Overs.{is_overridden_at}
use Rattle.svtv_runs.specs.Runs.{Run, IsLeastRunFrom, asks_of}
use Rattle.svtv_runs.specs.Truths.{valuation}
use Rattle.svtv_least.specs.declared.runner.Runner.{Runner}
use Rattle.svtv_least.specs.declared.settlers.Plan.{Plan}
use Rattle.svtv_least.specs.declared.settlers.Settler.{Settler}

-- what is asked of a wire of a width, X where nothing is
abbrev pub asked_vector : ℕ → Option (List Bit) → List Bit
asked_vector width None = all_x width
asked_vector width (Some v) = v

abbrev pub sample_widths : List Sample → List ℕ
sample_widths samples = map (λ s. s.width) samples

-- a bit of a sample that is taken in its phase, and is what it was before in any other
abbrev pub taken : Sample → ℕ → Store → Store → ℕ → ℕ → Bit
taken s phase now old n k = if s.phase == phase then now s.wire k else old n k

abbrev pub taken_of : Option Sample → ℕ → Store → Store → ℕ → ℕ → Bit
taken_of None phase now old n k = old n k
taken_of (Some s) phase now old n k = taken s phase now old n k

-- the samples before that number are taken
abbrev pub taken_before : List Sample → ℕ → ℕ → Store → Store → Store
taken_before samples at phase now old n k = if nat_lt n at then taken_of (slice_get samples n) phase now old n k else old n k

-- ---- what a choice gives to values of some widths

-- the drive gives a vector of this width
abbrev pub Gives : List (List Bit) → ℕ → Drive → Type 0
Gives choice width (drive.Fixed value) = length value ≡ width
Gives choice width (drive.Chosen number flips) = (number < length choice) × (length (slice_index_or choice number []) ≡ width)
Gives choice width drive.Free = Unit {0}

-- it sets nothing, or to a vector of this width
abbrev pub Sets : List (List Bit) → ℕ → Option Drive → Type 0
Sets choice width None = Unit {0}
Sets choice width (Some d) = Gives choice width d

-- The row is of one of the values, it has something in this phase, and each that it has gives a vector as wide as that value.
pub record IsGiven {D : Type 0} (as_wide : ℕ → D → Type 0) (widths : List ℕ) (phase : ℕ) (row : ℕ × List D) : Type 0 where
  pub wire : row.0 < length widths
  pub there : phase < length row.1
  pub gives : All (as_wide (slice_index_or widths row.0 0)) row.1

-- the sample is of one of the values, and as wide as it
pub record IsOf (widths : List ℕ) (sample : Sample) : Type 0 where
  pub wire : sample.wire < length widths
  pub width : sample.width ≡ slice_index_or widths sample.wire 0

-- the choice has a vector for each variable, as wide as it
abbrev pub AreAsWide : List VarDecl → List (List Bit) → Type 0
AreAsWide vars choice = map (λ v. length v) choice ≡ map (λ v. v.width) vars

-- ---- what settles

-- these are the wires that are overridden in a phase
abbrev pub AreSet : List ℕ → List (ℕ × List (Option Drive)) → ℕ → Type 0
AreSet over overs phase = (n : ℕ) → has_wire over n ≡ is_overridden_at overs phase n

-- each settler was made for its wires
abbrev pub AreFit : Flat → List Settler → Type 0
AreFit flat settlers = All (λ s. Fits flat s.over s.sim) settlers

-- the wires of the settler at a place
abbrev pub over_of : List Settler → ℕ → List ℕ
over_of settlers place = slice_index_or (map (λ s. s.over) settlers) place []

-- none of them is of these wires
abbrev pub LacksSettler : List Settler → List ℕ → Type 0
LacksSettler settlers over = (k : ℕ) → k < length settlers → over_of settlers k ≢ over

-- no two of them are of the same wires
abbrev pub HaveOwnWires : List Settler → Type 0
HaveOwnWires settlers = (i j : ℕ) → i < length settlers → j < length settlers → over_of settlers i ≡ over_of settlers j → i ≡ j

-- At this place is a settler of these wires, and those that were there before are where they were.
pub record IsFound (old new : List Settler) (over : List ℕ) (place : ℕ) : Type 0 where
  pub there : place < length new
  pub wires : over_of new place ≡ over
  pub more : length old ≤ length new
  pub stay : (k : ℕ) → k < length old → over_of new k ≡ over_of old k

-- Each of so many phases has a settler, of the wires that are overridden in it, and no two settlers are of one list of wires.
pub record IsPlan (flat : Flat) (overs : List (ℕ × List (Option Drive))) (plan : Plan) (phases : ℕ) : Type 0 where
  pub fit : AreFit flat plan.settlers.items
  pub apart : HaveOwnWires plan.settlers.items
  pub long : length plan.of_phase.items ≡ phases
  pub there : All (λ place. place < length plan.settlers.items) plan.of_phase.items
  pub wires : (phase : ℕ) → phase < phases → AreSet (over_of plan.settlers.items (slice_index_or plan.of_phase.items phase 0)) overs phase

-- A runner of this flat design, and of what this table overrides and samples.
pub record Serves (flat : Flat) (bound : Bound) (r : Runner) : Type 0 where
  pub plan : IsPlan flat bound.overs r.plan bound.phases
  pub prev : IsValuation (widths_of flat.wires) r.prev.values
  pub stim : IsValuation (widths_of flat.wires) r.stim.values
  pub blank : IsValuation (widths_of flat.wires) r.blank
  pub unknown : (n k : ℕ) → store_of r.blank n k ≡ Unknown
  pub values : map (λ v. length v) r.values ≡ sample_widths bound.samples
  pub blank_values : map (λ v. length v) r.blank_values ≡ sample_widths bound.samples
  pub unknown_values : (n k : ℕ) → store_of r.blank_values n k ≡ Unknown

-- ---- where a run stands

-- what the wires have behind so many phases of a run
abbrev pub behind : Run → ℕ → Store
behind r zero = r.first
behind r (suc phase) = valuation r phase

-- The wires of the runner have what they have behind so many phases of the least run from a valuation, under a choice, in each design that the flat
-- one stems from.
abbrev pub StandsBehind : Flat → Bound → (choice : List (List Bit)) → (first : Store) → (phases : ℕ) → Runner → Type 0
StandsBehind flat bound choice first phases runner =
    (d : Design) → IsElaborated d flat → (r : Run) → IsLeastRunFrom d (asks_of choice bound) bound.phases first r → store_of runner.prev.values ≡ behind r phases
