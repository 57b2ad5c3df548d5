-- Runs of a design under the stimuli and the overridings of a table (this project's definition of what is claimed of a design).
use Rattle.std.specs.Prelude.{◌≡◌, ℕ, suc, ◌<◌, List, [], ◌∷◌, map, length, slice_index_or, Option, Some, None}
use Rattle.std.specs.List.{All, flat_map}
use Rattle.fourvec.specs.declared.Bit.{Bit}
use Rattle.fourvec.specs.declared.Bit.TheVariants.{Unknown}
use Rattle.settling.specs.Settling.{Store, Even}
use Rattle.settling.specs.Least.{Under}
use Rattle.svtv_table.specs.declared.bound.Bound.{Bound}
use Rattle.svtv_table.specs.Stimuli.{values_of, settings_in}
use Rattle.sv_meaning.specs.Designs.{Design, Overriding, Settles, links_of}

-- ---- what a table asks

-- What a table asks, phase by phase: of the wire of each `in` row a vector, or nothing where the phase is free; and of the wire of each
-- `over` row that it is set, to a vector or to anything, or nothing where it is not overridden.
pub record Asked : Type 0 where
  pub stimuli : List (ℕ × List (Option (List Bit)))
  pub settings : List (ℕ × List (Option (Option (List Bit))))

-- the same of a table that is bound to wires, under a choice of its variables
abbrev pub asks_of : List (List Bit) → Bound → Asked
asks_of choice bound = record { stimuli = values_of choice bound.drives; settings = settings_in choice bound.overs }

-- wires, each with a vector or anything
abbrev pub Asks : Type 0
Asks = List (ℕ × Option (List Bit))

-- a wire has this vector, or anything
abbrev pub IsDriven : Store → ℕ → Option (List Bit) → Type 0
IsDriven values n None = Unit {0}
IsDriven values n (Some v) = (k : ℕ) → k < length v → values n k ≡ slice_index_or v k Unknown

abbrev pub AreDriven : Asks → Store → Type 0
AreDriven asks values = All (λ a. IsDriven values a.0 a.1) asks

-- what rows ask in a phase
abbrev pub driven_rows : List (ℕ × List (Option (List Bit))) → ℕ → Asks
driven_rows rows phase = map (λ row. (row.0, slice_index_or row.1 phase None)) rows

-- what the inputs are driven with in a phase
abbrev pub stimuli_in : Asked → ℕ → Asks
stimuli_in asked phase = driven_rows asked.stimuli phase

-- a stimulus that a table allows in a phase
abbrev pub Allows : Asked → ℕ → Store → Type 0
Allows asked phase stim = AreDriven (stimuli_in asked phase) stim

abbrev pub set_if : ℕ → Option (Option (List Bit)) → Asks
set_if n None = []
set_if n (Some v) = (n, v) ∷ []

-- what rows set in a phase
abbrev pub set_rows : List (ℕ × List (Option (Option (List Bit)))) → ℕ → Asks
set_rows rows phase = flat_map (λ row. set_if row.0 (slice_index_or row.1 phase None)) rows

-- what the overridden wires are set to in a phase, in the order of their rows
abbrev pub overrides_in : Asked → ℕ → Asks
overrides_in asked phase = set_rows asked.settings phase

-- an overriding that a table allows in a phase: of exactly these wires
pub record Overrides (asked : Asked) (phase : ℕ) (o : Overriding) : Type 0 where
  pub wires : o.wires ≡ map (λ a. a.0) (overrides_in asked phase)
  pub values : AreDriven (overrides_in asked phase) o.values

-- no wire has two rows of one kind
pub record AreApart (asked : Asked) : Type 0 where
  pub stimuli : (i j : ℕ) → i < length asked.stimuli → j < length asked.stimuli → (slice_index_or asked.stimuli i (0, [])).0 ≡ (slice_index_or asked.stimuli j (0, [])).0 → i ≡ j
  pub settings : (i j : ℕ) → i < length asked.settings → j < length asked.settings → (slice_index_or asked.settings i (0, [])).0 ≡ (slice_index_or asked.settings j (0, [])).0 → i ≡ j

-- ---- runs

-- the valuation before the first phase, and that of each phase
pub record Run : Type 0 where
  pub first : Store
  pub later : List Store

-- from a phase on, each valuation settles over the one before, with a stimulus and an overriding that the table allows in its phase
abbrev pub Follows : Design → Asked → ℕ → Store → List Store → Type 0
Follows d rows phase prev [] = Unit {0}
Follows d rows phase prev (now ∷ more) = ((stim : Store) × (o : Overriding) × Allows rows phase stim × Overrides rows phase o × Settles d stim o prev now) × Follows d rows (suc phase) now more

-- A run over so many phases. In the first valuation joined bits are equal, and nothing else is asked of it.
pub record IsRun (d : Design) (rows : Asked) (phases : ℕ) (r : Run) : Type 0 where
  pub even : Even (links_of d.works) r.first
  pub follows : Follows d rows 0 r.first r.later
  pub long : length r.later ≡ phases

-- ---- the least run

abbrev pub UnderEach : List Store → List Store → Type 0
UnderEach [] [] = Unit {0}
UnderEach [] (t ∷ more) = ⊥
UnderEach (s ∷ all) [] = ⊥
UnderEach (s ∷ all) (t ∷ more) = Under s t × UnderEach all more

-- each bit of each valuation is X or the other's
abbrev pub IsUnder : Run → Run → Type 0
IsUnder r s = Under r.first s.first × UnderEach r.later s.later

-- the run below every run
pub record IsLeastRun (d : Design) (rows : Asked) (phases : ℕ) (r : Run) : Type 0 where
  pub run : IsRun d rows phases r
  pub least : (s : Run) → IsRun d rows phases s → IsUnder r s

-- ---- from a given valuation

-- A run that begins with this valuation.
pub record IsRunFrom (d : Design) (rows : Asked) (phases : ℕ) (first : Store) (r : Run) : Type 0 where
  pub run : IsRun d rows phases r
  pub begins : r.first ≡ first

-- the one below every other
pub record IsLeastRunFrom (d : Design) (rows : Asked) (phases : ℕ) (first : Store) (r : Run) : Type 0 where
  pub run : IsRunFrom d rows phases first r
  pub least : (s : Run) → IsRunFrom d rows phases first s → IsUnder r s
