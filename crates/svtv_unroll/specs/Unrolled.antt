-- A table unrolled over all its phases: nodes for its samples over its variables alone.
use Rattle.std.specs.Prelude.{◌≡◌, ◌<◌, ℕ, suc, List, length, map, IsTrue, Option, None, Some, slice_get, slice_index, slice_index_or}
use Rattle.std.specs.List.{range_with_len}
use Rattle.fourvec.specs.declared.Bit.{Bit}
use Rattle.fourvec.specs.declared.Bit.TheVariants.{Unknown}
use Rattle.settling.specs.Settling.{Store}
use Rattle.svex_shape.specs.declared.shape.Shape.{Shape}
use Rattle.svex_shape.specs.declared.shape.VarName.{VarName}
use Rattle.svex_shape.specs.declared.shape.VarName.TheVariants.{Chosen}
use Rattle.svex_shape.specs.Shapes.{width_at}
use Rattle.svex_shape.specs.Values.{Vector, Reading, value_at, each_variable}
use Rattle.svex_arena.specs.Arenas.{Extends}
use Rattle.driver_resolve.specs.Drivers.{bitwise, has_wire, widths_of}
use Rattle.flat_net.specs.declared.flat.Flat.{Flat}
use Rattle.flat_net.specs.Flats.{IsFlat, IsLeastSettling}
use Rattle.phase_fsm.specs.Machines.{IsMachine, row_of}
use Rattle.sv_meaning.specs.Designs.{outside}
use Rattle.svtv_table.specs.declared.bound.Bound.{Bound}
use Rattle.svtv_table.specs.declared.bound.Drive.{Drive}
use Rattle.svtv_table.specs.declared.bound.Sample.{Sample}
use Rattle.svtv_table.specs.declared.bound.VarDecl.{VarDecl}
use Rattle.svtv_table.specs.Overs.{is_overridden_at, IsAscending}
use Rattle.svtv_table.specs.Stimuli.{IsChoice, given}
use Rattle.goal_text.specs.Scopes.{is_of_vars}
use Rattle.svtv_runs.specs.Runs.{Asked, asks_of}
use Rattle.svtv_runs.specs.Leasts.{least_overriding, least_stimulus}
use Rattle.phase_fsm.specs.declared.machine.Fsm.{Fsm}

-- ---- what nodes read

-- a bit of a variable under a choice; nothing else has a value there
abbrev pub choice_bits : List (List Bit) → VarName → ℕ → Bit
choice_bits choice (Chosen n) k = slice_index_or (given choice n) k Unknown
choice_bits choice name k = Unknown

-- as the nodes of goals read bits
abbrev pub under_choice : List (List Bit) → Reading
under_choice choice = bitwise (choice_bits choice)

-- so many bits, by their numbers
abbrev pub vector_of : (ℕ → Bit) → ℕ → Vector
vector_of bits width = map bits (range_with_len 0 width)

-- ---- least valuations

abbrev pub least_outside : Asked → ℕ → Store
least_outside asked phase = outside (least_stimulus asked phase) (least_overriding asked phase)

-- Valuations of a flat design by number, one before phase 0 and one behind each phase: X at every bit, and then in each phase the least
-- settling over the one before, with the least that a table allows from outside.
pub record AreLeast (flat : Flat) (asked : Asked) (phases : ℕ) (states : ℕ → Store) : Type 0 where
  pub first : (n k : ℕ) → states 0 n k ≡ Unknown
  pub later : (phase : ℕ) → phase < phases → IsLeastSettling flat (least_overriding asked phase).wires (least_outside asked phase) (states phase) (states (suc phase))

-- a bit of a sample's wire behind its phase
abbrev pub sampled_in : (ℕ → Store) → Option Sample → ℕ → Bit
sampled_in states None k = Unknown
sampled_in states (Some s) k = states (suc s.phase) s.wire k

-- Such valuations of a flat design, under a choice, whose machine this is.
pub record Behaves (fsm : Fsm) (bound : Bound) (choice : List (List Bit)) (states : ℕ → Store) : Type 0 where
  pub flat : Flat
  pub wires : flat.wires ≡ fsm.flat.wires
  pub machine : IsMachine flat fsm.sets fsm.flat.arena fsm.nodes
  pub known : IsChoice bound.vars choice
  pub least : AreLeast flat (asks_of choice bound) bound.phases states

-- ---- from a given valuation

-- a row of nodes for wires, in a graph
pub record Start : Type 0 where
  pub shapes : List Shape
  pub row : List (Option ℕ)

-- Under a choice the nodes of the row have what the wires have in a valuation, bit by bit of each wire.
abbrev pub Begins : List (List Bit) → List ℕ → Start → Store → Type 0
Begins choice widths start state = (n m : ℕ) → n < length widths → slice_index_or start.row n None ≡ Some m
    → value_at (under_choice choice) start.shapes m ≡ vector_of (state n) (slice_index widths n)

-- Valuations of a flat design, under a choice, whose machine this is: before phase 0 one that the nodes of a row have, and behind each phase the
-- least settling over the one before, with the least that a table allows from outside.
pub record BehavesFrom (fsm : Fsm) (bound : Bound) (start : Start) (choice : List (List Bit)) (states : ℕ → Store) : Type 0 where
  pub flat : Flat
  pub wires : flat.wires ≡ fsm.flat.wires
  pub machine : IsMachine flat fsm.sets fsm.flat.arena fsm.nodes
  pub known : IsChoice bound.vars choice
  pub begins : Begins choice (widths_of fsm.flat.wires) start (states 0)
  pub later : (phase : ℕ) → phase < bound.phases
      → IsLeastSettling flat (least_overriding (asks_of choice bound) phase).wires (least_outside (asks_of choice bound) phase) (states phase) (states (suc phase))

-- ---- what a machine has to be

-- it is the machine of a flat design
pub record HasDesign (fsm : Fsm) : Type 0 where
  pub flat : Flat
  pub sound : IsFlat flat
  pub wires : flat.wires ≡ fsm.flat.wires
  pub machine : IsMachine flat fsm.sets fsm.flat.arena fsm.nodes

-- the arena alone grows
pub record IsGrown (old new : Fsm) : Type 0 where
  pub wires : new.flat.wires ≡ old.flat.wires
  pub sets : new.sets ≡ old.sets
  pub nodes : new.nodes ≡ old.nodes
  pub flat : new.flat ≡ record old.flat { arena = new.flat.arena }
  pub extends : Extends old.flat.arena new.flat.arena

-- these are the wires that are overridden in a phase
abbrev pub AreSet : List ℕ → List (ℕ × List (Option Drive)) → ℕ → Type 0
AreSet over overs phase = (n : ℕ) → has_wire over n ≡ is_overridden_at overs phase n

-- Among the sets stand the wires that are overridden in the phase, ascending.
pub record HasSet (sets : List (List ℕ)) (overs : List (ℕ × List (Option Drive))) (phase : ℕ) : Type 0 where
  pub place : ℕ
  pub there : place < length sets
  pub wires : AreSet (row_of sets place) overs phase
  pub ascending : IsAscending (row_of sets place)

-- ---- what is answered

-- A node over the variables of a table alone, at their widths, with so many bits.
pub record IsOverVars (vars : List VarDecl) (shapes : List Shape) (width node : ℕ) : Type 0 where
  pub there : node < length shapes
  pub wide : width_at shapes node ≡ width
  pub mentions : IsTrue (each_variable (is_of_vars vars) shapes node)

abbrev pub width_of_sample : List Sample → ℕ → ℕ
width_of_sample samples k = slice_index (map (λ s. s.width) samples) k

-- a node for each sample
pub record AreSampleNodes (vars : List VarDecl) (samples : List Sample) (shapes : List Shape) (nodes : List ℕ) : Type 0 where
  pub as_many : length nodes ≡ length samples
  pub each : (k : ℕ) → k < length samples → IsOverVars vars shapes (width_of_sample samples k) (slice_index nodes k)

-- Under a choice each node has the bits of its sample.
pub record HaveSamples (choice : List (List Bit)) (samples : List Sample) (bits : Option Sample → ℕ → Bit) (shapes : List Shape) (nodes : List ℕ) : Type 0 where
  pub values : (k : ℕ) → k < length samples → value_at (under_choice choice) shapes (slice_index nodes k) ≡ vector_of (bits (slice_get samples k)) (width_of_sample samples k)
