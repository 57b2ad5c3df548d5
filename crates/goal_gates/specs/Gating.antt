-- Words of the inner functions: the truths of nodes by their rails.
use Rattle.std.specs.Prelude.{◌≡◌, ℕ, ◌+◌, ◌*◌, ◌<◌, ◌≤◌, Bool, false, not, ◌&&◌, List, length, slice_index_or}
use Rattle.std.specs.List.{list_all}
use Rattle.aig.specs.declared.gate.Gate.{Gate}
use Rattle.aig.specs.declared.gate.Lit.{Lit}
use Rattle.aig.specs.Graph.{IsGraph, IsIn, Grows, KeepsValues, constant_lit, count_inputs, value}
use Rattle.fourvec.specs.Bits.{is_one, first}
use Rattle.svex_arena.specs.Marks.{IsClosed, HasRoots}
use Rattle.svex_blast.specs.Chosen.{Planes, widths_of, bits_of}
use Rattle.svex_blast.specs.Reads.{only_chosen, chosen_by}
use Rattle.svex_blast.specs.Sizes.{gates_to}
use Rattle.svex_shape.specs.declared.shape.Shape.{Shape}
use Rattle.svex_shape.specs.Values.{Rows, read, value_at}
use Rattle.svtv_table.specs.declared.bound.VarDecl.{VarDecl}

-- ---- nodes

abbrev pub is_true : Rows → List Shape → ℕ → Bool
is_true rows shapes node = is_one (first (value_at (read rows) shapes node))

abbrev pub all_true : Rows → List Shape → List ℕ → Bool
all_true rows shapes nodes = list_all (is_true rows shapes) nodes

-- ---- rails

abbrev pub first_lit : List Lit → Lit
first_lit lits = slice_index_or lits 0 (constant_lit false)

-- the least significant bit is 1
abbrev pub is_top : List Bool → List Gate → Planes → Bool
is_top inputs gates rails = value inputs gates (first_lit rails.up) && value inputs gates (first_lit rails.low)

-- both rails have a first literal, which is in the graph
pub record HasFirst (gates : List Gate) (rails : Planes) : Type 0 where
  pub some_up : 0 < length rails.up
  pub some_low : 0 < length rails.low
  pub up : IsIn gates (first_lit rails.up)
  pub low : IsIn gates (first_lit rails.low)

-- ---- graphs that grow by conjunctions

-- at most so many nodes more, and none where there is at most one
pub record GrowsBy (most : ℕ) (old new : List Gate) : Type 0 where
  pub grows : Grows old new
  pub kept : KeepsValues old new
  pub nodes : length new ≤ length old + most
  pub flat : length old ≤ 1 → length new ≤ 1

-- a literal of the graph that is true exactly where `f` is
pub record IsTruth (gates : List Gate) (f : List Bool → Bool) (l : Lit) : Type 0 where
  pub within : IsIn gates l
  pub value : (inputs : List Bool) → value inputs gates l ≡ f inputs

-- ---- the literals of a goal, over nodes that read the variables of a table alone

-- under the bits of the inputs the first literal is true where the first nodes are 1, and the second where they are and the others are not all 1
pub record AreTold (vars : List VarDecl) (shapes : List Shape) (hyps claims : List ℕ) (gates : List Gate) (met broken : Lit) : Type 0 where
  pub graph : IsGraph gates
  pub inputs : count_inputs gates ≡ bits_of (widths_of vars)
  pub met_in : IsIn gates met
  pub broken_in : IsIn gates broken
  pub is_met : (inputs : List Bool) → length inputs ≡ count_inputs gates → value inputs gates met ≡ all_true (only_chosen (chosen_by (widths_of vars) inputs)) shapes hyps
  pub is_broken : (inputs : List Bool) → length inputs ≡ count_inputs gates → value inputs gates broken
      ≡ (all_true (only_chosen (chosen_by (widths_of vars) inputs)) shapes hyps && not (all_true (only_chosen (chosen_by (widths_of vars) inputs)) shapes claims))

-- the graph has no more nodes than the nodes that these roots reach may take
pub record AreFew (vars : List VarDecl) (shapes : List Shape) (roots : List ℕ) (gates : List Gate) : Type 0 where
  pub nodes : (marks : List Bool) → length marks ≡ length shapes → HasRoots roots marks (length roots) → IsClosed shapes marks 0
      → length gates ≤ 1 + bits_of (widths_of vars) + 4 * length roots + gates_to shapes marks (length marks)
  pub flat : bits_of (widths_of vars) ≡ 0 → length gates ≤ 1
