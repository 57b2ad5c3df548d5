-- The bits of variables as the inputs of a graph.
use Rattle.std.specs.Prelude.{◌≡◌, ℕ, ◌+◌, ◌<◌, ◌≤◌, Bool, true, List, [], ◌∷◌, length, map, take, drop}
use Rattle.std.specs.List.{All}
use Rattle.aig.specs.declared.gate.Lit.{Lit}
use Rattle.aig.specs.declared.gate.Gate.{Gate}
use Rattle.aig.specs.Graph.{gate_at, holds, values, count_inputs, IsIn, KeepsValues}
use Rattle.fourvec.specs.declared.Bit.{Bit}
use Rattle.fourvec.specs.Bits.{bit_of, truth_bit}
use Rattle.svex_shape.specs.declared.shape.Shape.{Shape}
use Rattle.svex_shape.specs.Values.{read, value_at}
use Rattle.svtv_table.specs.declared.bound.VarDecl.{VarDecl}
use Rattle.pair_words.specs.declared.pairs.Pair.{Pair}
use Rattle.pair_words.specs.Rails.{bits, IsWired}
use Rattle.svex_blast.specs.Reads.{only_chosen, chosen_by}
use Rattle.svex_blast.specs.Knowns.{are_twins}

abbrev pub widths_of : List VarDecl → List ℕ
widths_of vars = map (λ v. v.width) vars

-- the bits of variables of these widths
unfoldable pub bits_of : List ℕ → ℕ
bits_of [] = 0
bits_of (width ∷ more) = width + bits_of more

-- the nodes that there were keep their numbers and gates
pub record Extends (old new : List Gate) : Type 0 where
  pub longer : length old ≤ length new
  pub same : (k : ℕ) → k < length old → gate_at new k ≡ gate_at old k

-- a new input for each bit of a vector, from the lowest on
pub record HasInputs (width : ℕ) (old new : List Gate) (word : List Pair) : Type 0 where
  pub long : length word ≡ width
  pub inside : All (IsWired new) word
  pub twins : are_twins word ≡ true
  pub nodes : length new ≡ length old + width
  pub count : count_inputs new ≡ count_inputs old + width
  pub extends : Extends old new
  pub kept : KeepsValues old new
  pub is : (inputs : List Bool) → count_inputs new ≤ length inputs → bits (values inputs new) word ≡ map truth_bit (take width (drop (count_inputs old) inputs))

-- new inputs for the bits of variables of these widths, by variable and then from the lowest bit on
pub record HasVariables (widths : List ℕ) (old new : List Gate) (vars : List (List Pair)) : Type 0 where
  pub wide : map (λ w. length w) vars ≡ widths
  pub inside : All (All (IsWired new)) vars
  pub twins : All (λ w. are_twins w ≡ true) vars
  pub nodes : length new ≡ length old + bits_of widths
  pub count : count_inputs new ≡ count_inputs old + bits_of widths
  pub extends : Extends old new
  pub kept : KeepsValues old new
  pub is : (inputs : List Bool) → count_inputs new ≤ length inputs → map (bits (values inputs new)) vars ≡ chosen_by widths (drop (count_inputs old) inputs)

-- two rails, as lists of literals
pub record Planes : Type 0 where
  pub up : List Lit
  pub low : List Lit

-- the rails of pairs
abbrev pub planes_of : List Pair → Planes
planes_of word = record { up = map (λ p. p.up) word; low = map (λ p. p.low) word }

-- the literals of rails are in the graph, as many as this on each rail
pub record AreWired (gates : List Gate) (width : ℕ) (rails : Planes) : Type 0 where
  pub up_long : length rails.up ≡ width
  pub low_long : length rails.low ≡ width
  pub up_in : All (IsIn gates) rails.up
  pub low_in : All (IsIn gates) rails.low

-- the vector that rails show
unfoldable pub shown : (ℕ → Bool) → List Lit → List Lit → List Bit
shown v (p ∷ up) (q ∷ low) = bit_of (holds v p) (holds v q) ∷ shown v up low
shown v _ _ = []

-- Under all values of the inputs, rails show the value of a node, where the variables have the bits of the inputs. Any other variable
-- that the node mentions reads as X.
abbrev pub AreRails : List VarDecl → List Shape → List Gate → ℕ → Planes → Type 0
AreRails vars shapes gates node rails =
    (inputs : List Bool) → length inputs ≡ count_inputs gates →
    shown (values inputs gates) rails.up rails.low ≡ value_at (read (only_chosen (chosen_by (widths_of vars) inputs))) shapes node
