-- What vectors of pairs say of variables and nodes.
use Rattle.std.specs.Prelude.{◌≡◌, ℕ, ◌<◌, Bool, List, [], ◌∷◌, length, map, take, drop, replicate, slice_index_or, ◌==◌, if◌then◌else◌}
use Rattle.std.specs.List.{All}
use Rattle.aig.specs.declared.gate.Gate.{Gate}
use Rattle.aig.specs.Graph.{Obeys}
use Rattle.fourvec.specs.declared.Bit.TheVariants.{Unknown}
use Rattle.fourvec.specs.Bits.{truth_bit}
use Rattle.svex_shape.specs.declared.shape.Shape.{Shape}
use Rattle.svex_shape.specs.declared.shape.VarName.{VarName}
use Rattle.svex_shape.specs.declared.shape.VarName.TheVariants.{Now, Prev, Stim, Chosen, Sampled}
use Rattle.svex_shape.specs.Shapes.{width_at}
use Rattle.svex_arena.specs.Marks.{IsMarked}
use Rattle.svex_shape.specs.Values.{Vector, Reading, Rows, read, value_at}
use Rattle.pair_words.specs.declared.pairs.Pair.{Pair}
use Rattle.pair_words.specs.Rails.{bits, IsWired}
use Rattle.pair_words.specs.Ways.{constant_pair}

-- the variables of a table alone have values
abbrev pub only_chosen : List Vector → Rows
only_chosen chosen = record { present = []; previous = []; stim = []; chosen = chosen; sampled = [] }

-- what variables read as where the nodes have these values
abbrev pub reading_at : (ℕ → Bool) → List (List Pair) → Reading
reading_at v vars = read (only_chosen (map (bits v) vars))

abbrev pub word_in : List (List Pair) → ℕ → List Pair
word_in done k = slice_index_or done k []

-- a vector where it has the width, and X where it has not
unfoldable pub word_fitted : ℕ → List Pair → List Pair
word_fitted width a = if length a == width then a else replicate width (constant_pair Unknown)

-- the vector of a variable at a width; X where it is absent or has another width
abbrev pub word_read : List (List Pair) → VarName → ℕ → List Pair
word_read vars (Chosen k) width = word_fitted width (word_in vars k)
word_read vars (Now k) width = replicate width (constant_pair Unknown)
word_read vars (Prev k) width = replicate width (constant_pair Unknown)
word_read vars (Stim k) width = replicate width (constant_pair Unknown)
word_read vars (Sampled k) width = replicate width (constant_pair Unknown)

-- a node has a vector with some bits
pub record IsReady (gates : List Gate) (done : List (List Pair)) (k : ℕ) : Type 0 where
  pub some : 0 < length (word_in done k)
  pub inside : All (IsWired gates) (word_in done k)

-- the list has the vector of each marked node that it reaches
pub record AreVectors (shapes : List Shape) (marks : List Bool) (vars : List (List Pair)) (gates : List Gate) (done : List (List Pair)) : Type 0 where
  pub long : (k : ℕ) → k < length done → IsMarked marks k → length (word_in done k) ≡ width_at shapes k
  pub inside : (k : ℕ) → k < length done → IsMarked marks k → All (IsWired gates) (word_in done k)
  pub is : (k : ℕ) → k < length done → IsMarked marks k → (v : ℕ → Bool) → Obeys v gates → bits v (word_in done k) ≡ value_at (reading_at v vars) shapes k

-- the vectors of 0 and 1 that inputs give to variables of these widths, by variable and then from the lowest bit on
unfoldable pub chosen_by : List ℕ → List Bool → List Vector
chosen_by [] inputs = []
chosen_by (width ∷ more) inputs = map truth_bit (take width inputs) ∷ chosen_by more (drop width inputs)
