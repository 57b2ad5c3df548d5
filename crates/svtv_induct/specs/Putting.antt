-- Words of the inner functions: the nodes of signals in place of samples.
use Rattle.std.specs.Prelude.{◌≡◌, ◌<◌, ℕ, List, [], length, map, Option, Some, slice_index}
use Rattle.svex_arena.specs.Substs.{IsReplaced, Replacements}
use Rattle.svex_shape.specs.declared.shape.Shape.{Shape}
use Rattle.svtv_table.specs.declared.bound.Sample.{Sample}
use Rattle.svtv_unroll.specs.Rows.{node_in, sample_at}

-- the wire of each sample has a node in a row
abbrev pub ArePresent : List Sample → List (Option ℕ) → Type 0
ArePresent samples row = (k : ℕ) → k < length samples → ((sample_at samples k).wire < length row) × ((m : ℕ) × (node_in row (sample_at samples k).wire ≡ Some m))

-- these are the nodes of the first so many
pub record AreSignals (samples : List Sample) (row : List (Option ℕ)) (nodes : List ℕ) (count : ℕ) : Type 0 where
  pub as_many : length nodes ≡ count
  pub at : (k : ℕ) → k < count → node_in row (sample_at samples k).wire ≡ Some (slice_index nodes k)

-- nodes in place of samples, by their numbers
abbrev pub by_samples : List ℕ → Replacements
by_samples nodes = record { present = []; previous = []; stim = []; chosen = []; sampled = map Some nodes }

-- as many nodes, which are claims with the nodes of the samples' wires in place of samples
pub record AreHypotheses (samples : List Sample) (row : List (Option ℕ)) (old : List Shape) (claims : List ℕ) (new : List Shape) (hyps : List ℕ) : Type 0 where
  pub nodes : List ℕ
  pub signals : AreSignals samples row nodes (length samples)
  pub as_many : length hyps ≡ length claims
  pub put : IsReplaced old (by_samples nodes) new claims hyps
