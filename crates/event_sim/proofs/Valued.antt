-- Lists of values of nodes.
use Rattle.std.proofs.Common.{◌≡◌, ℕ, ◌<◌, List, [], length, map, zero-add}
use Rattle.std.specs.List.{range_with_len}
use Rattle.std.proofs.lemmas.List.FromFn.{get_or-map-range_with_len}
use Rattle.svex_shape.specs.declared.shape.Shape.{Shape}
use Rattle.svex_shape.specs.Values.{Vector, Reading, value_at}
use Rattle.svex_arena.specs.Evaluated.{value_in}

-- the list has the values of the first n nodes
pub record HasValues (r : Reading) (shapes : List Shape) (done : List Vector) (n : ℕ) : Type 0 where
  pub is : (k : ℕ) → k < n → value_in done k ≡ value_at r shapes k

-- all values, as if each node were evaluated
abbrev pub ideal : Reading → List Shape → List Vector
ideal r shapes = map (value_at r shapes) (range_with_len 0 (length shapes))

pub ideal-has : (r : Reading) (shapes : List Shape) → HasValues r shapes (ideal r shapes) (length shapes)
ideal-has r shapes = record { is = λ k lt. get_or-map-range_with_len (value_at r shapes) 0 (length shapes) k k [] lt (zero-add k) }
