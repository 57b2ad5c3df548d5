-- The values that are computed so far.
use Rattle.std.specs.Prelude.{◌≡◌, ℕ, ◌<◌, Bool, List, [], length, slice_index_or}
use Rattle.svex_shape.specs.declared.shape.Shape.{Shape}
use Rattle.svex_arena.specs.Marks.{IsMarked}
use Rattle.svex_shape.specs.Values.{Vector, Reading, value_at}

abbrev pub value_in : List Vector → ℕ → Vector
value_in done k = slice_index_or done k []

abbrev pub width_in : List Vector → ℕ → ℕ
width_in done k = length (value_in done k)

-- the list has the value of each marked node among the first n
pub record IsEvaluated (r : Reading) (shapes : List Shape) (marks : List Bool) (done : List Vector) (n : ℕ) : Type 0 where
  pub is : (k : ℕ) → k < n → IsMarked marks k → value_in done k ≡ value_at r shapes k
