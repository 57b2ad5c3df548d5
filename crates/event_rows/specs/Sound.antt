-- Words of the test whether a flat design is well formed.
use Rattle.std.specs.Prelude.{◌≡◌, ℕ, ◌<◌, Bool, false, List, All, IsTrue, slice_index_or}
use Rattle.svex_shape.specs.declared.shape.Shape.{Shape}
use Rattle.svex_shape.specs.Values.{each_variable}
use Rattle.driver_resolve.specs.Drivers.{is_of_wires}
use Rattle.flat_net.specs.Flats.{is_path_byte}

abbrev pub IsPrinted : List ℕ → Type 0
IsPrinted path = All (λ b. IsTrue (is_path_byte b)) path

-- for each of the first n nodes whether it names present and previous values of wires alone
pub record AreNamed (widths : List ℕ) (shapes : List Shape) (done : List Bool) (n : ℕ) : Type 0 where
  pub is : (k : ℕ) → k < n → slice_index_or done k false ≡ each_variable (is_of_wires widths) shapes k
