-- Equations and free segments by the tables of a flat design.
use Rattle.std.specs.Prelude.{◌≡◌, ◌==◌, ℕ, ◌<◌, List, length, map, filter}
use Rattle.lhs_alias.specs.declared.segs.Seg.{Seg}
use Rattle.lhs_alias.specs.Joined.{all_bits, place_of}
use Rattle.svex_shape.specs.declared.shape.Shape.{Shape}
use Rattle.driver_resolve.specs.declared.driver.NetEq.{NetEq}
use Rattle.driver_resolve.specs.declared.driver.Resolved.{Resolved}
use Rattle.driver_resolve.specs.Drivers.{widths_of}
use Rattle.flat_net.specs.declared.flat.Flat.{Flat}
use Rattle.event_nets.specs.declared.gift.Gift.{Gift}
use Rattle.event_nets.specs.Nets.{nets_of}
use Rattle.event_nets.specs.Tables.{homes_of, gifts_of, lows_of}
use Rattle.net_resolve.specs.Pieces.{row_at, AreMade}
use Rattle.net_resolve.specs.Runs.{AreRunSegs, AreFreeSegs}

-- the rows have what is given to classes, by the places of their first bits
abbrev pub AreRows : Flat → List ℕ → List (List Gift) → Type 0
AreRows flat over rows = (k : ℕ) → k < length (all_bits (widths_of flat.wires)) → row_at rows k ≡ filter (λ g. g.to == k) (gifts_of flat over)

-- the places of the lowest bits of nets
abbrev pub net_places_of : Flat → List ℕ → List ℕ
net_places_of flat over = map (place_of (widths_of flat.wires)) (nets_of flat over)

-- an equation for each net, of what is given to its classes
pub record AreEquations (flat : Flat) (over : List ℕ) (new : List Shape) (eqs : List NetEq) : Type 0 where
  pub rows : List (List Gift)
  pub rows_are : AreRows flat over rows
  pub segs : AreRunSegs (all_bits (widths_of flat.wires)) (lows_of flat over) (net_places_of flat over) (map (λ e. e.seg) eqs)
  pub made : AreMade (widths_of flat.wires) flat.arena rows (net_places_of flat over) (map (λ e. e.seg) eqs) new (map (λ e. e.value) eqs)

abbrev pub HasFree : Flat → List ℕ → List Seg → Type 0
HasFree flat over free = AreFreeSegs (all_bits (widths_of flat.wires)) (widths_of flat.wires) (homes_of flat) (lows_of flat over) free

-- both, as they are answered
pub record IsLaid (flat : Flat) (over : List ℕ) (new : List Shape) (set : Resolved) : Type 0 where
  pub eqs : AreEquations flat over new set.eqs
  pub free : HasFree flat over set.free
