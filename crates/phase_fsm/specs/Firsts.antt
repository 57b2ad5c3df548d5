-- The first bits of wires.
use Rattle.std.specs.Prelude.{◌≡◌, ◌<◌, ℕ, List, [], length, map, slice_index_or}
use Rattle.driver_resolve.specs.Drivers.{widths_of, wire_bits}
use Rattle.flat_net.specs.declared.flat.Flat.{Flat}
use Rattle.flat_net.specs.Flats.{links_of}
use Rattle.lhs_alias.specs.Lies.{LieIn}
use Rattle.lhs_alias.specs.Segs.{lhs_bits}
use Rattle.lhs_alias.specs.declared.segs.Seg.{Seg}
use Rattle.settling.specs.Settling.{first_bit}

-- For each of the first so many wires of a flat design segments of wires, which have of each of its bits, in their order, the first bit of the
-- class of joined bits that it is in (IEEE 1800-2017, 23.3.3).
pub record HaveFirsts (flat : Flat) (firsts : List (List Seg)) (count : ℕ) : Type 0 where
  pub as_many : length firsts ≡ count
  pub bits : (n : ℕ) → n < count → lhs_bits (slice_index_or firsts n []) ≡ map (first_bit (links_of flat.joins)) (wire_bits n (slice_index_or (widths_of flat.wires) n 0))
  pub lie : (n : ℕ) → n < count → LieIn (widths_of flat.wires) (slice_index_or firsts n [])
