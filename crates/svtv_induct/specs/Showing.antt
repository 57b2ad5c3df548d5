-- Words of the inner functions: vectors in place of nodes.
use Rattle.std.specs.Prelude.{◌≡◌, ◌<◌, ◌≤◌, ◌+◌, ℕ, List, [], length, map, take, slice_index_or}
use Rattle.std.specs.List.{range_with_len}
use Rattle.event_nets.specs.Tables.{store_of}
use Rattle.fourvec.specs.declared.Bit.TheVariants.{Unknown}
use Rattle.lhs_alias.specs.Lies.{LieIn}
use Rattle.lhs_alias.specs.Segs.{lhs_bits}
use Rattle.lhs_alias.specs.declared.segs.Seg.{Seg}
use Rattle.svex_shape.specs.Values.{Vector}
use Rattle.svtv_induct.specs.States.{bits_in, made_of}
use Rattle.svtv_induct.specs.declared.half.Half.{Half}
use Rattle.svtv_induct.specs.declared.half.Inducted.{Inducted}
use Rattle.svtv_induct.specs.declared.half.Inducted.TheVariants.{StepFails}

-- the bits that two vectors make
abbrev pub made_vector : Vector → Vector → Vector
made_vector up low = map (λ k. made_of (slice_index_or up k Unknown) (slice_index_or low k Unknown)) (range_with_len 0 (length up))

-- these segments lie in wires of such widths, and have 1 to 128 bits together
pub record AreSlices (widths : List ℕ) (segs : List Seg) : Type 0 where
  pub some : 0 < length segs
  pub most : length (lhs_bits segs) ≤ 128
  pub lie : LieIn widths segs

-- what the vectors of variables make of each of the first so many wires
pub record AreOwnValues (choice : List Vector) (before wires : ℕ) (own : List Vector) (count : ℕ) : Type 0 where
  pub as_many : length own ≡ count
  pub each : (n : ℕ) → n < count → slice_index_or own n [] ≡ made_vector (slice_index_or choice (before + n) []) (slice_index_or choice (before + wires + n) [])

-- the vectors of the first so many wires have the bits of their segments
pub record HaveValues (own : List Vector) (firsts : List (List Seg)) (values : List Vector) (count : ℕ) : Type 0 where
  pub as_many : length values ≡ count
  pub each : (n : ℕ) → n < count → slice_index_or values n [] ≡ bits_in (store_of own) (lhs_bits (slice_index_or firsts n []))

-- A failing step with the first vectors, and with the valuation that the others stand for.
abbrev pub IsShownStep : Half → List Vector → Inducted → Type 0
IsShownStep h found (StepFails choice state) = (choice ≡ take (length h.bound.vars) found)
    × ((own : List Vector) × AreOwnValues found (length h.bound.vars) (length h.fsm.flat.wires) own (length h.fsm.flat.wires) × HaveValues own h.firsts state.values (length h.fsm.flat.wires))
IsShownStep h found other = ⊥
