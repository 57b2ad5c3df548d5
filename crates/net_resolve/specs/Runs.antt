-- Runs of bits by the places of their lowest bits, and their segments.
use Rattle.std.specs.Prelude.{◌≡◌, ◌⊎◌, ℕ, ◌+◌, ◌<◌, ◌≤◌, Bool, true, false, List, length, filter, Option, None, Some, slice_index, slice_index_or}
use Rattle.std.specs.List.{range_with_len}
use Rattle.lhs_alias.specs.declared.segs.Seg.{Seg}
use Rattle.lhs_alias.specs.declared.segs.WireBit.{WireBit}
use Rattle.lhs_alias.specs.Segs.{bit}
use Rattle.event_nets.specs.Runs.{is_at, begins, net_test, lows_in}
use Rattle.net_equations.specs.Equations.{seg_at}

-- A run has so many bits from its lowest on: each is in it, and the next one is not. A wire has 128 bits at most.
pub record IsRunWidth (lows : List (Option ℕ)) (low width : ℕ) : Type 0 where
  pub most : width ≤ 128
  pub inside : (j : ℕ) → j < width → is_at (slice_index_or lows (low + j) None) low ≡ true
  pub ends : (width ≡ 128) ⊎ (is_at (slice_index_or lows (low + width) None) low ≡ false)

-- the segment begins with the bit at the place, and has the bits of its run
pub record IsRunSeg (bits : List WireBit) (lows : List (Option ℕ)) (low : ℕ) (seg : Seg) : Type 0 where
  pub lowest : bit seg.wire seg.lo ≡ slice_index_or bits low (bit 0 0)
  pub width : IsRunWidth lows low seg.width

-- a segment for each of the runs that begin at these places
pub record AreRunSegs (bits : List WireBit) (lows : List (Option ℕ)) (runs : List ℕ) (segs : List Seg) : Type 0 where
  pub as_many : length segs ≡ length runs
  pub each : (i : ℕ) → i < length runs → IsRunSeg bits lows (slice_index runs i) (seg_at segs i)

-- where runs begin
abbrev pub begins_in : List (Option ℕ) → List ℕ
begins_in lows = filter (begins lows) (range_with_len 0 (length lows))

abbrev pub is_nothing : Option ℕ → Bool
is_nothing None = true
is_nothing (Some low) = false

-- the bit at the place lies in no net
abbrev pub none_at : List (Option ℕ) → ℕ → Bool
none_at lows place = is_nothing (slice_index_or lows place None)

-- a segment for each run of first bits that lie in no net
pub record AreFreeSegs (bits : List WireBit) (widths homes : List ℕ) (lows : List (Option ℕ)) (segs : List Seg) : Type 0 where
  pub marks : List Bool
  pub marks_are : (place : ℕ) → place < length lows → slice_index_or marks place false ≡ none_at lows place
  pub segs_are : AreRunSegs bits (lows_in (net_test homes marks) widths) (begins_in (lows_in (net_test homes marks) widths)) segs
