-- Runs of places, as they are found from the lowest place up.
use Rattle.std.specs.Prelude.{◌==◌, ◌&&◌, ℕ, ◌+◌, Bool, true, false, List, map, Option, None, Some, slice_index_or, if◌then◌else◌}
use Rattle.lhs_alias.specs.Segs.{bit}
use Rattle.lhs_alias.specs.Joined.{place_of, all_bits}
use Rattle.event_nets.specs.Nets.{lowest}

-- at a place its own first bit stands, to which something is given
abbrev pub net_test : List ℕ → List Bool → ℕ → Bool
net_test homes driven place = (slice_index_or homes place 0 == place) && slice_index_or driven place false

-- the lowest place of a run, by that of the place below
abbrev pub low_next : Bool → ℕ → Option ℕ → Option ℕ
low_next false place below = None
low_next true place None = Some place
low_next true place (Some low) = Some low

-- the lowest place of the run that goes up to a bit of a wire, whose lowest bit has the place start
abbrev pub low_in : (ℕ → Bool) → ℕ → ℕ → Option ℕ
low_in net start k = if net (start + k) then Some (start + lowest (λ j. net (start + j)) k) else None

-- the same for all bits of wires
abbrev pub lows_in : (ℕ → Bool) → List ℕ → List (Option ℕ)
lows_in net widths = map (λ b. low_in net (place_of widths (bit b.wire 0)) b.at) (all_bits widths)

abbrev pub is_at : Option ℕ → ℕ → Bool
is_at None place = false
is_at (Some low) place = low == place

-- a run begins at the place
abbrev pub begins : List (Option ℕ) → ℕ → Bool
begins lows place = is_at (slice_index_or lows place None) place
