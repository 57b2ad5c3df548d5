-- What is kept of a flat design, by the places of bits in the row of all bits.
use Rattle.std.specs.Prelude.{◌≡◌, ℕ, ◌<◌, List, [], length, map, ◌++◌, Option, slice_index_or}
use Rattle.fourvec.specs.declared.Bit.TheVariants.{Unknown}
use Rattle.lhs_alias.specs.declared.segs.WireBit.{WireBit}
use Rattle.lhs_alias.specs.Joined.{all_bits, starts_of, place_of}
use Rattle.settling.specs.Settling.{Store, Link, first_bit}
use Rattle.svex_shape.specs.Values.{Vector}
use Rattle.driver_resolve.specs.Drivers.{widths_of}
use Rattle.flat_net.specs.declared.flat.Flat.{Flat}
use Rattle.flat_net.specs.Flats.{links_of}
use Rattle.event_nets.specs.declared.gift.Gift.{Gift}
use Rattle.event_nets.specs.declared.tables.Tables.{Tables}
use Rattle.event_nets.specs.Gifts.{driver_gifts, stimulus_gifts, overriding_gifts, left}
use Rattle.event_nets.specs.Nets.{nets_of, low_of}
use Rattle.event_nets.specs.Needs.{gift_rows, given_to}

-- ---- valuations

-- the bits of vectors, one for each wire; X outside of the wires
abbrev pub store_of : List Vector → Store
store_of rows n k = slice_index_or (slice_index_or rows n []) k Unknown

-- a vector for each wire, of its width
abbrev pub IsValuation : List ℕ → List Vector → Type 0
IsValuation widths rows = map (λ row. length row) rows ≡ widths

-- ---- tables

-- the place of the first bit of a bit's class
abbrev pub home_of : List Link → List ℕ → WireBit → ℕ
home_of links widths b = place_of widths (first_bit links b)

-- the place of the first bit of each bit's class
abbrev pub homes_of : Flat → List ℕ
homes_of flat = map (home_of (links_of flat.joins) (widths_of flat.wires)) (all_bits (widths_of flat.wires))

-- what drivers and stimuli give to classes, in order
abbrev pub own_gifts : Flat → List Gift
own_gifts flat =
    driver_gifts (home_of (links_of flat.joins) (widths_of flat.wires)) flat.drivers
    ++ stimulus_gifts (home_of (links_of flat.joins) (widths_of flat.wires)) 0 flat.wires

-- what is given to classes where wires are overridden
abbrev pub gifts_of : Flat → List ℕ → List Gift
gifts_of flat over = left (overriding_gifts (home_of (links_of flat.joins) (widths_of flat.wires)) 0 flat.wires over) (own_gifts flat)

-- for each bit that lies in a net the place of the net's lowest bit
abbrev pub lows_of : Flat → List ℕ → List (Option ℕ)
lows_of flat over = map (low_of (place_of (widths_of flat.wires)) flat over) (all_bits (widths_of flat.wires))

-- what is kept of the flat design where these wires are overridden
pub record AreTables (flat : Flat) (over : List ℕ) (tables : Tables) : Type 0 where
  pub starts : tables.starts.items ≡ starts_of (widths_of flat.wires)
  pub homes : tables.homes.items ≡ homes_of flat
  pub gifts : tables.gifts.items ≡ gifts_of flat over
  pub lows : tables.lows.items ≡ lows_of flat over
  pub nets : tables.nets.items ≡ map (place_of (widths_of flat.wires)) (nets_of flat over)
  pub given_each : length tables.given.items ≡ length (all_bits (widths_of flat.wires))
  pub given : (low : ℕ) → low < length (all_bits (widths_of flat.wires)) → slice_index_or (gift_rows tables.given.items) low [] ≡ given_to tables.lows.items tables.gifts.items low
