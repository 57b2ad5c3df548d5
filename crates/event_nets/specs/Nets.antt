-- The nets of a flat design of which some wires are overridden: the maximal runs of first bits that are driven or overridden.
use Rattle.std.specs.Prelude.{◌&&◌, ℕ, zero, suc, Bool, List, [], ◌∷◌, ◌++◌, filter, Option, None, Some, if◌then◌else◌}
use Rattle.std.specs.List.{list_any}
use Rattle.sv_outside.specs.declared.text.Signal.{Signal}
use Rattle.lhs_alias.specs.declared.segs.WireBit.{WireBit}
use Rattle.lhs_alias.specs.Segs.{bit, lhs_bits}
use Rattle.lhs_alias.specs.Joined.{all_bits}
use Rattle.settling.specs.Settling.{first_bit, same_bit, is_one_class}
use Rattle.settling.specs.Events.{Net}
use Rattle.driver_resolve.specs.declared.driver.Driver.{Driver}
use Rattle.driver_resolve.specs.Drivers.{wire_bits, widths_of, has_wire}
use Rattle.flat_net.specs.declared.flat.Flat.{Flat}
use Rattle.flat_net.specs.Flats.{links_of}

-- the bits to which drivers give something
unfoldable pub target_bits : List Driver → List WireBit
target_bits [] = []
target_bits (d ∷ more) = lhs_bits d.target ++ target_bits more

-- the bits of the inputs of the top; the first of these wires has this number
unfoldable pub input_bits : ℕ → List Signal → List WireBit
input_bits n [] = []
input_bits n (s ∷ more) = (if s.input then wire_bits n s.width else []) ++ input_bits (suc n) more

-- the bits of the wires that are overridden, in the same way
unfoldable pub overridden_bits : ℕ → List Signal → List ℕ → List WireBit
overridden_bits n [] over = []
overridden_bits n (s ∷ more) over = (if has_wire over n then wire_bits n s.width else []) ++ overridden_bits (suc n) more over

-- something is given to the class of the bit
abbrev pub is_driven : Flat → List ℕ → WireBit → Bool
is_driven flat over b =
    list_any (λ c. is_one_class (links_of flat.joins) c b) (target_bits flat.drivers ++ input_bits 0 flat.wires ++ overridden_bits 0 flat.wires over)

-- a first bit that is driven or overridden
unfoldable pub is_net_bit : Flat → List ℕ → WireBit → Bool
is_net_bit flat over b = same_bit (first_bit (links_of flat.joins) b) b && is_driven flat over b

-- the lowest place from which on, up to a place, each passes a test
unfoldable pub lowest : (ℕ → Bool) → ℕ → ℕ
lowest p zero = zero
lowest p (suc k) = if p k then lowest p k else suc k

-- the lowest bit of the run of such first bits, in one wire, in which a bit lies
abbrev pub run_of : Flat → List ℕ → WireBit → WireBit
run_of flat over b = bit b.wire (lowest (λ k. is_net_bit flat over (bit b.wire k)) b.at)

-- A net is a maximal run of such first bits in one wire, named by its lowest bit: by wire and lowest bit.
abbrev pub nets_of : Flat → List ℕ → List WireBit
nets_of flat over = filter (λ b. is_net_bit flat over b && same_bit (run_of flat over b) b) (all_bits (widths_of flat.wires))

-- the bits of a net, and those that are joined to them
abbrev pub net_bits : Flat → List ℕ → WireBit → Net
net_bits flat over net b =
    let first = first_bit (links_of flat.joins) b in is_net_bit flat over first && same_bit (run_of flat over first) net

-- ---- how a bit's net is kept

-- the place of the lowest bit of the net in which a first bit lies
unfoldable pub low_of : (WireBit → ℕ) → Flat → List ℕ → WireBit → Option ℕ
low_of place flat over b = if is_net_bit flat over b then Some (place (run_of flat over b)) else None
