-- The nets of small designs, worked out by hand.
use Rattle.std.proofs.Common.{◌≡◌, ℕ, Bool, true, false, List, [], ◌∷◌, refl}
use Rattle.fourvec.specs.declared.Bit.TheVariants.{Zero, One}
use Rattle.sv_outside.specs.declared.text.Signal.{Signal}
use Rattle.lhs_alias.specs.declared.segs.Seg.{Seg}
use Rattle.lhs_alias.specs.Segs.{bit, seg_bits}
use Rattle.lhs_alias.specs.Joined.{all_bits, bits_from, place_of}
use Rattle.settling.specs.Settling.{first_bit}
use Rattle.svex_shape.specs.declared.shape.VarName.TheVariants.{Now, Prev}
use Rattle.svex_shape.specs.declared.shape.Un.TheVariants.{Not}
use Rattle.svex_shape.specs.declared.shape.Bin.TheVariants.{And}
use Rattle.svex_shape.specs.declared.shape.Shape.TheVariants.{Const, Var, Unary, Binary, Pick}
use Rattle.driver_resolve.specs.declared.driver.Driver.{Driver}
use Rattle.flat_net.specs.declared.flat.Flat.{Flat}
use Rattle.flat_net.specs.declared.flat.Join.{Join}
use Rattle.flat_net.specs.Flats.{links_of}
use Rattle.event_nets.specs.declared.gift.Gift.{Gift}
use Rattle.event_nets.specs.declared.gift.Source.{Source}
use Rattle.event_nets.specs.declared.gift.Source.TheVariants.{Value, Stimulus}
use Rattle.event_nets.specs.Gifts.{gifts_at, driver_gifts, stimulus_gifts, overriding_gifts, left}
use Rattle.event_nets.specs.Tables.{gifts_of}
use Rattle.event_nets.specs.Nets.{target_bits, input_bits, overridden_bits, is_net_bit, lowest, nets_of, net_bits}

abbrev wire : Bool → ℕ → Signal
wire input width = record { path = []; width = width; input = input }

abbrev part : ℕ → ℕ → ℕ → List Seg
part n lo width = (let s : Seg = record { wire = n; lo = lo; width = width } in s) ∷ []

abbrev drives : List Seg → ℕ → Driver
drives target value = record { target = target; value = value }

-- a register that takes its inverse at each rising edge: the clock's net and the register's
abbrev register : Flat
register = record {
  arena = Var (Now 0) 1 ∷ Var (Prev 0) 1 ∷ Unary Not 1 ∷ Binary And 0 2 ∷ Var (Prev 1) 1 ∷ Unary Not 4 ∷ Pick 3 5 4 ∷ [];
  wires = wire true 1 ∷ wire false 1 ∷ [];
  drivers = drives (part 1 0 1) 6 ∷ [];
  joins = [];
}

register-nets : nets_of register [] ≡ bit 0 0 ∷ bit 1 0 ∷ []
unfolding target_bits input_bits overridden_bits is_net_bit lowest links_of all_bits bits_from seg_bits first_bit
register-nets = refl

-- a wire and a port's wire that is joined to it, each with a driver: one net, which the port's bit belongs to
abbrev joined : Flat
joined = record {
  arena = Const (Zero ∷ []) ∷ Const (One ∷ []) ∷ [];
  wires = wire false 1 ∷ wire false 1 ∷ [];
  drivers = drives (part 0 0 1) 0 ∷ drives (part 1 0 1) 1 ∷ [];
  joins = (let j : Join = record { child = part 1 0 1; parent = part 0 0 1 } in j) ∷ [];
}

joined-nets : nets_of joined [] ≡ bit 0 0 ∷ []
unfolding target_bits input_bits overridden_bits is_net_bit lowest links_of all_bits bits_from seg_bits first_bit
joined-nets = refl

joined-port : net_bits joined [] (bit 0 0) (bit 1 0) ≡ true
unfolding target_bits input_bits overridden_bits is_net_bit lowest links_of all_bits bits_from seg_bits first_bit
joined-port = refl

-- four bits of which the second is driven by nothing: the runs are the lowest bit, and the two highest
abbrev split : Flat
split = record {
  arena = Const (Zero ∷ []) ∷ Const (One ∷ One ∷ []) ∷ [];
  wires = wire false 4 ∷ [];
  drivers = drives (part 0 0 1) 0 ∷ drives (part 0 2 2) 1 ∷ [];
  joins = [];
}

split-nets : nets_of split [] ≡ bit 0 0 ∷ bit 0 2 ∷ []
unfolding target_bits input_bits overridden_bits is_net_bit lowest links_of all_bits bits_from seg_bits first_bit
split-nets = refl

split-high : net_bits split [] (bit 0 2) (bit 0 3) ≡ true
unfolding target_bits input_bits overridden_bits is_net_bit lowest links_of all_bits bits_from seg_bits first_bit
split-high = refl

split-open : net_bits split [] (bit 0 0) (bit 0 1) ≡ false
unfolding target_bits input_bits overridden_bits is_net_bit lowest links_of all_bits bits_from seg_bits first_bit
split-open = refl

-- ---- gifts where a class is overridden

abbrev gift : ℕ → Source → ℕ → Gift
gift to from at = record { to = to; from = from; at = at }

-- of three classes the second is overridden, by the first bit of wire 4: what a node and an input give to it is left out
left-row : left (gift 1 (Stimulus 4) 0 ∷ []) (gift 0 (Value 7) 0 ∷ gift 1 (Value 7) 1 ∷ gift 1 (Stimulus 2) 0 ∷ gift 2 (Stimulus 2) 1 ∷ [])
    ≡ gift 0 (Value 7) 0 ∷ gift 2 (Stimulus 2) 1 ∷ gift 1 (Stimulus 4) 0 ∷ []
unfolding left
left-row = refl

-- of the joined wires the upper one is overridden: the net's one gift is what it is set to, and no driver of the net counts
joined-gifts : gifts_of joined (0 ∷ []) ≡ gift 0 (Stimulus 0) 0 ∷ []
unfolding left overriding_gifts driver_gifts stimulus_gifts gifts_at links_of first_bit place_of seg_bits
joined-gifts = refl

-- the open bit of the split wire is overridden with its wire: one run of four bits, each with one gift
split-overridden : nets_of split (0 ∷ []) ≡ bit 0 0 ∷ []
unfolding target_bits input_bits overridden_bits is_net_bit lowest links_of all_bits bits_from seg_bits first_bit
split-overridden = refl

-- a number past the wires overrides nothing
split-past : nets_of split (7 ∷ []) ≡ bit 0 0 ∷ bit 0 2 ∷ []
unfolding target_bits input_bits overridden_bits is_net_bit lowest links_of all_bits bits_from seg_bits first_bit
split-past = refl
