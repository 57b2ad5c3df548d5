-- What is given to classes of joined bits, one bit after another.
use Rattle.std.specs.Prelude.{◌≡◌, ◌==◌, not, Bool, ℕ, suc, ◌<◌, ◌≤◌, List, [], ◌∷◌, ◌++◌, length, map, filter, Option, None, Some, slice_index_or, if◌then◌else◌}
use Rattle.std.specs.List.{list_any}
use Rattle.fourvec.specs.declared.Bit.{Bit}
use Rattle.fourvec.specs.declared.Bit.TheVariants.{Unknown, Floating}
use Rattle.fourvec.specs.Bits.{res_bit, over}
use Rattle.sv_outside.specs.declared.text.Signal.{Signal}
use Rattle.lhs_alias.specs.declared.segs.WireBit.{WireBit}
use Rattle.lhs_alias.specs.Segs.{lhs_bits}
use Rattle.lhs_alias.specs.Lies.{LieIn}
use Rattle.svex_shape.specs.Values.{Vector}
use Rattle.driver_resolve.specs.declared.driver.Driver.{Driver}
use Rattle.driver_resolve.specs.Drivers.{wire_bits, has_wire}
use Rattle.event_nets.specs.declared.gift.Gift.{Gift}
use Rattle.event_nets.specs.declared.gift.Source.{Source}
use Rattle.event_nets.specs.declared.gift.Source.TheVariants.{Value, Stimulus}

-- ---- what a class is told

-- what two drivers give together, where something was given before
abbrev pub told_with : Option Bit → Bit → Option Bit
told_with None y = Some y
told_with (Some x) y = Some (res_bit x y)

-- the resolution of what is given, where anything is
abbrev pub told_of : List Bit → Option Bit
told_of [] = None
told_of (y ∷ more) = Some (over res_bit Floating (y ∷ more))

-- X where nothing is given
abbrev pub told_bit : Option Bit → Bit
told_bit None = Unknown
told_bit (Some b) = b

-- ---- gifts

-- the vector of a source
abbrev pub source_in : List Vector → List Vector → Source → Vector
source_in values stim (Value k) = slice_index_or values k []
source_in values stim (Stimulus n) = slice_index_or stim n []

abbrev pub gift_bit : List Vector → List Vector → Gift → Bit
gift_bit values stim g = slice_index_or (source_in values stim g.from) g.at Unknown

-- the source is there, has a bit at the place, and the class has a place below a number
pub record IsGift (values stim : List Vector) (places : ℕ) (g : Gift) : Type 0 where
  pub class : g.to < places
  pub source : g.at < length (source_in values stim g.from)

-- what gifts give to the class at a place
abbrev pub given_at : List Vector → List Vector → ℕ → List Gift → List Bit
given_at values stim place gifts = map (λ g. gift_bit values stim g) (filter (λ g. g.to == place) gifts)

-- each class is told what gifts give to it
abbrev pub IsTold : List Vector → List Vector → List Gift → List (Option Bit) → Type 0
IsTold values stim gifts told = (place : ℕ) → place < length told → slice_index_or told place None ≡ told_of (given_at values stim place gifts)

-- the bits of a vector, from a place on, for classes whose first bits have these places
unfoldable pub gifts_at : Source → ℕ → List ℕ → List Gift
gifts_at from at [] = []
gifts_at from at (to ∷ more) = (record { to = to; from = from; at = at }) ∷ gifts_at from (suc at) more

-- the same, for the classes of these bits
abbrev pub gifts_to : (WireBit → ℕ) → Source → ℕ → List WireBit → List Gift
gifts_to home from at bits = gifts_at from at (map home bits)

unfoldable pub driver_gifts : (WireBit → ℕ) → List Driver → List Gift
driver_gifts home [] = []
driver_gifts home (d ∷ more) = gifts_to home (Value d.value) 0 (lhs_bits d.target) ++ driver_gifts home more

-- those of the inputs of the top, where the first of these wires has this number
unfoldable pub stimulus_gifts : (WireBit → ℕ) → ℕ → List Signal → List Gift
stimulus_gifts home n [] = []
stimulus_gifts home n (s ∷ more) =
    (if s.input then gifts_to home (Stimulus n) 0 (wire_bits n s.width) else []) ++ stimulus_gifts home (suc n) more

-- those of the wires that are overridden, in the same way
unfoldable pub overriding_gifts : (WireBit → ℕ) → ℕ → List Signal → List ℕ → List Gift
overriding_gifts home n [] over = []
overriding_gifts home n (s ∷ more) over =
    (if has_wire over n then gifts_to home (Stimulus n) 0 (wire_bits n s.width) else []) ++ overriding_gifts home (suc n) more over

-- the class at a place gets one of these
abbrev pub has_gift : List Gift → ℕ → Bool
has_gift gifts place = list_any (λ g. g.to == place) gifts

-- what is left where some classes are overridden: gifts to other classes, and what overrides
unfoldable pub left : List Gift → List Gift → List Gift
left over gifts = filter (λ g. not (has_gift over g.to)) gifts ++ over

-- the driver's target lies in the wires, and has 128 bits at most
pub record HasTarget (widths : List ℕ) (d : Driver) : Type 0 where
  pub lies : LieIn widths d.target
  pub narrow : length (lhs_bits d.target) ≤ 128
