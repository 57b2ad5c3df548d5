-- Which segments equations and free segments of a flat design have, and which wires an equation's value mentions.
use Rattle.std.specs.Prelude.{◌≡◌, ◌&&◌, ℕ, Bool, not, false, List, IsTrue, ◌↔◌}
use Rattle.std.specs.List.{Contains, list_any}
use Rattle.lhs_alias.specs.declared.segs.Seg.{Seg}
use Rattle.lhs_alias.specs.declared.segs.WireBit.{WireBit}
use Rattle.lhs_alias.specs.Segs.{bit, lhs_bits}
use Rattle.lhs_alias.specs.Lies.{IsBitOf}
use Rattle.fourvec.specs.declared.Bit.{Bit}
use Rattle.settling.specs.Settling.{first_bit, same_bit, is_one_class, given_to}
use Rattle.settling.specs.Events.{resolved}
use Rattle.svex_arena.specs.Arenas.{Extends}
use Rattle.driver_resolve.specs.declared.driver.Driver.{Driver}
use Rattle.driver_resolve.specs.Drivers.{Phase, widths_of}
use Rattle.flat_net.specs.declared.flat.Flat.{Flat}
use Rattle.flat_net.specs.Flats.{links_of, given}
use Rattle.event_nets.specs.Nets.{overridden_bits, is_driven, is_net_bit, lowest}
use Rattle.net_equations.specs.Equations.{has_bit}
use Rattle.net_equations.specs.Groups.{Mentions}

-- the same wires, drivers and joins over an arena that has grown
pub record IsGrown (old now : Flat) : Type 0 where
  pub wires : now.wires ≡ old.wires
  pub drivers : now.drivers ≡ old.drivers
  pub joins : now.joins ≡ old.joins
  pub arena : Extends old.arena now.arena

abbrev pub lowest_bit : Seg → WireBit
lowest_bit seg = bit seg.wire seg.lo

-- the lowest bit of the run, of bits in one wire that pass a test, in which a bit lies
abbrev pub run_by : (WireBit → Bool) → WireBit → WireBit
run_by test b = bit b.wire (lowest (λ k. test (bit b.wire k)) b.at)

-- of the bits of wires the segment has exactly those of its run
abbrev pub IsRunOf : List ℕ → (WireBit → Bool) → Seg → Type 0
IsRunOf widths test seg = (b : WireBit) → IsBitOf widths b → IsTrue (has_bit seg b) ↔ (IsTrue (test b) × (run_by test b ≡ lowest_bit seg))

-- the segment is a net: a maximal run of first bits that are driven or overridden
abbrev pub IsNet : Flat → List ℕ → Seg → Type 0
IsNet flat over seg = IsRunOf (widths_of flat.wires) (is_net_bit flat over) seg

-- a first bit that is neither driven nor overridden
unfoldable pub is_free_bit : Flat → List ℕ → WireBit → Bool
is_free_bit flat over b = same_bit (first_bit (links_of flat.joins) b) b && not (is_driven flat over b)

-- the segment is a maximal run of these
abbrev pub IsFree : Flat → List ℕ → Seg → Type 0
IsFree flat over seg = IsRunOf (widths_of flat.wires) (is_free_bit flat over) seg

-- the resolution of what is given in a phase to the class of a bit
abbrev pub resolution_at : Flat → List ℕ → Phase → WireBit → Bit
resolution_at flat over p b = resolved (given_to (links_of flat.joins) b (given flat over p))

-- A driver whose value mentions the present value of a wire, of a bit that is joined to one of the segment, and to none of an
-- overridden wire.
pub record IsReadFor (flat : Flat) (over : List ℕ) (seg : Seg) (wire : ℕ) : Type 0 where
  pub driver : Driver
  pub stands : Contains flat.drivers driver
  pub mentions : Mentions flat.arena driver.value wire
  pub target : WireBit
  pub drives : Contains (lhs_bits driver.target) target
  pub joined : IsTrue (has_bit seg (first_bit (links_of flat.joins) target))
  pub kept : list_any (λ c. is_one_class (links_of flat.joins) c target) (overridden_bits 0 flat.wires over) ≡ false
