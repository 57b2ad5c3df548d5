-- The bits that constant selects name, by their places.
use Rattle.std.specs.Prelude.{◌≡◌, ℕ, Bool, true, ◌&&◌, ◌+◌, ◌-◌, ◌<◌, ◌≤◌, List, [], ◌∷◌, ◌++◌, length, take, map, replicate, Option, Some, None, Result, Ok, Err, ℤ, unsigned_abs}
use Rattle.std.specs.List.{All}
use Rattle.fourvec.specs.Spots.{reached}
use Rattle.lhs_alias.specs.declared.segs.WireBit.{WireBit}
use Rattle.lhs_alias.specs.Segs.{lhs_bits, AreSegs}
use Rattle.sv_meaning.specs.Targets.{Target, slots, slots_from, widths, bit_names, are_fixed}
use Rattle.sv_typed.specs.declared.tree.Pick.{Pick}
use Rattle.sv_typing.specs.Picks.{fixed_pick, picked_slots}
use Rattle.sv_typing.specs.Picks as picks
use Rattle.sv_targets.specs.declared.places.Spotted.{Spotted}
use Rattle.sv_targets.specs.declared.places.Spotted.TheVariants.{Moving, At, Far}
use Rattle.sv_targets.specs.declared.targets.TypedTarget.{TypedTarget}
use Rattle.sv_targets.specs.declared.parts.Part.{Part}
use Rattle.sv_targets.specs.declared.parts.Target as parts
use Rattle.sv_outside.specs.declared.refusal.TextErr.{TextErr}
use Rattle.sv_meaning.specs.Faults.{Faults}
use Rattle.sv_typing.specs.Judging.{IsCause}

-- ---- places

abbrev pub IsSpotted : Option ℤ → Spotted → Type 0
IsSpotted o Moving = o ≡ None
IsSpotted o (At r) = o ≡ Some (reached r.below r.far)
IsSpotted o Far = (z : ℤ) × (o ≡ Some z) × (128 ≤ unsigned_abs z)

-- ---- slots

abbrev pub Slots : Type 0
Slots = List (Option WireBit)

abbrev pub IsNear : Option WireBit → Type 0
IsNear None = Unit {0}
IsNear (Some b) = b.at < 128

-- where a pick leads from slots, or that it names all of them
pub record IsPicked (p : Pick) (all : Slots) (part : Slots) : Type 0 where
  pub place : ℤ
  pub at : fixed_pick p ≡ Some place
  pub is : part ≡ slots_from all place p.width
  pub near : All IsNear part
  pub most : length part ≤ 128

abbrev pub Picked : Pick → Slots → Option Slots → Type 0
Picked p all None = fixed_pick p ≡ None
Picked p all (Some part) = IsPicked p all part

-- the slots of one target
abbrev pub target_slots : TypedTarget → Slots
target_slots x = picked_slots x.picks (bit_names x.wire 0 x.wire_width)

-- the slots of targets, of which the first is the most significant
unfoldable pub slots_of : List TypedTarget → Slots
slots_of [] = []
slots_of (x ∷ more) = slots_of more ++ target_slots x

-- each index is constant and known
unfoldable pub all_fixed : List TypedTarget → Bool
all_fixed [] = true
all_fixed (x ∷ more) = picks.are_fixed x.picks && all_fixed more

-- ---- parts

-- The slots of parts from a place on, none between them.
unfoldable pub spread : ℕ → List Part → Slots
spread at [] = []
spread at (p ∷ more) = replicate (p.lo - at) None ++ map Some (lhs_bits p.to) ++ spread (p.lo + length (lhs_bits p.to)) more

-- Each part begins where the one before it ends, or above that.
unfoldable pub Ascend : ℕ → List Part → Type 0
Ascend at [] = Unit {0}
Ascend at (p ∷ more) = (at ≤ p.lo) × Ascend (p.lo + length (lhs_bits p.to)) more

-- The parts have exactly the bits that slots have, each at its place, and each part has some.
pub record AreParts (all : Slots) (parts : List Part) : Type 0 where
  pub gap : ℕ
  pub is : all ≡ spread 0 parts ++ replicate gap None
  pub ascend : Ascend 0 parts
  pub segs : All (λ p. AreSegs p.to) parts
  pub some : All (λ p. 1 ≤ length (lhs_bits p.to)) parts

-- where parts end
unfoldable pub end_of : ℕ → List Part → ℕ
end_of at [] = at
end_of at (p ∷ more) = end_of (p.lo + length (lhs_bits p.to)) more

-- The slots before a place are those of parts, a gap, and a run of bits.
pub record Runs (all : Slots) (at : ℕ) (parts : List Part) (run : List WireBit) : Type 0 where
  pub gap : ℕ
  pub is : take at all ≡ spread 0 parts ++ replicate gap None ++ map Some run
  pub place : end_of 0 parts + gap + length run ≡ at
  pub ascend : Ascend 0 parts
  pub segs : All (λ p. AreSegs p.to) parts
  pub some : All (λ p. 1 ≤ length (lhs_bits p.to)) parts

-- A target with its width, 1 to 128 bits, its bits that are there, and whether its indices are constant and known, against which nothing stands
pub record IsLowered (f : Faults) (ts : List Target) (x : parts.Target) : Type 0 where
  pub clear : f ≡ []
  pub width : widths ts ≡ x.width
  pub some : 1 ≤ x.width
  pub most : x.width ≤ 128
  pub parts : AreParts (slots ts) x.parts
  pub fixed : are_fixed ts ≡ x.fixed

abbrev pub JudgesParts : Faults → List Target → Result parts.Target TextErr → Type 0
JudgesParts f ts (Ok x) = IsLowered f ts x
JudgesParts f ts (Err e) = IsCause f e
