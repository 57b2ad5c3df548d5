-- The wires that a block writes, as names declare them, and which of their bits it writes.
use Rattle.std.specs.Prelude.{◌≡◌, ℕ, ◌+◌, ◌*◌, ◌<◌, ◌≤◌, false, List, [], ◌∷◌, length, map, reverse, slice_index_or, Option, Some, None, is_some, true}
use Rattle.std.specs.List.{Contains}
use Rattle.lhs_alias.specs.declared.segs.WireBit.{WireBit}
use Rattle.lhs_alias.specs.Segs.{bit}
use Rattle.svex_arena.specs.Substs.{entry_at}
use Rattle.sv_meaning.specs.Layouts.{NamedSignal}
use Rattle.sv_meaning.specs.Blocks.{has_bit, distinct}
use Rattle.sv_stores.specs.declared.scene.Manner.{Manner}
use Rattle.sv_stores.specs.declared.scene.Scene.{Scene}
use Rattle.sv_blocks.specs.declared.wires.Wire.{Wire}
use Rattle.sv_blocks.specs.declared.wires.Places.{Places}
use Rattle.sv_blocks.specs.declared.bits.Marked.{Marked}
use Rattle.sv_actions.specs.Texts.{wire_signal}
use Rattle.sv_stores.specs.Scenes.{place_in, width_in, is_written, IsScene}

-- ---- wires

abbrev pub wire_is : Wire → NamedSignal
wire_is x = wire_signal x.number x.width

-- one wire, or none
abbrev pub maybe_wire : Option Wire → List NamedSignal
maybe_wire None = []
maybe_wire (Some x) = wire_is x ∷ []

abbrev pub wires_are : List Wire → List NamedSignal
wires_are all = map wire_is all

-- 1 to 128 bits
pub record HasBits (x : Wire) : Type 0 where
  pub some : 1 ≤ x.width
  pub most : x.width ≤ 128

-- one of these signals, of 1 to 128 bits
pub record IsAmong (named : List NamedSignal) (x : Wire) : Type 0 where
  pub there : Contains named (wire_is x)
  pub bits : HasBits x

-- each place is that of one of these signals
pub record ArePlaces (named : List NamedSignal) (all : Places) : Type 0 where
  pub long : length all.widths.items ≡ length all.wires.items
  pub back : (n i : ℕ) → entry_at all.places n ≡ Some i → (i < length all.wires.items) × (slice_index_or all.wires.items i 0 ≡ n)
  pub among : (i : ℕ) → i < length all.wires.items → IsAmong named (record { number = slice_index_or all.wires.items i 0; width = slice_index_or all.widths.items i 0 })

-- the wire at each place, with its width, is one of these signals
abbrev pub SceneAmong : List NamedSignal → Scene → Type 0
SceneAmong named scene = (i : ℕ) → i < length scene.wires → Contains named (wire_signal (slice_index_or scene.wires i 0) (width_in scene i))

-- 128 marks for each place
abbrev pub HasMarks : Scene → Type 0
HasMarks scene = length scene.marks ≡ length scene.wires * 128

-- a scene with places for such wires, and no bit marked
pub record IsBegun (named : List NamedSignal) (manner : Manner) (scene : Scene) : Type 0 where
  pub sound : IsScene scene
  pub among : SceneAmong named scene
  pub manner_is : scene.manner ≡ manner
  pub clear : (n k : ℕ) → is_written scene n k ≡ false
  pub marks : HasMarks scene

-- the wire has a place
abbrev pub IsThere : List (Option ℕ) → Wire → Type 0
IsThere places x = is_some (entry_at places x.number) ≡ true

-- ---- bits

-- the mark of a bit stands here
pub record IsMarkOf (scene : Scene) (b : WireBit) (i : ℕ) : Type 0 where
  pub place : ℕ
  pub is : place_in scene b.wire ≡ Some place
  pub near : b.at < 128
  pub at : i ≡ place * 128 + b.at

-- the same wires
pub record SameWires (a b : Scene) : Type 0 where
  pub places : b.places ≡ a.places
  pub wires : b.wires ≡ a.wires
  pub widths : b.widths ≡ a.widths
  pub manner : b.manner ≡ a.manner
  pub long : length b.marks ≡ length a.marks

-- the bits of a list are marked, and each of them stands once in another, the last first
pub record IsSoFar (start scene : Scene) (all : List WireBit) (bits : List WireBit) : Type 0 where
  pub same : SameWires start scene
  pub marked : (n k : ℕ) → is_written scene n k ≡ has_bit (bit n k) all
  pub bits_are : reverse bits ≡ distinct all

-- the bits of a list are marked, and each of them stands at its last place
pub record IsMarked (start : Scene) (all : List WireBit) (m : Marked) : Type 0 where
  pub same : SameWires start m.scene
  pub marked : (n k : ℕ) → is_written m.scene n k ≡ has_bit (bit n k) all
  pub bits_are : m.bits ≡ distinct all
