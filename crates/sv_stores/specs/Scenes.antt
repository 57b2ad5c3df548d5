-- Stores of blocks as nodes, and what names read there. Sections are those of IEEE 1800-2017.
use Rattle.std.specs.Prelude.{◌≡◌, ℕ, zero, suc, ◌+◌, ◌*◌, ◌<◌, ◌≤◌, nat_lt, nat_le, Bool, true, false, ◌&&◌, ◌||◌, List, length, slice_index_or, Option, Some, IsTrue, if◌then◌else◌}
use Rattle.std.specs.List.{Contains}
use Rattle.fourvec.specs.declared.Bit.{Bit}
use Rattle.fourvec.specs.declared.Bit.TheVariants.{Unknown}
use Rattle.svex_shape.specs.declared.shape.VarName.{VarName}
use Rattle.svex_shape.specs.declared.shape.VarName.TheVariants.{Now, Prev, Chosen, Sampled}
use Rattle.svex_shape.specs.declared.shape.Shape.{Shape}
use Rattle.svex_shape.specs.Shapes.{width_at}
use Rattle.svex_shape.specs.Values.{each_variable}
use Rattle.svex_arena.specs.Substs.{entry_at, given_or}
use Rattle.settling.specs.Settling.{Store}
use Rattle.sv_meaning.specs.Layouts.{Read, Origin, of_wires, of_choice, of_samples, NamedSignal}
use Rattle.sv_lower.specs.Nodes.{bits_at_node}
use Rattle.sv_meaning.specs.Blocks.{is_event}
use Rattle.sv_stores.specs.declared.scene.Manner.{Manner}
use Rattle.sv_stores.specs.declared.scene.Manner.TheVariants.{Comb, Latch, HeldLatch, Clocked}
use Rattle.sv_stores.specs.declared.scene.Scene.{Scene}
use Rattle.sv_stores.specs.declared.scene.State.{State}

-- ---- places

-- the place of a wire, where the block writes it
abbrev pub place_in : Scene → ℕ → Option ℕ
place_in scene n = entry_at scene.places n

abbrev pub width_in : Scene → ℕ → ℕ
width_in scene i = slice_index_or scene.widths i 0

abbrev pub mark_at : List Bool → ℕ → ℕ → Bool
mark_at marks i k = nat_lt k 128 && slice_index_or marks (i * 128 + k) false

-- the block writes this bit of a wire
abbrev pub is_written : Scene → ℕ → ℕ → Bool
is_written scene n k = given_or (λ i. mark_at scene.marks i k) false (place_in scene n)

unfoldable pub are_marked : List Bool → ℕ → ℕ → Bool
are_marked marks i zero = true
are_marked marks i (suc w) = mark_at marks i w && are_marked marks i w

-- the block writes all bits of the wire at a place
abbrev pub is_whole : Scene → ℕ → Bool
is_whole scene i = are_marked scene.marks i (width_in scene i)

-- each place is that of one wire, which has 1 to 128 bits
pub record IsScene (scene : Scene) : Type 0 where
  pub long : length scene.widths ≡ length scene.wires
  pub back : (n i : ℕ) → place_in scene n ≡ Some i → (i < length scene.wires) × (slice_index_or scene.wires i 0 ≡ n)
  pub some : (i : ℕ) → i < length scene.widths → 1 ≤ width_in scene i
  pub most : (i : ℕ) → i < length scene.widths → width_in scene i ≤ 128

-- ---- stores

-- it begins with X
abbrev pub is_comb : Manner → Bool
is_comb Comb = true
is_comb m = false

-- a bit that it writes reads the store
abbrev pub sees_store : Manner → Bool
sees_store Comb = true
sees_store Latch = true
sees_store m = false

-- names read nodes of what they see
abbrev pub sees_nodes : Manner → Bool
sees_nodes (Clocked edges) = false
sees_nodes m = true

-- what a store has where a block begins: X in a combinational block (9.2.2.2), and the phase before in a latch block (9.2.2.3) and
-- in a clocked one (9.2.2.4)
abbrev pub base : Manner → (VarName → ℕ → Bit) → Store
base Comb bits n k = Unknown
base Latch bits n k = bits (Prev n) k
base HeldLatch bits n k = bits (Prev n) k
base (Clocked edges) bits n k = bits (Prev n) k

-- what nodes stand for, where variables have such bits
unfoldable pub store_of : Scene → List Shape → (VarName → ℕ → Bit) → List ℕ → Store
store_of scene shapes bits nodes n k =
    given_or (λ i. slice_index_or (bits_at_node bits shapes (slice_index_or nodes i 0)) k (base scene.manner bits n k)) (base scene.manner bits n k) (place_in scene n)

-- ---- names

-- a bit of a wire that the block writes, where it is not clocked
abbrev pub own_bit : Manner → (VarName → ℕ → Bit) → Store → Store
own_bit HeldLatch bits store n k = bits (Prev n) k
own_bit m bits store n k = store n k

-- a bit of a wire, which the block may write
abbrev pub wire_bit : Manner → Bool → (VarName → ℕ → Bit) → Store → Store
wire_bit (Clocked edges) written bits store n k = if is_event edges n then bits (Now n) k else bits (Prev n) k
wire_bit m written bits store n k = if written then own_bit m bits store n k else bits (Now n) k

-- What names read. In a combinational block and in a latch block with `=` a bit that it writes reads the store, in one with `<=` the
-- phase before, and any other bit the present phase. In a clocked one each reads the phase before, but for the wires of the events.
unfoldable pub reads_in : Scene → (VarName → ℕ → Bit) → Store → Read
reads_in scene bits store of_wires n k = wire_bit scene.manner (is_written scene n k) bits store n k
reads_in scene bits store of_choice n k = bits (Chosen n) k
reads_in scene bits store of_samples n k = bits (Sampled n) k

-- a wire that the block writes is named with no more bits than it has
abbrev pub is_narrow : Scene → Origin → ℕ → ℕ → Bool
is_narrow scene of_wires n w = given_or (λ i. nat_le w (width_in scene i)) true (place_in scene n)
is_narrow scene o n w = true

-- so is each of these signals
abbrev pub Narrow : Scene → List NamedSignal → Type 0
Narrow scene names = (s : NamedSignal) → Contains names s → IsTrue (is_narrow scene s.owner s.number s.width)

-- ---- tests of variables

-- of what a wire of a width that the block writes reads of the phase before
abbrev pub held_test : Manner → (VarName → ℕ → Bool) → ℕ → ℕ → Bool
held_test HeldLatch p n w = p (Prev n) w
held_test m p n w = true

abbrev pub wire_test : Manner → Scene → (VarName → ℕ → Bool) → ℕ → ℕ → Bool
wire_test (Clocked edges) scene p n w = p (if is_event edges n then Now n else Prev n) w
wire_test m scene p n w =
    given_or (λ i. held_test m p n (width_in scene i) && (is_whole scene i || p (Now n) (width_in scene i))) (p (Now n) w) (place_in scene n)

-- a test of each variable that a signal of a width reads, but for those of the store
unfoldable pub name_test : Scene → (VarName → ℕ → Bool) → Origin → ℕ → ℕ → Bool
name_test scene p of_wires n w = wire_test scene.manner scene p n w
name_test scene p of_choice n w = p (Chosen n) w
name_test scene p of_samples n w = p (Sampled n) w

abbrev pub Allows : Scene → (VarName → ℕ → Bool) → List NamedSignal → Type 0
Allows scene p names = (s : NamedSignal) → Contains names s → IsTrue (name_test scene p s.owner s.number s.width)

-- a test holds of each variable that nodes mention
abbrev pub HoldsIn : (VarName → ℕ → Bool) → List Shape → List ℕ → Type 0
HoldsIn p shapes nodes = (i : ℕ) → i < length nodes → IsTrue (each_variable p shapes (slice_index_or nodes i 0))

-- ---- states

-- what a name of the wire at a place reads, where the store has a node there
pub record Shows (scene : Scene) (shapes : List Shape) (i node seen : ℕ) : Type 0 where
  pub within : seen < length shapes
  pub width : width_at shapes seen ≡ width_in scene i
  pub value : (bits : VarName → ℕ → Bit) (k : ℕ) → k < width_in scene i
      → slice_index_or (bits_at_node bits shapes seen) k Unknown
      ≡ (if mark_at scene.marks i k then slice_index_or (bits_at_node bits shapes node) k Unknown else bits (Now (slice_index_or scene.wires i 0)) k)
  pub mentions : (p : VarName → ℕ → Bool) → IsTrue (is_whole scene i || p (Now (slice_index_or scene.wires i 0)) (width_in scene i))
      → IsTrue (each_variable p shapes node) → IsTrue (each_variable p shapes seen)

-- nodes for all places, as wide as their wires
pub record AreNodes (scene : Scene) (shapes : List Shape) (nodes : List ℕ) : Type 0 where
  pub long : length nodes ≡ length scene.wires
  pub within : (i : ℕ) → i < length nodes → slice_index_or nodes i 0 < length shapes
  pub width : (i : ℕ) → i < length nodes → width_at shapes (slice_index_or nodes i 0) ≡ width_in scene i

pub record AreSeen (scene : Scene) (shapes : List Shape) (nodes seen : List ℕ) : Type 0 where
  pub long : length seen ≡ length scene.wires
  pub shows : (i : ℕ) → i < length seen → Shows scene shapes i (slice_index_or nodes i 0) (slice_index_or seen i 0)

-- ---- where a block begins

-- a test of what a wire of a width has there
abbrev pub start_test : Manner → (VarName → ℕ → Bool) → ℕ → ℕ → Bool
start_test Comb p n w = true
start_test Latch p n w = p (Prev n) w
start_test HeldLatch p n w = p (Prev n) w
start_test (Clocked edges) p n w = p (Prev n) w

-- what the wire at a place has there
pub record StartsAt (scene : Scene) (shapes : List Shape) (i node : ℕ) : Type 0 where
  pub within : node < length shapes
  pub width : width_at shapes node ≡ width_in scene i
  pub value : (bits : VarName → ℕ → Bit) (k : ℕ) → slice_index_or (bits_at_node bits shapes node) k (base scene.manner bits (slice_index_or scene.wires i 0) k) ≡ base scene.manner bits (slice_index_or scene.wires i 0) k
  pub mentions : (p : VarName → ℕ → Bool) → IsTrue (start_test scene.manner p (slice_index_or scene.wires i 0) (width_in scene i)) → IsTrue (each_variable p shapes node)

-- nodes of the store there
pub record Starts (scene : Scene) (shapes : List Shape) (nodes : List ℕ) : Type 0 where
  pub nodes_are : AreNodes scene shapes nodes
  pub at : (i : ℕ) → i < length scene.wires → StartsAt scene shapes i (slice_index_or nodes i 0)
  pub value : (bits : VarName → ℕ → Bit) → store_of scene shapes bits nodes ≡ base scene.manner bits
  pub mentions : (p : VarName → ℕ → Bool) → ((i : ℕ) → i < length scene.wires → IsTrue (start_test scene.manner p (slice_index_or scene.wires i 0) (width_in scene i))) → HoldsIn p shapes nodes

-- ---- what names see

-- what they see of the nodes of the store at the start
pub record SeesStart (scene : Scene) (shapes : List Shape) (seen : List ℕ) : Type 0 where
  pub start : List ℕ
  pub start_are : AreNodes scene shapes start
  pub at : (i : ℕ) → i < length scene.wires → StartsAt scene shapes i (slice_index_or start i 0)
  pub seen_are : AreSeen scene shapes start seen

-- In a latch block with `<=` names see the start of the store, and in a clocked block nothing of it.
abbrev pub SeenBy : Manner → Scene → List Shape → List ℕ → List ℕ → Type 0
SeenBy Comb scene shapes nodes seen = AreSeen scene shapes nodes seen
SeenBy Latch scene shapes nodes seen = AreSeen scene shapes nodes seen
SeenBy HeldLatch scene shapes nodes seen = SeesStart scene shapes seen
SeenBy (Clocked edges) scene shapes nodes seen = Unit {0}

pub record IsState (scene : Scene) (shapes : List Shape) (state : State) : Type 0 where
  pub nodes : AreNodes scene shapes state.nodes
  pub seen : SeenBy scene.manner scene shapes state.nodes state.seen

-- ---- nodes and steps

-- A node has what a function gives of what names read, has so many bits, and mentions nothing but what these names read.
pub record Yields (scene : Scene) (old new : List Shape) (nodes : List ℕ) (f : Read → List Bit) (names : List NamedSignal) (w node : ℕ) : Type 0 where
  pub within : node < length new
  pub width : width_at new node ≡ w
  pub value : (bits : VarName → ℕ → Bit) → bits_at_node bits new node ≡ f (reads_in scene bits (store_of scene old bits nodes))
  pub mentions : (p : VarName → ℕ → Bool) → Allows scene p names → HoldsIn p old nodes → IsTrue (each_variable p new node)

-- A step leads from one store to another, and the new one mentions nothing but what the old one mentions and these names read.
pub record Ran (scene : Scene) (old new : List Shape) (before after : List ℕ) (f : (Store → Read) → Store → Store) (names : List NamedSignal) : Type 0 where
  pub value : (bits : VarName → ℕ → Bit) → store_of scene new bits after ≡ f (reads_in scene bits) (store_of scene old bits before)
  pub mentions : (p : VarName → ℕ → Bool) → Allows scene p names → HoldsIn p old before → HoldsIn p new after
