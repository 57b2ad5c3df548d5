-- Bits of two nodes side by side, and choices between nodes.
use Rattle.std.specs.Prelude.{◌≡◌, ℕ, ◌<◌, Bool, List, length, slice_index_or, IsTrue, if◌then◌else◌}
use Rattle.fourvec.specs.declared.Bit.{Bit}
use Rattle.fourvec.specs.declared.Bit.TheVariants.{Unknown}
use Rattle.fourvec.specs.Bits.{first, slice_of, pick_of}
use Rattle.svex_shape.specs.declared.shape.VarName.{VarName}
use Rattle.svex_shape.specs.declared.shape.Shape.{Shape}
use Rattle.svex_shape.specs.Shapes.{width_at}
use Rattle.svex_shape.specs.Values.{each_variable}
use Rattle.sv_meaning.specs.Deeds.{merged}
use Rattle.sv_lower.specs.Nodes.{bits_at_node, FromThree}
use Rattle.sv_stores.specs.declared.scene.Scene.{Scene}
use Rattle.sv_stores.specs.Scenes.{mark_at, store_of, HoldsIn, AreNodes}

-- a node has so many bits from a place on, of one of two nodes
pub record IsSide (mark : Bool) (old new : List Shape) (stored now from count node : ℕ) : Type 0 where
  pub within : node < length new
  pub width : width_at new node ≡ count
  pub value : (bits : VarName → ℕ → Bit)
      → bits_at_node bits new node ≡ (if mark then slice_of (bits_at_node bits old stored) from count else slice_of (bits_at_node bits old now) from count)
  pub mentions : (p : VarName → ℕ → Bool) → IsTrue (each_variable p old stored) → IsTrue (each_variable p old now) → IsTrue (each_variable p new node)

-- a node has the first so many bits of two nodes, each by its mark
pub record Mixes (marks : List Bool) (i : ℕ) (old new : List Shape) (stored now w node : ℕ) : Type 0 where
  pub within : node < length new
  pub width : width_at new node ≡ w
  pub value : (bits : VarName → ℕ → Bit) (k : ℕ) → k < w
      → slice_index_or (bits_at_node bits new node) k Unknown
      ≡ (if mark_at marks i k then slice_index_or (bits_at_node bits old stored) k Unknown else slice_index_or (bits_at_node bits old now) k Unknown)
  pub mentions : (p : VarName → ℕ → Bool) → IsTrue (each_variable p old stored) → IsTrue (each_variable p old now) → IsTrue (each_variable p new node)

-- at a place, the node of one of two stores, by a truth
abbrev pub ChosenAt : List Shape → List Shape → ℕ → List ℕ → List ℕ → List ℕ → ℕ → Type 0
ChosenAt old new truth a b nodes i = FromThree old new (λ c x y. pick_of c x y) truth (slice_index_or a i 0) (slice_index_or b i 0) (width_at old (slice_index_or a i 0)) (slice_index_or nodes i 0)

-- nodes of one of two stores, by a truth
pub record Merges (scene : Scene) (old new : List Shape) (truth : ℕ) (a b nodes : List ℕ) : Type 0 where
  pub nodes_are : AreNodes scene new nodes
  pub value : (bits : VarName → ℕ → Bit)
      → store_of scene new bits nodes ≡ merged (first (bits_at_node bits old truth)) (store_of scene old bits a) (store_of scene old bits b)
  pub mentions : (p : VarName → ℕ → Bool) → IsTrue (each_variable p old truth) → HoldsIn p old a → HoldsIn p old b → HoldsIn p new nodes
