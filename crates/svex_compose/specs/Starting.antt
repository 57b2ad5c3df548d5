-- Before the first round.
use Rattle.std.specs.Prelude.{◌≡◌, ◌<◌, ℕ, false, List, length, map, slice_index, slice_index_or}
use Rattle.fourvec.specs.Bits.{all_x}
use Rattle.lhs_alias.specs.declared.segs.Seg.{Seg}
use Rattle.svex_shape.specs.declared.shape.Shape.{Shape}
use Rattle.svex_shape.specs.declared.shape.Shape.TheVariants.{Const}
use Rattle.svex_shape.specs.Shapes.{shape_at}
use Rattle.driver_resolve.specs.declared.driver.Resolved.{Resolved}
use Rattle.net_equations.specs.Equations.{seg_at}
use Rattle.compose_rounds.specs.declared.scene.Scene.{Scene}

-- n nodes that are X at each bit of their segments
pub record AreStarted (shapes : List Shape) (segs : List Seg) (nodes : List ℕ) (n : ℕ) : Type 0 where
  pub size : length nodes ≡ n
  pub there : (i : ℕ) → i < n → slice_index nodes i < length shapes
  pub shape : (i : ℕ) → i < n → shape_at shapes (slice_index nodes i) ≡ Const (all_x (seg_at segs i).width)

-- the scene of these equations
pub record IsSceneOf (set : Resolved) (s : Scene) : Type 0 where
  pub eqs : s.segments.eqs ≡ map (λ e. e.seg) set.eqs
  pub free : s.segments.free ≡ set.free
  pub values : s.values.items ≡ map (λ e. e.value) set.eqs

-- each equation is X, and none is settled
pub record IsStart (shapes : List Shape) (set : Resolved) (s : Scene) : Type 0 where
  pub of : IsSceneOf set s
  pub nodes : AreStarted shapes (map (λ e. e.seg) set.eqs) s.nodes.items (length set.eqs)
  pub marks : length s.settled.items ≡ length set.eqs
  pub none : (i : ℕ) → slice_index_or s.settled.items i false ≡ false
