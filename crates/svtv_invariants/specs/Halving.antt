-- Halves of an induction that are made of one flat design and two tables.
use Rattle.std.specs.Prelude.{◌≡◌, ◌<◌, ℕ, List, All, length, map}
use Rattle.flat_net.specs.declared.flat.Flat.{Flat}
use Rattle.goal_text.specs.declared.goal.Goal.{Goal}
use Rattle.lhs_alias.specs.declared.segs.Seg.{Seg}
use Rattle.phase_fsm.specs.Machines.{IsMachine}
use Rattle.svex_arena.specs.Arenas.{Extends}
use Rattle.svex_shape.specs.declared.shape.Shape.{Shape}
use Rattle.svtv_induct.specs.Halves.{AreHalves, IsClaim, IsHalf, IsOf}
use Rattle.svtv_induct.specs.declared.half.Half.{Half}
use Rattle.svtv_table.specs.declared.bound.Bound.{Bound}
use Rattle.svtv_table.specs.declared.bound.Sample.{Sample}
use Rattle.svtv_unroll.specs.Unrolled.{HasDesign, HasSet}

-- the claims of each goal
abbrev pub claims_in : List Goal → List (List ℕ)
claims_in goals = map (λ g. g.claims) goals

-- the claims of a goal are nodes over samples alone
abbrev pub HasClaims : List Shape → List Sample → Goal → Type 0
HasClaims shapes samples goal = All (IsClaim shapes samples) goal.claims

-- Halves of one flat design that can be asked for each of these goals. The graph of the period's has the nodes of the flat design's.
pub record AreHalvesOf (flat : Flat) (goals : List Goal) (base step : Half) : Type 0 where
  pub is_base : (at : ℕ) → at < length goals → IsHalf base at
  pub is_step : (at : ℕ) → at < length goals → IsHalf step at
  pub both : (at : ℕ) → at < length goals → AreHalves base step at
  pub base_of : IsOf flat base
  pub step_of : IsOf flat step
  pub extends : Extends flat.arena step.fsm.flat.arena
  pub claims : step.claims ≡ claims_in goals

-- ---- words of the inner functions

-- The half of a table over a flat design: it has the machine of the design, in a graph that has the nodes of the design's.
pub record IsMadeOf (flat : Flat) (table : Bound) (segs : List (List Seg)) (goals : List Goal) (h : Half) : Type 0 where
  pub wires : h.fsm.flat.wires ≡ flat.wires
  pub machine : IsMachine flat h.fsm.sets h.fsm.flat.arena h.fsm.nodes
  pub design : HasDesign h.fsm
  pub sets : (phase : ℕ) → phase < table.phases → HasSet h.fsm.sets table.overs phase
  pub extends : Extends flat.arena h.fsm.flat.arena
  pub bound : h.bound ≡ table
  pub firsts : h.firsts ≡ segs
  pub claims : h.claims ≡ claims_in goals
