-- A half of an induction: the machine of a table over a design, and claims over what it samples.
use Rattle.std.specs.Prelude.{◌≡◌, ◌<◌, ℕ, suc, List, [], ◌∷◌, length, map, All, IsTrue, slice_index_or}
use Rattle.fourvec.specs.declared.Bit.TheVariants.{One}
use Rattle.goal_gates.specs.Goals.{rows_of}
use Rattle.goal_text.specs.Scopes.{is_of_table}
use Rattle.lhs_alias.specs.Segs.{lhs_bits}
use Rattle.lhs_alias.specs.Lies.{LieIn}
use Rattle.lhs_alias.specs.declared.segs.Seg.{Seg}
use Rattle.driver_resolve.specs.Drivers.{widths_of, wire_bits}
use Rattle.flat_net.specs.declared.flat.Flat.{Flat}
use Rattle.flat_net.specs.Flats.{links_of}
use Rattle.phase_fsm.specs.Machines.{IsMachine}
use Rattle.settling.specs.Settling.{first_bit}
use Rattle.svex_shape.specs.declared.shape.Shape.{Shape}
use Rattle.svex_shape.specs.Shapes.{width_at}
use Rattle.svex_shape.specs.Values.{Vector, read, value_at, each_variable}
use Rattle.svtv_periods.specs.Periods.{sampling}
use Rattle.svtv_table.specs.Binding.{HasWidth, IsBound}
use Rattle.svtv_table.specs.declared.bound.Sample.{Sample}
use Rattle.svtv_unroll.specs.Unrolled.{HasDesign, HasSet}
use Rattle.svtv_induct.specs.declared.half.Half.{Half}

-- ---- claims

-- the claims of an invariant by its number
abbrev pub claims_at : Half → ℕ → List ℕ
claims_at h at = slice_index_or h.claims at []

-- the node is there, has one bit, and names samples alone, at their widths
pub record IsClaim (shapes : List Shape) (samples : List Sample) (node : ℕ) : Type 0 where
  pub there : node < length shapes
  pub wide : width_at shapes node ≡ 1
  pub mentions : IsTrue (each_variable (is_of_table [] samples) shapes node)

-- the claim has the value 1 where the samples have these vectors
abbrev pub IsOneOver : List Shape → List Vector → ℕ → Type 0
IsOneOver shapes values node = value_at (read (rows_of [] values)) shapes node ≡ One ∷ []

-- so have all claims of an invariant
abbrev pub AreOneOver : Half → List Vector → ℕ → Type 0
AreOneOver h values at = All (IsOneOver h.fsm.flat.arena values) (claims_at h at)

-- ---- first bits

-- the first bits of a wire's bits, by its number
abbrev pub firsts_at : Half → ℕ → List Seg
firsts_at h n = slice_index_or h.firsts n []

-- These are the first bits of the classes of joined bits that a flat design has, of each wire's bits in their order.
abbrev pub AreFirsts : Flat → Half → Type 0
AreFirsts flat h = (n : ℕ) → n < length flat.wires → lhs_bits (firsts_at h n) ≡ map (first_bit (links_of flat.joins)) (wire_bits n (slice_index_or (widths_of flat.wires) n 0))

-- ---- what is asked of a half

-- The machine is that of some flat design, the table is bound to its wires and samples in its last phase, and the sets of its phases are among those
-- of the machine; there are claims of this number; and for each wire segments of wires that are as wide.
pub record IsHalf (h : Half) (at : ℕ) : Type 0 where
  pub design : HasDesign h.fsm
  pub bound : IsBound h.fsm.flat.wires h.bound
  pub widths : All (λ v. HasWidth v.width) h.bound.vars
  pub sets : (phase : ℕ) → phase < h.bound.phases → HasSet h.fsm.sets h.bound.overs phase
  pub last : All (λ (x : Sample). suc x.phase ≡ h.bound.phases) h.bound.samples
  pub there : at < length h.claims
  pub claims : All (IsClaim h.fsm.flat.arena h.bound.samples) (claims_at h at)
  pub many : length h.firsts ≡ length h.fsm.flat.wires
  pub lie : (n : ℕ) → n < length h.fsm.flat.wires → LieIn (widths_of h.fsm.flat.wires) (firsts_at h n)
  pub wide : (n : ℕ) → n < length h.fsm.flat.wires → length (lhs_bits (firsts_at h n)) ≡ slice_index_or (widths_of h.fsm.flat.wires) n 0

-- Both halves are of one design, sample the same signals, and have the same claims of this number.
pub record AreHalves (base step : Half) (at : ℕ) : Type 0 where
  pub wires : step.fsm.flat.wires ≡ base.fsm.flat.wires
  pub firsts : step.firsts ≡ base.firsts
  pub alike : map sampling base.bound.samples ≡ map sampling step.bound.samples
  pub many : length (claims_at step at) ≡ length (claims_at base at)
  pub same : (k : ℕ) → k < length (claims_at base at) → (values : List Vector)
      → value_at (read (rows_of [] values)) step.fsm.flat.arena (slice_index_or (claims_at step at) k 0) ≡ value_at (read (rows_of [] values)) base.fsm.flat.arena (slice_index_or (claims_at base at) k 0)

-- The half's machine is that of this flat design, and its segments are the first bits there.
pub record IsOf (flat : Flat) (h : Half) : Type 0 where
  pub wires : flat.wires ≡ h.fsm.flat.wires
  pub machine : IsMachine flat h.fsm.sets h.fsm.flat.arena h.fsm.nodes
  pub firsts : AreFirsts flat h
