-- What is made of one task after another: words of the inner functions.
use Rattle.std.specs.Prelude.{◌≡◌, ◌≢◌, ℕ, ◌+◌, ◌<◌, ◌≤◌, Bool, List, [], ◌∷◌, ◌++◌, length, slice_index_or, Option, Some, None, Result, Ok, Err, IsTrue}
use Rattle.std.specs.List.{All, AllPairs, zip, Contains}
use Rattle.fourvec.specs.declared.Bit.{Bit}
use Rattle.fourvec.specs.Bits.{slice_of}
use Rattle.sv_outside.specs.declared.text.Signal.{Signal}
use Rattle.sv_outside.specs.declared.refusal.TextErr.{TextErr}
use Rattle.lhs_alias.specs.declared.segs.WireBit.{WireBit}
use Rattle.lhs_alias.specs.declared.segs.Seg.{Seg}
use Rattle.lhs_alias.specs.Segs.{lhs_bits}
use Rattle.lhs_alias.specs.Lies.{LieIn}
use Rattle.lhs_alias.specs.Pairs.{HaveOwnChildren}
use Rattle.settling.specs.Settling.{Store, Contribution, Link}
use Rattle.svex_shape.specs.declared.shape.VarName.{VarName}
use Rattle.svex_shape.specs.declared.shape.Shape.{Shape}
use Rattle.svex_shape.specs.Shapes.{width_at}
use Rattle.svex_shape.specs.Values.{each_variable}
use Rattle.driver_resolve.specs.declared.driver.Driver.{Driver}
use Rattle.driver_resolve.specs.Drivers.{Phase, bits_in, drivers_give, widths_of, IsDriver}
use Rattle.flat_net.specs.declared.flat.Join.{Join}
use Rattle.flat_net.specs.Flats as f
use Rattle.sv_meaning.specs.Faults.{Faults}
use Rattle.sv_meaning.specs.Layouts as m
use Rattle.sv_meaning.specs.Designs as d
use Rattle.sv_meaning.specs.Designs.{Work, driven, work_faults, work_turns, faults_from}
use Rattle.sv_typing.specs.Judging.{IsCause}
use Rattle.sv_hierarchy.specs.Scopes as h
use Rattle.scope_laws.specs.Wires.{HavePaths, connected_wires}
use Rattle.sv_scope.specs.declared.whole.DesignScopes.{DesignScopes}
use Rattle.sv_scope.specs.Scoped.{levels_of, wires_of, works_of}
use Rattle.sv_lower.specs.Nodes.{bits_at_node}
use Rattle.sv_targets.specs.declared.parts.Part.{Part}
use Rattle.sv_targets.specs.Slots.{Slots}
use Rattle.sv_stmt.specs.Passed.{IsPlaced}
use Rattle.sv_stmt.specs.Blocks.{AreWires}
use Rattle.sv_elab.specs.declared.works.Parts.{Parts}
use Rattle.sv_elab.specs.declared.whole.Making.{Making}
use Rattle.sv_elab.specs.Elaborated.{names_only, Stem, AllStem}

-- ---- parts of targets

-- A part has some bits, which end within so many.
pub record IsWithin (width : ℕ) (part : Part) : Type 0 where
  pub some : 1 ≤ length (lhs_bits part.to)
  pub ends : part.lo + length (lhs_bits part.to) ≤ width

-- A driver gives a part of a target its bits of a value.
pub record Puts (widths : List ℕ) (old new : List Shape) (value : ℕ) (part : Part) (d : Driver) : Type 0 where
  pub target : d.target ≡ part.to
  pub within : part.lo + length (lhs_bits part.to) ≤ width_at old value
  pub value_is : (bits : VarName → ℕ → Bit) → bits_at_node bits new d.value ≡ slice_of (bits_at_node bits old value) part.lo (length (lhs_bits part.to))
  pub lies : LieIn widths d.target
  pub placed : IsPlaced new d
  pub mentions : (p : VarName → ℕ → Bool) → IsTrue (each_variable p old value) → IsTrue (each_variable p new d.value)

-- what the bits of a value give to parts
unfoldable pub parts_give : List Bit → List Part → List Contribution
parts_give v [] = []
parts_give v (p ∷ more) = zip (lhs_bits p.to) (slice_of v p.lo (length (lhs_bits p.to))) ++ parts_give v more

-- the bits of parts, the lowest part first
unfoldable pub parts_bits : List Part → List WireBit
parts_bits [] = []
parts_bits (p ∷ more) = lhs_bits p.to ++ parts_bits more

-- Drivers give parts their bits of a value, one after another.
pub record PutAll (widths : List ℕ) (old new : List Shape) (value : ℕ) (parts : List Part) (all : List Driver) : Type 0 where
  pub gives : (p : Phase) → drivers_give new all p ≡ parts_give (bits_at_node (bits_in p) old value) parts
  pub within : All (λ part. part.lo + length (lhs_bits part.to) ≤ width_at old value) parts
  pub lies : All (λ d. LieIn widths d.target) all
  pub placed : All (IsPlaced new) all
  pub mentions : (p : VarName → ℕ → Bool) → IsTrue (each_variable p old value) → All (λ d. IsTrue (each_variable p new d.value)) all

-- Drivers give slots their bits of a value.
pub record Fills (widths : List ℕ) (old new : List Shape) (value : ℕ) (slots : Slots) (all : List Driver) : Type 0 where
  pub gives : (p : Phase) → drivers_give new all p ≡ driven slots (bits_at_node (bits_in p) old value)
  pub lies : All (λ d. LieIn widths d.target) all
  pub placed : All (IsPlaced new) all
  pub mentions : (p : VarName → ℕ → Bool) → IsTrue (each_variable p old value) → All (λ d. IsTrue (each_variable p new d.value)) all

-- ---- assignments and ports

-- Sound drivers give what is contributed in each phase, and name in the present only these wires.
pub record Supplies (widths names : List ℕ) (shapes : List Shape) (f : Store → List Contribution) (all : List Driver) : Type 0 where
  pub gives : (p : Phase) → drivers_give shapes all p ≡ f p.present
  pub sound : All (IsDriver widths shapes) all
  pub names_are : All (λ d. IsTrue (each_variable (names_only names) shapes d.value)) all

abbrev pub JudgesSupply : List ℕ → List ℕ → List Shape → (Store → List Contribution) → Faults → Result (List Driver) TextErr → Type 0
JudgesSupply widths names shapes f all (Ok drivers) = (all ≡ []) × Supplies widths names shapes f drivers
JudgesSupply widths names shapes f all (Err e) = IsCause all e

-- the bits of a wire of a width
abbrev pub wire_seg : ℕ → ℕ → Seg
wire_seg n w = record { wire = n; lo = 0; width = w }

-- a join of a whole wire and the bits of parts
pub record JoinsTo (widths : List ℕ) (wire width : ℕ) (parts : List Part) (x : Join) : Type 0 where
  pub child : x.child ≡ wire_seg wire width ∷ []
  pub parent : lhs_bits x.parent ≡ parts_bits parts
  pub sound : f.IsJoin widths x

-- ---- one task

abbrev pub join_list : Option Join → List Join
join_list None = []
join_list (Some x) = x ∷ []

-- What is made of a task against which nothing stands, where so many turns of loops were made before.
pub record IsWorked (wires : List Signal) (w : Work) (before : ℕ) (shapes : List Shape) (x : Parts) : Type 0 where
  pub clear : work_faults w before ≡ []
  pub made : x.made ≡ before + work_turns w
  pub stem : Stem wires shapes w x.drivers
  pub sound : All (IsDriver (widths_of wires) shapes) x.drivers
  pub links : f.links_of (join_list x.join) ≡ d.links_of_work w
  pub join_is : All (f.IsJoin (widths_of wires)) (join_list x.join)

abbrev pub JudgesWork : List Signal → Work → ℕ → List Shape → Result Parts TextErr → Type 0
JudgesWork wires w before shapes (Ok x) = IsWorked wires w before shapes x
JudgesWork wires w before shapes (Err e) = IsCause (work_faults w before) e

-- the wire of a connected port has the width of its layout
abbrev pub PortFits : List ℕ → ℕ → m.Layout → Type 0
PortFits widths n x = (n < length widths) × (slice_index_or widths n 0 ≡ m.width x)

abbrev pub TaskFits : List ℕ → h.Task → Type 0
TaskFits widths (h.assigning to x) = Unit {0}
TaskFits widths (h.running b) = Unit {0}
TaskFits widths (h.connecting way n x actual) = PortFits widths n x

-- each signal that a scope declares has a number below that
abbrev pub AreBelow : ℕ → m.Scope → Type 0
AreBelow n at = (s : m.NamedSignal) → m.Declared at s → s.number < n

-- the wire of a connected port stands above all that its place sees
abbrev pub TaskStandsAbove : m.Scope → h.Task → Type 0
TaskStandsAbove at (h.assigning to x) = Unit {0}
TaskStandsAbove at (h.running b) = Unit {0}
TaskStandsAbove at (h.connecting way n x actual) = AreBelow n at

-- no bit of the wire of a connected port is the child of a join
abbrev pub TaskIsFree : List Link → h.Task → Type 0
TaskIsFree links (h.assigning to x) = Unit {0}
TaskIsFree links (h.running b) = Unit {0}
TaskIsFree links (h.connecting way n x actual) = All (λ link. link.0.wire ≢ n) links

-- 1 to 128 bits each
abbrev pub AreSizes : List ℕ → Type 0
AreSizes widths = All (λ width. (1 ≤ width) × (width ≤ 128)) widths

-- ---- all tasks

-- Each name stands for a wire of its width, and so does each connected port, above all that its place sees; no two ports have one wire; each
-- wire has a path.
pub record AreSound (s : DesignScopes) : Type 0 where
  pub names : (at : h.Front) → AreWires (h.live_at (levels_of s) at) (widths_of (wires_of s))
  pub ports : (x : h.Standing) → Contains (works_of s) x → TaskFits (widths_of (wires_of s)) x.task
  pub above : (x : h.Standing) → Contains (works_of s) x → TaskStandsAbove (h.live_at (levels_of s) x.at) x.task
  pub apart : AllPairs ◌≢◌ (connected_wires (works_of s))
  pub paths : HavePaths (wires_of s)

-- the turns of all loops in works
unfoldable pub turns_in : List Work → ℕ
turns_in [] = 0
turns_in (w ∷ more) = work_turns w + turns_in more

-- What is made of works against which nothing stands.
pub record IsMade (wires : List Signal) (works : List Work) (before : ℕ) (x : Making) : Type 0 where
  pub clear : faults_from before works ≡ []
  pub made : x.made ≡ before + turns_in works
  pub stem : AllStem wires x.arena works x.drivers
  pub sound : All (IsDriver (widths_of wires) x.arena) x.drivers
  pub links : f.links_of x.joins ≡ d.links_of works
  pub joins_are : All (f.IsJoin (widths_of wires)) x.joins
  pub own_children : HaveOwnChildren (f.links_of x.joins)
