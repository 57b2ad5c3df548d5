-- The nets of a flat design of which some wires are overridden, and the groups in which they depend on each other.
use Rattle.std.specs.Prelude.{◌≡◌, ◌<◌, ℕ, List, length, map, All, IsTrue, Option, None, Some}
use Rattle.lhs_alias.specs.declared.segs.Seg.{Seg}
use Rattle.lhs_alias.specs.Segs.{bit}
use Rattle.lhs_alias.specs.Lies.{LiesIn, IsBitOf}
use Rattle.settling.specs.Settling.{first_bit}
use Rattle.driver_resolve.specs.Drivers.{widths_of}
use Rattle.flat_net.specs.declared.flat.Flat.{Flat}
use Rattle.flat_net.specs.Flats.{links_of}
use Rattle.event_nets.specs.Nets.{nets_of}
use Rattle.net_equations.specs.Equations.{has_bit, seg_at}
use Rattle.net_equations.specs.Groups.{AreInOrder, first_wide}
use Rattle.net_resolve.specs.Resolving.{lowest_bit, IsNet, IsReadFor}
use Rattle.phase_fsm.specs.Machines.{row_of}

-- all nets, each whole, by wire and lowest bit
pub record AreNets (flat : Flat) (over : List ℕ) (segs : List Seg) : Type 0 where
  pub named : map lowest_bit segs ≡ nets_of flat over
  pub inside : All (LiesIn (widths_of flat.wires)) segs
  pub whole : All (IsNet flat over) segs

-- A net depends on another where a driver of one of its bits mentions in the present a wire that has a bit joined to a bit of the other.
pub record NetDepends (flat : Flat) (over : List ℕ) (segs : List Seg) (i j : ℕ) : Type 0 where
  pub wire : ℕ
  pub reads : IsReadFor flat over (seg_at segs i) wire
  pub place : ℕ
  pub inside : IsBitOf (widths_of flat.wires) (bit wire place)
  pub joined : IsTrue (has_bit (seg_at segs j) (first_bit (links_of flat.joins) (bit wire place)))

-- groups of nets in an order of dependence
abbrev pub AreGroups : Flat → List ℕ → List Seg → List (List ℕ) → Type 0
AreGroups flat over segs groups = AreInOrder (NetDepends flat over segs) (length segs) groups

-- The bits of the first group that has over 1,024, if any, in some order of dependence of all nets.
pub record HasGroups (flat : Flat) (over : List ℕ) (wide : Option ℕ) : Type 0 where
  pub segs : List Seg
  pub nets : AreNets flat over segs
  pub groups : List (List ℕ)
  pub order : AreGroups flat over segs groups
  pub first : first_wide segs groups ≡ wide

-- no group of these many first sets is too wide
abbrev pub AreNarrow : Flat → List (List ℕ) → ℕ → Type 0
AreNarrow flat sets k = (s : ℕ) → s < k → HasGroups flat (row_of sets s) None

-- the first group that is too wide, of the first set that has one, has so many bits
pub record IsFirstWide (flat : Flat) (sets : List (List ℕ)) (bits : ℕ) : Type 0 where
  pub set : ℕ
  pub there : set < length sets
  pub before : AreNarrow flat sets set
  pub wide : HasGroups flat (row_of sets set) (Some bits)
