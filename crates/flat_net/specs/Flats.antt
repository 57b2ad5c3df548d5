-- Flat designs that are well formed, and the valuations that settle them.
use Rattle.std.specs.Prelude.{ℕ, ◌≤◌, Bool, List, [], ◌∷◌, ◌++◌, length, All, IsTrue}
use Rattle.std.specs.List.{zip}
use Rattle.lhs_alias.specs.Segs.{lhs_bits}
use Rattle.lhs_alias.specs.Lies.{LieIn}
use Rattle.lhs_alias.specs.Pairs.{FallTo, HaveOwnChildren}
use Rattle.settling.specs.Settling.{Store, Contribution, Link, SettlesBy}
use Rattle.settling.specs.Least.{Giving, IsLeast}
use Rattle.settling.specs.Overriding.{overridden}
use Rattle.sv_outside.specs.declared.text.Signal.{Signal}
pub use Rattle.sv_outside.specs.Paths.{is_path_byte}
use Rattle.driver_resolve.specs.Drivers.{Phase, drivers_give, stimuli_from, overriding_from, widths_of, IsDriver}
use Rattle.flat_net.specs.declared.flat.Flat.{Flat}
use Rattle.flat_net.specs.declared.flat.Join.{Join}

-- ---- well formed

-- a path, and a width of 1 to 128
pub record IsSignal (s : Signal) : Type 0 where
  pub some : 1 ≤ s.width
  pub most : s.width ≤ 128
  pub named : 1 ≤ length s.path
  pub printed : All (λ b. IsTrue (is_path_byte b)) s.path

-- as many bits on either side, one at least, and each child's wire numbered above its parent's
pub record IsJoin (widths : List ℕ) (j : Join) : Type 0 where
  pub child : LieIn widths j.child
  pub parent : LieIn widths j.parent
  pub some : 1 ≤ length j.child
  pub some_above : 1 ≤ length j.parent
  pub falls : FallTo (lhs_bits j.child) (lhs_bits j.parent)

-- the pairs of joined bits, in the order of the joins
unfoldable pub links_of : List Join → List Link
links_of [] = []
links_of (j ∷ more) = zip (lhs_bits j.child) (lhs_bits j.parent) ++ links_of more

-- Signals, drivers and joins are sound, and no bit is joined twice as a child.
pub record IsFlat (flat : Flat) : Type 0 where
  pub wires : All IsSignal flat.wires
  pub drivers : All (IsDriver (widths_of flat.wires) flat.arena) flat.drivers
  pub joins : All (IsJoin (widths_of flat.wires)) flat.joins
  pub own_children : HaveOwnChildren (links_of flat.joins)

-- ---- settlings

-- What is given in a phase: by the drivers in order, and then by the inputs of the top; and where wires are overridden, what these
-- are set to, in place of all else that is given to their classes.
abbrev pub given : Flat → List ℕ → Phase → List Contribution
given flat over p =
    overridden (links_of flat.joins) (overriding_from 0 flat.wires over p.stim)
    (drivers_give flat.arena flat.drivers p ++ stimuli_from 0 flat.wires p.stim)

-- the same, by the present valuation
abbrev pub given_in : Flat → List ℕ → Store → Store → Giving
given_in flat over stim prev now = given flat over (record { stim = stim; previous = prev; present = now })

-- A valuation settles over the previous one and what the wires are set to from outside, where these wires are overridden (10.3,
-- 23.3.3): joined bits are equal, and each class that is given values has their resolution.
abbrev pub Settles : Flat → List ℕ → Store → Store → Store → Type 0
Settles flat over stim prev now = SettlesBy (links_of flat.joins) (given_in flat over stim prev now) now

-- a settling below every settling over the same previous valuation, stimulus and overriding
abbrev pub IsLeastSettling : Flat → List ℕ → Store → Store → Store → Type 0
IsLeastSettling flat over stim prev now = IsLeast (links_of flat.joins) (given_in flat over stim prev) now
