use Rattle.std.proofs.Common.{◌≡◌, ◌<◌, ℕ, List, length}
use Rattle.svex_shape.specs.declared.shape.Shape.{Shape}
use Rattle.svex_arena.specs.Arenas.{Extends}
use Rattle.flat_net.specs.declared.flat.Flat.{Flat}
use Rattle.flat_net.specs.Flats.{IsFlat}
use Rattle.phase_fsm.specs.Machines.{AreWireNodes, row_of}
use Rattle.phase_fsm.specs.Sets.{AreNarrow}
use Rattle.phase_fsm.proofs.Growing.{over_nodes}
use Rattle.phase_fsm.proofs.machine.all_nodes.Given as goal

-- the first so many sets have their nodes
pub record IsBegun (flat : Flat) (sets : List (List ℕ)) (shapes : List Shape) (nodes : List (List ℕ)) (at : ℕ) : Type 0 where
  pub as_many : length nodes ≡ at
  pub each : (s : ℕ) → s < at → AreWireNodes flat (row_of sets s) shapes (row_of nodes s)

pub record Goes (flat now : Flat) (sets : List (List ℕ)) (nodes : List (List ℕ)) (at : ℕ) : Type 0 where
  pub is : now ≡ over_nodes flat now.arena
  pub extends : Extends flat.arena now.arena
  pub sound : IsFlat now
  pub begun : IsBegun flat sets now.arena nodes at
  pub narrow : AreNarrow flat sets at

abbrev pub invariant-sets : goal.invariant-sets
invariant-sets l = Goes l.fn.flat l.flat l.sets l.nodes l.at
