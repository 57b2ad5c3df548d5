-- What a machine that was made for the sets of a table is to the table.
use Rattle.std.proofs.Common.{◌≡◌, ◌<◌, ℕ, List, length, sym, subst, Result, Ok, Err, IfOk}
use Rattle.std.specs.Prelude.{Option}
use Rattle.flat_net.specs.declared.flat.Flat.{Flat}
use Rattle.flat_net.specs.Flats.{IsFlat}
use Rattle.net_equations.specs.declared.group.ComposeErr.{ComposeErr}
use Rattle.phase_fsm.specs.Machines.{IsMachine}
use Rattle.phase_fsm.specs.Sets.{AreNarrow}
use Rattle.phase_fsm.specs.declared.machine.Fsm.{Fsm}
use Rattle.svtv_table.specs.declared.bound.Drive.{Drive}
use Rattle.svtv_unroll.specs.Unrolled.{HasDesign, HasSet}
use Rattle.svtv_machine.specs.Sets.{AreSetsOf}

module _ (flat : Flat) (sets : List (List ℕ)) where
  pub own_machine : (r : Result Fsm ComposeErr) → IfOk r (λ fsm. fsm.sets ≡ sets) → IfOk r (λ fsm. IsMachine flat sets fsm.flat.arena fsm.nodes) → IfOk r (λ fsm. IsMachine flat fsm.sets fsm.flat.arena fsm.nodes)
  own_machine (Ok fsm) same machine = subst (λ (s : List (List ℕ)). IsMachine flat s fsm.flat.arena fsm.nodes) (sym same) machine
  own_machine (Err e) same machine = tt

  pub has_design : (r : Result Fsm ComposeErr) → IsFlat flat → IfOk r (λ fsm. fsm.flat.wires ≡ flat.wires) → IfOk r (λ fsm. fsm.sets ≡ sets)
      → IfOk r (λ fsm. IsMachine flat sets fsm.flat.arena fsm.nodes) → IfOk r HasDesign
  has_design (Ok fsm) sound wires same machine = record {
    flat = flat;
    sound = sound;
    wires = sym wires;
    machine = subst (λ (s : List (List ℕ)). IsMachine flat s fsm.flat.arena fsm.nodes) (sym same) machine;
  }
  has_design (Err e) sound wires same machine = tt

  module _ (overs : List (ℕ × List (Option Drive))) (phases : ℕ) where
    pub has_sets : (r : Result Fsm ComposeErr) → IfOk r (λ fsm. fsm.sets ≡ sets) → ((phase : ℕ) → phase < phases → HasSet sets overs phase) → IfOk r (λ fsm. (phase : ℕ) → phase < phases → HasSet fsm.sets overs phase)
    has_sets (Ok fsm) same all = λ phase l. subst (λ (s : List (List ℕ)). HasSet s overs phase) (sym same) (all phase l)
    has_sets (Err e) same all = tt

    pub is_narrow : (r : Result Fsm ComposeErr) → AreSetsOf overs phases sets → IfOk r (λ fsm. AreNarrow flat sets (length sets))
        → IfOk r (λ fsm. (all : List (List ℕ)) × AreSetsOf overs phases all × AreNarrow flat all (length all))
    is_narrow (Ok fsm) own narrow = (sets, own, narrow)
    is_narrow (Err e) own narrow = tt
