-- A table whose sets have no wide group is not refused for one.
use Rattle.std.proofs.Common.{◌≡◌, ℕ, List, [], length, None, sym, ◌∙◌, subst}
use Rattle.std.specs.Prelude.{Option}
use Rattle.flat_net.specs.declared.flat.Flat.{Flat}
use Rattle.phase_fsm.specs.Machines.{row_of}
use Rattle.phase_fsm.specs.Sets.{HasGroups, AreNarrow, IsFirstWide}
use Rattle.phase_fsm.proofs.Excluding.{one-excludes}
use Rattle.svtv_table.specs.declared.bound.Drive.{Drive}
use Rattle.svtv_unroll.proofs.Choosing.{same_ascending}
use Rattle.svtv_machine.specs.Sets.{AreSetsOf}

pub narrow_excludes : (flat : Flat) (overs : List (ℕ × List (Option Drive))) (phases : ℕ) (sets more : List (List ℕ)) (bits : ℕ) → AreSetsOf overs phases sets → AreNarrow flat sets (length sets)
    → AreSetsOf overs phases more → IsFirstWide flat more bits → ⊥
narrow_excludes flat overs phases sets more bits a narrow b first =
    let over = row_of more first.set in
    let p = b.only first.set [] first.there in
    let h = a.all p.phase p.below in
    let same : row_of sets h.place ≡ over = same_ascending (row_of sets h.place) over h.ascending p.ascending (λ n. h.wires n ∙ sym (p.wires n)) in
    one-excludes flat over bits (subst (λ (o : List ℕ). HasGroups flat o None) same (narrow h.place h.there)) first.wide
