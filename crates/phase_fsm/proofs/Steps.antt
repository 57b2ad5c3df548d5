-- One set more.
use Rattle.std.proofs.Common.{◌+◌, ◌≡◌, ◌<◌, ⊎_elim, ℕ, arith, List, [], ◌∷◌, ◌++◌, length, None, sym, subst}
use Rattle.std.proofs.lemmas.Bool.{cases_lt}
use Rattle.std.proofs.lemmas.List.{get_or_append_left, get_or_push}
use Rattle.svex_shape.specs.declared.shape.Shape.{Shape}
use Rattle.svex_arena.specs.Arenas.{Extends}
use Rattle.flat_net.specs.declared.flat.Flat.{Flat}
use Rattle.phase_fsm.specs.Machines.{AreWireNodes, row_of}
use Rattle.phase_fsm.specs.Sets.{HasGroups, AreNarrow}
use Rattle.phase_fsm.proofs.Growing.{wires-stay}

-- the nodes of the sets so far are kept, and those of one set more come behind them
pub rows-grow : (flat : Flat) (sets : List (List ℕ)) (old new : List Shape) (rows : List (List ℕ)) (row : List ℕ) → Extends old new
    → ((s : ℕ) → s < length rows → AreWireNodes flat (row_of sets s) old (row_of rows s)) → AreWireNodes flat (row_of sets (length rows)) new row
    → (s : ℕ) → s < length rows + 1 → AreWireNodes flat (row_of sets s) new (row_of (rows ++ row ∷ []) s)
rows-grow flat sets old new rows row e all one s l = ⊎_elim
    (λ before. subst (AreWireNodes flat (row_of sets s) new) (sym (get_or_append_left rows (row ∷ []) [] s before)) (wires-stay flat (row_of sets s) old new (row_of rows s) e (all s before)))
    (λ behind.
    let here : s ≡ length rows = omega (arith, l, behind) in
    subst (AreWireNodes flat (row_of sets s) new) (sym (get_or_push rows row [] s (sym here)))
    (subst (λ k. AreWireNodes flat (row_of sets k) new row) (sym here) one))
    (cases_lt s (length rows))

pub narrow-grows : (flat : Flat) (sets : List (List ℕ)) (k : ℕ) → AreNarrow flat sets k → HasGroups flat (row_of sets k) None → AreNarrow flat sets (k + 1)
narrow-grows flat sets k h one s l = ⊎_elim
    (λ before. h s before)
    (λ behind. let here : s ≡ k = omega (arith, l, behind) in subst (λ j. HasGroups flat (row_of sets j) None) (sym here) one)
    (cases_lt s k)
