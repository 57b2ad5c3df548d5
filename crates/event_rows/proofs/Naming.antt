-- One node after another is looked at.
use Rattle.std.proofs.Common.{◌≡◌, ℕ, ◌+◌, ◌<◌, Bool, false, List, length, get_or, set, sym, ◌∙◌, subst, inl, inr, arith}
use Rattle.std.proofs.lemmas.Bool.{cases_eq}
use Rattle.std.proofs.lemmas.List.{get_or-set_same, get_or-set_other}
use Rattle.svex_shape.specs.declared.shape.Shape.{Shape}
use Rattle.svex_shape.specs.Shapes.{shape_at}
use Rattle.svex_arena.specs.Arenas.{IsArena}
use Rattle.svex_shape.specs.Values.{each_variable_of, each_variable}
use Rattle.svex_arena.proofs.Numbering.{map_children}
use Rattle.svex_arena.proofs.Steps.{variables_read, variables-step}
use Rattle.driver_resolve.specs.Drivers.{is_of_wires}
use Rattle.event_rows.specs.Sound.{AreNamed}

pub named-is : (widths : List ℕ) (shapes : List Shape) (done : List Bool) (n : ℕ) → IsArena shapes → n < length shapes → AreNamed widths shapes done n
    → each_variable_of (is_of_wires widths) (λ k. get_or done k false) (shape_at shapes n) ≡ each_variable (is_of_wires widths) shapes n
named-is widths shapes done n i h e =
    let p = is_of_wires widths in
    variables_read p (λ k. get_or done k false) (each_variable p shapes) (shape_at shapes n)
    (map_children (λ j. j < n) (λ j. get_or done j false ≡ each_variable p shapes j) (λ j b. e.is j b) (shape_at shapes n) (i.children n h))
    ∙ sym (variables-step p shapes n (i.children n h))

pub named-more : (widths : List ℕ) (shapes : List Shape) (done : List Bool) (n : ℕ) (v : Bool) → AreNamed widths shapes done n → n < length done → v ≡ each_variable (is_of_wires widths) shapes n
    → AreNamed widths shapes (set done n v) (n + 1)
named-more widths shapes done n v e l h = record {
  is = λ k lt. elim (cases_eq k n) [
    | inl same ↦ subst (λ j. get_or (set done n v) j false ≡ each_variable (is_of_wires widths) shapes j) (sym same) (get_or-set_same done n v false l ∙ h)
    | inr ne ↦ get_or-set_other done n k v false ne ∙ e.is k (omega (arith, lt, ne))
  ];
}
