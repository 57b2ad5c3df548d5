-- One turn of an evaluation.
use Rattle.std.proofs.Common.{◌≡◌, ℕ, ◌+◌, ◌<◌, ◌≤◌, Bool, true, false, List, [], ◌∷◌, length, get_or, sym, ap, ◌∙◌, subst, inl, inr, arith}
use Rattle.std.specs.Prelude.{slice_set}
use Rattle.std.proofs.lemmas.Bool.{cases_eq}
use Rattle.std.proofs.lemmas.List.{get_or-set_same, get_or-set_other}
use Rattle.svex_shape.specs.declared.shape.Shape.{Shape}
use Rattle.svex_shape.specs.Shapes.{OnChildren, ChildrenBelow, FitsWidths, shape_at, width_at}
use Rattle.svex_shape.specs.Values.{Vector, Reading, HasWidths, value_of, value_at}
use Rattle.svex_arena.specs.Arenas.{IsArena}
use Rattle.svex_arena.specs.Marks.{IsMarked, IsClosed, HasRoots}
use Rattle.svex_arena.specs.Evaluated.{IsEvaluated, value_in, width_in}
use Rattle.svex_arena.proofs.Numbering.{map_children, join_children}
use Rattle.svex_arena.proofs.Steps.{value-step, value_reads, fits_same}
use Rattle.svex_arena.proofs.Widths.{length-value_at}

-- the children of the next node, where it is marked, are evaluated
children_evaluated : (r : Reading) (shapes : List Shape) (marks : List Bool) (done : List Vector) (n : ℕ) → IsArena shapes → length marks ≤ length shapes → IsClosed shapes marks 0 → n < length marks → IsEvaluated r shapes marks done n → IsMarked marks n → OnChildren (λ j. (j < n) × (value_in done j ≡ value_at r shapes j)) (shape_at shapes n)
children_evaluated r shapes marks done n i w c h e is =
    let s = shape_at shapes n in
    let earlier : ChildrenBelow n s = i.children n (omega arith) in
    let marked : OnChildren (IsMarked marks) s = c.children n (omega arith) h is in
    map_children (λ j. (j < n) × IsMarked marks j) (λ j. (j < n) × (value_in done j ≡ value_at r shapes j)) (λ j b. (b.0, e.is j b.0 b.1)) s (join_children (λ j. j < n) (IsMarked marks) s earlier marked)

pub next_fits : (r : Reading) (shapes : List Shape) (marks : List Bool) (done : List Vector) (n : ℕ) → HasWidths r → IsArena shapes → length marks ≤ length shapes → IsClosed shapes marks 0 → n < length marks → IsEvaluated r shapes marks done n → IsMarked marks n → FitsWidths (width_in done) (shape_at shapes n)
next_fits r shapes marks done n a i w c h e is =
    let s = shape_at shapes n in
    fits_same (width_in done) (width_at shapes) s
    (map_children (λ j. (j < n) × (value_in done j ≡ value_at r shapes j)) (λ j. width_in done j ≡ width_at shapes j) (λ j b. ap length b.1 ∙ length-value_at r shapes j a i (omega (arith, b.0))) s (children_evaluated r shapes marks done n i w c h e is))
    (i.fits n (omega arith))

pub next_is : (r : Reading) (shapes : List Shape) (marks : List Bool) (done : List Vector) (n : ℕ) → IsArena shapes → length marks ≤ length shapes → IsClosed shapes marks 0 → n < length marks → IsEvaluated r shapes marks done n → IsMarked marks n → value_of r (value_in done) (shape_at shapes n) ≡ value_at r shapes n
next_is r shapes marks done n i w c h e is =
    let s = shape_at shapes n in
    value_reads r (value_in done) (value_at r shapes) s (map_children (λ j. (j < n) × (value_in done j ≡ value_at r shapes j)) (λ j. value_in done j ≡ value_at r shapes j) (λ j b. b.1) s (children_evaluated r shapes marks done n i w c h e is)) ∙ sym (value-step r shapes n (i.children n (omega arith)))

pub evaluated_none : (r : Reading) (shapes : List Shape) (marks : List Bool) (done : List Vector) → IsEvaluated r shapes marks done 0
evaluated_none r shapes marks done = record { is = λ k h m. absurd (omega arith) }

pub evaluated_marked : (r : Reading) (shapes : List Shape) (marks : List Bool) (done : List Vector) (n : ℕ) (v : Vector) → IsEvaluated r shapes marks done n → n < length done → v ≡ value_at r shapes n → IsEvaluated r shapes marks (slice_set done n v) (n + 1)
evaluated_marked r shapes marks done n v e l h = record {
  is = λ k lt m. elim (cases_eq k n) [
    | inl same ↦ subst (λ j. value_in (slice_set done n v) j ≡ value_at r shapes j) (sym same) (get_or-set_same done n v [] l ∙ h)
    | inr ne ↦ get_or-set_other done n k v [] ne ∙ e.is k (omega arith) m
  ];
}

pub evaluated_unmarked : (r : Reading) (shapes : List Shape) (marks : List Bool) (done : List Vector) (n : ℕ) → IsEvaluated r shapes marks done n → get_or marks n false ≡ false → IsEvaluated r shapes marks done (n + 1)
evaluated_unmarked r shapes marks done n e off = record {
  is = λ k lt m. elim (cases_eq k n) [
    | inl same ↦ let on : get_or marks n false ≡ true = subst (λ j. get_or marks j false ≡ true) same m in cc
    | inr ne ↦ e.is k (omega arith) m
  ];
}

-- a root is evaluated
pub evaluated_root : (r : Reading) (shapes : List Shape) (marks : List Bool) (done : List Vector) (node : ℕ) → IsEvaluated r shapes marks done (length marks) → HasRoots (node ∷ []) marks 1 → node < length marks → value_in done node ≡ value_at r shapes node
evaluated_root r shapes marks done node e h l = e.is node l (h.marked_roots 0 (omega arith))
