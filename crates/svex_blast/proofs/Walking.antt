-- One turn of the walk over the nodes.
use Rattle.std.proofs.Common.{◌≡◌, ℕ, zero, suc, ◌+◌, ◌*◌, ◌<◌, ◌≤◌, Bool, true, false, max, cond, inl, inr, List, [], ◌∷◌, ◌++◌, length, get_or, refl, sym, ap, subst, ◌∙◌, arith}
use Rattle.std.proofs.lemmas.Bool.{cases_eq}
use Rattle.std.proofs.lemmas.List.{length_push, get_or_push, get_or_append_left}
use Rattle.aig.specs.declared.gate.Gate.{Gate}
use Rattle.aig.specs.Graph.{Grows, Obeys}
use Rattle.aig.proofs.Growth.{Obeys-older}
use Rattle.svex_shape.specs.declared.shape.VarName.{VarName}
use Rattle.svex_shape.specs.declared.shape.Shape.{Shape}
use Rattle.svex_shape.specs.declared.shape.Shape.TheVariants.{Const, Var, Unary, Binary, Cond, Pick, Slice, Zext, Sext, DynSlice, DynPut}
use Rattle.svex_shape.specs.Shapes.{OnChildren, FitsWidths, shape_at, width_at, width_of, unary_width, binary_width}
use Rattle.svex_shape.specs.Values.{Reading, value_of, value_at}
use Rattle.svex_arena.specs.Arenas.{IsArena}
use Rattle.svex_arena.specs.Marks.{IsMarked, IsClosed}
use Rattle.svex_arena.proofs.Numbering.{map_children, join_children, node_step}
use Rattle.svex_arena.proofs.Steps.{value-step, value_reads, width-step, width_reads, fits_same}
use Rattle.pair_words.specs.declared.pairs.Pair.{Pair}
use Rattle.pair_words.specs.Rails.{bits, IsVector}
use Rattle.svex_blast.specs.Sizes.{unary_gates, binary_gates, gates_of, gates_to}
use Rattle.svex_blast.specs.Reads.{reading_at, word_in, IsReady, AreVectors}
use Rattle.pair_words.proofs.Growing.{wired-later}
use Rattle.svex_blast.specs.Knowns.{known_of, is_declared, is_known_node, are_twins, AreShared}
use Rattle.svex_blast.proofs.Knowing.{known_rises}

gates_reads : (f g : ℕ → ℕ) (s : Shape) → OnChildren (λ k. f k ≡ g k) s → gates_of f s ≡ gates_of g s
gates_reads f g (Const v) h = refl
gates_reads f g (Var name width) h = refl
gates_reads f g (Unary op a) h = λ i. unary_gates op (max (unary_width op (h i)) (h i))
gates_reads f g (Binary op a b) h = λ i. binary_gates op (max (binary_width op (h.0 i) (h.1 i)) (max (h.0 i) (h.1 i)))
gates_reads f g (Cond c a b) h = λ i. 256 * max (h.0 i) (max (h.1 i) (h.2 i)) * max (h.0 i) (max (h.1 i) (h.2 i))
gates_reads f g (Pick c a b) h = λ i. 256 * max (h.0 i) (max (h.1 i) (h.2 i)) * max (h.0 i) (max (h.1 i) (h.2 i))
gates_reads f g (Slice a lo width) h = refl
gates_reads f g (Zext a width) h = refl
gates_reads f g (Sext a width) h = refl
gates_reads f g (DynSlice a at spot) h = λ i. 256 * max spot.width (max (h.0 i) (h.1 i)) * max spot.width (max (h.0 i) (h.1 i))
gates_reads f g (DynPut a at spot put) h = λ i. 256 * max (h.0 i) (max (h.1 i) (h.2 i)) * max (h.0 i) (max (h.1 i) (h.2 i))

-- the children of the next node, where it is marked, have their vectors
children_marked : (shapes : List Shape) (marks : List Bool) (n : ℕ) → IsArena shapes → length marks ≡ length shapes → IsClosed shapes marks 0 → n < length marks → IsMarked marks n → OnChildren (λ j. (j < n) × IsMarked marks j) (shape_at shapes n)
children_marked shapes marks n arena wide closed lt is =
    join_children (λ j. j < n) (IsMarked marks) (shape_at shapes n) (arena.children n (omega arith)) (closed.children n (omega arith) lt is)

pub next_ready : (shapes : List Shape) (marks : List Bool) (vars : List (List Pair)) (gates : List Gate) (done : List (List Pair)) → IsArena shapes → length marks ≡ length shapes → IsClosed shapes marks 0 → length done < length marks →
    IsMarked marks (length done) → AreVectors shapes marks vars gates done → OnChildren (IsReady gates done) (shape_at shapes (length done))
next_ready shapes marks vars gates done arena wide closed lt is so =
    map_children (λ j. (j < length done) × IsMarked marks j) (IsReady gates done)
    (λ j h. record { some = subst (λ n. 0 < n) (sym (so.long j h.0 h.1)) (arena.some j (omega (arith, h.0))); inside = so.inside j h.0 h.1 })
    (shape_at shapes (length done)) (children_marked shapes marks (length done) arena wide closed lt is)

pub wide_children : (shapes : List Shape) (marks : List Bool) (vars : List (List Pair)) (gates : List Gate) (done : List (List Pair)) → IsArena shapes → length marks ≡ length shapes → IsClosed shapes marks 0 → length done < length marks →
    IsMarked marks (length done) → AreVectors shapes marks vars gates done → OnChildren (λ k. length (word_in done k) ≡ width_at shapes k) (shape_at shapes (length done))
wide_children shapes marks vars gates done arena wide closed lt is so =
    map_children (λ j. (j < length done) × IsMarked marks j) (λ k. length (word_in done k) ≡ width_at shapes k) (λ j h. so.long j h.0 h.1)
    (shape_at shapes (length done)) (children_marked shapes marks (length done) arena wide closed lt is)

pub next_fits : (shapes : List Shape) (marks : List Bool) (vars : List (List Pair)) (gates : List Gate) (done : List (List Pair)) → IsArena shapes → length marks ≡ length shapes → IsClosed shapes marks 0 → length done < length marks →
    IsMarked marks (length done) → AreVectors shapes marks vars gates done → FitsWidths (λ k. length (word_in done k)) (shape_at shapes (length done))
next_fits shapes marks vars gates done arena wide closed lt is so =
    fits_same (λ k. length (word_in done k)) (width_at shapes) (shape_at shapes (length done)) (wide_children shapes marks vars gates done arena wide closed lt is so) (arena.fits (length done) (omega arith))

pub next_gates : (shapes : List Shape) (marks : List Bool) (vars : List (List Pair)) (gates : List Gate) (done : List (List Pair)) → IsArena shapes → length marks ≡ length shapes → IsClosed shapes marks 0 → length done < length marks →
    IsMarked marks (length done) → AreVectors shapes marks vars gates done → gates_of (λ k. length (word_in done k)) (shape_at shapes (length done)) ≡ gates_of (width_at shapes) (shape_at shapes (length done))
next_gates shapes marks vars gates done arena wide closed lt is so =
    gates_reads (λ k. length (word_in done k)) (width_at shapes) (shape_at shapes (length done)) (wide_children shapes marks vars gates done arena wide closed lt is so)

pub next_width : (shapes : List Shape) (marks : List Bool) (vars : List (List Pair)) (gates : List Gate) (done : List (List Pair)) → IsArena shapes → length marks ≡ length shapes → IsClosed shapes marks 0 → length done < length marks →
    IsMarked marks (length done) → AreVectors shapes marks vars gates done → width_of (λ k. length (word_in done k)) (shape_at shapes (length done)) ≡ width_at shapes (length done)
next_width shapes marks vars gates done arena wide closed lt is so =
    width_reads (λ k. length (word_in done k)) (width_at shapes) (shape_at shapes (length done)) (wide_children shapes marks vars gates done arena wide closed lt is so) ∙
    sym (width-step shapes (length done) (arena.children (length done) (omega arith)))

pub next_value : (shapes : List Shape) (marks : List Bool) (vars : List (List Pair)) (gates : List Gate) (done : List (List Pair)) (v : ℕ → Bool) → IsArena shapes → length marks ≡ length shapes → IsClosed shapes marks 0 → length done < length marks →
    IsMarked marks (length done) → AreVectors shapes marks vars gates done → Obeys v gates → value_of (reading_at v vars) (λ k. bits v (word_in done k)) (shape_at shapes (length done)) ≡ value_at (reading_at v vars) shapes (length done)
next_value shapes marks vars gates done v arena wide closed lt is so o =
    let r : Reading = reading_at v vars in
    value_reads r (λ k. bits v (word_in done k)) (value_at r shapes) (shape_at shapes (length done))
    (map_children (λ j. (j < length done) × IsMarked marks j) (λ k. bits v (word_in done k) ≡ value_at r shapes k) (λ j h. so.is j h.0 h.1 v o)
    (shape_at shapes (length done)) (children_marked shapes marks (length done) arena wide closed lt is)) ∙
    sym (value-step r shapes (length done) (arena.children (length done) (omega arith)))

pub vectors_none : (shapes : List Shape) (marks : List Bool) (vars : List (List Pair)) (gates : List Gate) → AreVectors shapes marks vars gates []
vectors_none shapes marks vars gates = record {
  long = λ k lt m. absurd (omega arith);
  inside = λ k lt m. absurd (omega arith);
  is = λ k lt m v o. absurd (omega arith);
}

-- one vector more, in a graph that has grown
pub vectors_more : (shapes : List Shape) (marks : List Bool) (vars : List (List Pair)) (old new : List Gate) (done : List (List Pair)) (n : ℕ) (word : List Pair) → n ≡ length done → Grows old new → AreVectors shapes marks vars old done →
    (IsMarked marks n → IsVector new (width_at shapes n) word) → (IsMarked marks n → (v : ℕ → Bool) → Obeys v new → bits v word ≡ value_at (reading_at v vars) shapes n) →
    AreVectors shapes marks vars new (done ++ word ∷ [])
vectors_more shapes marks vars old new done n word e g so fits is = record {
  long = λ k lt m. elim (cases_eq k n) [
    | inl same ↦ rw (get_or_push done word [] k (sym (same ∙ e))) (subst (λ j. length word ≡ width_at shapes j) (sym same) ((fits (subst (IsMarked marks) same m)).long))
    | inr ne ↦ let below : k < length done = omega (arith, length_push done word, e) in rw (get_or_append_left done (word ∷ []) [] k below) (so.long k below m)
  ];
  inside = λ k lt m. elim (cases_eq k n) [
    | inl same ↦ rw (get_or_push done word [] k (sym (same ∙ e))) ((fits (subst (IsMarked marks) same m)).inside)
    | inr ne ↦ let below : k < length done = omega (arith, length_push done word, e) in rw (get_or_append_left done (word ∷ []) [] k below) (wired-later old new (word_in done k) g (so.inside k below m))
  ];
  is = λ k lt m v o. elim (cases_eq k n) [
    | inl same ↦ rw (get_or_push done word [] k (sym (same ∙ e))) (subst (λ j. bits v word ≡ value_at (reading_at v vars) shapes j) (sym same) (is (subst (IsMarked marks) same m) v o))
    | inr ne ↦ let below : k < length done = omega (arith, length_push done word, e) in rw (get_or_append_left done (word ∷ []) [] k below) (so.is k below m v (Obeys-older v old new g o))
  ];
}

pub gates_more : (shapes : List Shape) (marks : List Bool) (n : ℕ) → gates_to shapes marks (n + 1) ≡ gates_to shapes marks n + cond (get_or marks n false) (gates_of (width_at shapes) (shape_at shapes n)) 0
unfolding gates_to
gates_more shapes marks n = ap (gates_to shapes marks) (let e : n + 1 ≡ suc n = omega arith in e)

pub gates_none : (shapes : List Shape) (marks : List Bool) → gates_to shapes marks 0 ≡ 0
unfolding gates_to
gates_none shapes marks = refl

pub gates_rise : (shapes : List Shape) (marks : List Bool) (n m : ℕ) → n ≤ m → gates_to shapes marks n ≤ gates_to shapes marks m
unfolding gates_to
gates_rise shapes marks n zero le = ap_le (gates_to shapes marks) n zero (omega arith)
  where
    ap_le : (f : ℕ → ℕ) (n m : ℕ) → n ≡ m → f n ≤ f m
    ap_le f n m e = subst (λ k. f n ≤ f k) e (omega arith)
gates_rise shapes marks n (suc m) le = elim (cases_eq n (suc m)) [
  | inl same ↦ subst (λ k. gates_to shapes marks n ≤ gates_to shapes marks k) same (omega arith)
  | inr ne ↦ let h = gates_rise shapes marks n m (omega arith) in omega (arith, h)
]

-- ---- known bits

known_reads : (has : VarName → ℕ → Bool) (w : ℕ → ℕ) (f g : ℕ → Bool) (s : Shape) → OnChildren (λ k. f k ≡ g k) s → known_of has w f s ≡ known_of has w g s
unfolding known_of
known_reads has w f g (Const v) h = refl
known_reads has w f g (Var name width) h = refl
known_reads has w f g (Unary op a) h = cc
known_reads has w f g (Binary op a b) h = cc
known_reads has w f g (Cond c a b) h = cc
known_reads has w f g (Pick c a b) h = cc
known_reads has w f g (Slice a lo width) h = cc
known_reads has w f g (Zext a width) h = cc
known_reads has w f g (Sext a width) h = cc
known_reads has w f g (DynSlice a at spot) h = cc
known_reads has w f g (DynPut a at spot put) h = cc

pub next_shared : (widths : List ℕ) (shapes : List Shape) (marks : List Bool) (done : List (List Pair)) → IsArena shapes → length marks ≡ length shapes → IsClosed shapes marks 0 → length done < length marks → IsMarked marks (length done) →
    AreShared widths shapes marks done → is_known_node widths shapes (length done) ≡ true → known_of (is_declared widths) (width_at shapes) (λ k. are_twins (word_in done k)) (shape_at shapes (length done)) ≡ true
next_shared widths shapes marks done arena wide closed lt is so known =
    let has : VarName → ℕ → Bool = is_declared widths in
    known_rises has (width_at shapes) (is_known_node widths shapes) (λ k. are_twins (word_in done k)) (shape_at shapes (length done))
    (map_children (λ j. (j < length done) × IsMarked marks j) (λ k. is_known_node widths shapes k ≡ true → are_twins (word_in done k) ≡ true) (λ j h. so.shared j h.0 h.1)
    (shape_at shapes (length done)) (children_marked shapes marks (length done) arena wide closed lt is))
    (sym (node_step (known_of has (width_at shapes)) false (known_reads has (width_at shapes)) shapes (length done) (arena.children (length done) (omega arith))) ∙ known)

pub shared_none : (widths : List ℕ) (shapes : List Shape) (marks : List Bool) → AreShared widths shapes marks []
shared_none widths shapes marks = record { shared = λ k lt m e. absurd (omega arith) }

pub shared_more : (widths : List ℕ) (shapes : List Shape) (marks : List Bool) (done : List (List Pair)) (n : ℕ) (word : List Pair) → n ≡ length done → AreShared widths shapes marks done →
    (IsMarked marks n → is_known_node widths shapes n ≡ true → are_twins word ≡ true) → AreShared widths shapes marks (done ++ word ∷ [])
shared_more widths shapes marks done n word e so is = record {
  shared = λ k lt m known. elim (cases_eq k n) [
    | inl same ↦ rw (get_or_push done word [] k (sym (same ∙ e))) (is (subst (IsMarked marks) same m) (subst (λ j. is_known_node widths shapes j ≡ true) same known))
    | inr ne ↦ let below : k < length done = omega (arith, length_push done word, e) in rw (get_or_append_left done (word ∷ []) [] k below) (so.shared k below m known)
  ];
}
