-- The lists of nodes and equations, put together.
use Rattle.std.proofs.Common.{◌≡◌, ℕ, ◌+◌, ◌-◌, ◌<◌, Bool, List, [], ◌∷◌, ◌++◌, length, map, get_or, sym, ap, ◌∙◌, subst, inl, inr, arith, false, true, cond, refl}
use Rattle.std.specs.Prelude.{IsTrue, slice_index}
use Rattle.std.proofs.lemmas.Bool.{cases_eq, cases_lt, false≢true}
use Rattle.std.proofs.lemmas.List.{length-map, length-append, get_or-map, get_or_append_left, get_or-append_right, get_or_push, length_push, append-nil}
use Rattle.lhs_alias.specs.declared.segs.Seg.{Seg}
use Rattle.lhs_alias.specs.Segs.{IsSeg}
use Rattle.lhs_alias.specs.Joined.{Kept}
use Rattle.svex_shape.specs.declared.shape.Shape.{Shape}
use Rattle.svex_shape.specs.declared.shape.Shape.TheVariants.{Var}
use Rattle.svex_shape.specs.declared.shape.VarName.{VarName}
use Rattle.svex_shape.specs.Shapes.{shape_at}
use Rattle.svex_shape.specs.Values.{each_variable, each_variable_of}
use Rattle.svex_arena.specs.Arenas.{IsArena}
use Rattle.svex_arena.specs.Marks.{IsReached, IsMarked, HasRoots, IsClosed, OnlyReached}
use Rattle.svex_arena.proofs.Numbering.{map_children, join_children}
use Rattle.svex_arena.proofs.Steps.{variables_follow}
use Rattle.driver_resolve.specs.declared.driver.NetEq.{NetEq}
use Rattle.driver_resolve.specs.declared.driver.Resolved.{Resolved}
use Rattle.net_equations.specs.Equations.{IsEq, IsResolved, is_of_phase}
use Rattle.net_order.specs.Rows.{segs_in, values_in, IsNodeRow, AreRows, AreMarked, IsUsed}
use Rattle.net_order.proofs.Leading.{Passes, passes-step, reached-have}

pub var-passes : (p : VarName → ℕ → Bool) (shapes : List Shape) (k : ℕ) (name : VarName) (w : ℕ) → IsArena shapes → k < length shapes → shape_at shapes k ≡ Var name w → IsTrue (each_variable p shapes k) → IsTrue (p name w)
unfolding each_variable_of
var-passes p shapes k name w a lt is h = sym (variables_follow p shapes k a lt ∙ ap (each_variable_of p (each_variable p shapes)) is) ∙ h

-- one list more
pub rows-more : (P : ℕ → List ℕ → Type 0) (old new : List (List ℕ)) (row : List ℕ) (n : ℕ) → length old ≡ n → new ≡ old ++ row ∷ []
    → ((p : ℕ) → p < n → P p (get_or old p [])) → P n row → (p : ℕ) → p < n + 1 → P p (get_or new p [])
rows-more P old new row n size e h here p lt = elim (cases_eq p n) [
  | inl is ↦ subst (P p) (sym (ap (λ l. get_or l p []) e ∙ get_or_push old row [] p (size ∙ sym is))) (subst (λ j. P j row) (sym is) here)
  | inr ne ↦ let l : p < n = omega (arith, lt, ne) in subst (P p) (sym (ap (λ x. get_or x p []) e ∙ get_or_append_left old (row ∷ []) [] p (omega (arith, l, size)))) (h p l)
]

-- ---- the marked nodes

pub marked_none : (marks : List Bool) (nodes places : List ℕ) → nodes ≡ [] → places ≡ [] → AreMarked marks nodes places 0
marked_none marks nodes places e f = record {
  size = ap (λ l. length l) f;
  only = λ p lt. absurd (omega (arith, lt, ap (λ l. length l) e));
  all = λ k lt m. absurd (omega (arith, lt));
}

pub marked_more : (marks : List Bool) (nodes places nodes2 places2 : List ℕ) (n : ℕ) (mark : Bool) → AreMarked marks nodes places n → get_or marks n false ≡ mark
    → places2 ≡ places ++ length nodes ∷ [] → nodes2 ≡ nodes ++ cond mark (n ∷ []) [] → AreMarked marks nodes2 places2 (n + 1)
marked_more marks nodes places nodes2 places2 n true h is e f = record {
  size = ap (λ l. length l) e ∙ length_push places (length nodes) ∙ ap (λ x. x + 1) h.size;
  only = λ p lt. elim (cases_lt p (length nodes)) [
    | inl old ↦ let o = h.only p old in let same : slice_index nodes2 p ≡ slice_index nodes p = ap (λ l. get_or l p 0) f ∙ get_or_append_left nodes (n ∷ []) 0 p old in
        (omega (arith, o.0, same), subst (IsMarked marks) (sym same) o.1)
    | inr past ↦
        let last : p ≡ length nodes = omega (arith, past, lt, ap (λ l. length l) f, length_push nodes n) in
        let same : slice_index nodes2 p ≡ n = ap (λ l. get_or l p 0) f ∙ get_or_push nodes n 0 p (sym last) in
        (omega (arith, same), subst (IsMarked marks) (sym same) is)
  ];
  all = λ k lt m. elim (cases_eq k n) [
    | inl this ↦
        let at : slice_index places2 k ≡ length nodes = ap (λ l. get_or l k 0) e ∙ get_or_push places (length nodes) 0 k (h.size ∙ sym this) in
        (omega (arith, at, ap (λ l. length l) f, length_push nodes n), ap (slice_index nodes2) at ∙ ap (λ l. get_or l (length nodes) 0) f ∙ get_or_push nodes n 0 (length nodes) refl ∙ sym this)
    | inr ne ↦
        let l : k < n = omega (arith, lt, ne) in
        let o = h.all k l m in
        let at : slice_index places2 k ≡ slice_index places k = ap (λ x. get_or x k 0) e ∙ get_or_append_left places (length nodes ∷ []) 0 k (omega (arith, l, h.size)) in
        (omega (arith, o.0, at, ap (λ x. length x) f, length_push nodes n), ap (slice_index nodes2) at ∙ ap (λ x. get_or x (slice_index places k) 0) f ∙ get_or_append_left nodes (n ∷ []) 0 (slice_index places k) o.0 ∙ o.1)
  ];
}
marked_more marks nodes places nodes2 places2 n false h is e f =
    let same : nodes2 ≡ nodes = f ∙ append-nil nodes in
    subst (λ l. AreMarked marks l places2 (n + 1)) (sym same) (record {
      size = ap (λ l. length l) e ∙ length_push places (length nodes) ∙ ap (λ x. x + 1) h.size;
      only = λ p lt. let o = h.only p lt in (omega (arith, o.0), o.1);
      all = λ k lt m. elim (cases_eq k n) [
        | inl this ↦ absurd (false≢true (sym is ∙ ap (λ x. get_or marks x false) (sym this) ∙ m))
        | inr ne ↦
            let l : k < n = omega (arith, lt, ne) in
            let o = h.all k l m in
            let at : slice_index places2 k ≡ slice_index places k = ap (λ x. get_or x k 0) e ∙ get_or_append_left places (length nodes ∷ []) 0 k (omega (arith, l, h.size)) in
            (omega (arith, o.0, at), ap (slice_index nodes) at ∙ o.1)
      ];
    })

-- ---- of resolved equations

no-eq : NetEq
no-eq = record { seg = record { wire = 0; lo = 0; width = 0 }; value = 0 }

value-at : (eqs : List NetEq) (i : ℕ) → i < length eqs → slice_index (values_in eqs) i ≡ (get_or eqs i no-eq).value
value-at eqs i lt = get_or-map (λ (e : NetEq). e.value) eqs i no-eq 0 lt

module _ (kept : Kept) (shapes : List Shape) (set : Resolved) (arena : IsArena shapes) (resolved : IsResolved kept shapes set) where
  eq-at : (i : ℕ) → i < length set.eqs → IsEq kept.widths shapes (get_or set.eqs i no-eq)
  eq-at i lt = resolved.eqs i no-eq lt

  pub value-there : (i : ℕ) → i < length set.eqs → slice_index (values_in set.eqs) i < length shapes
  value-there i lt = subst (λ v. v < length shapes) (sym (value-at set.eqs i lt)) (eq-at i lt).there

  pub root-there : (i : ℕ) → i < length (values_in set.eqs) → slice_index (values_in set.eqs) i < length shapes
  root-there i lt = value-there i (omega (arith, lt, length-map set.eqs (λ (e : NetEq). e.value)))

  pub segs-good : (k : ℕ) (d : Seg) → k < length (segs_in set.eqs) → IsSeg (get_or (segs_in set.eqs) k d)
  segs-good k d lt =
      let l : k < length set.eqs = omega (arith, lt, length-map set.eqs (λ (e : NetEq). e.seg)) in
      subst IsSeg (sym (get_or-map (λ (e : NetEq). e.seg) set.eqs k no-eq d l)) (eq-at k l).lies.whole

  pub used-passes : (k : ℕ) → IsReached shapes (values_in set.eqs) k → Passes (is_of_phase kept.widths) shapes k
  used-passes k r = reached-have (Passes (is_of_phase kept.widths) shapes) shapes (values_in set.eqs)
      (λ i lt. let l : i < length set.eqs = omega (arith, lt, length-map set.eqs (λ (e : NetEq). e.value)) in
      record { there = value-there i l; each = subst (λ v. IsTrue (each_variable (is_of_phase kept.widths) shapes v)) (sym (value-at set.eqs i l)) (eq-at i l).mentions })
      (passes-step (is_of_phase kept.widths) shapes arena) k r

  pub marked-passes : (marks : List Bool) → OnlyReached shapes (values_in set.eqs) marks → (k : ℕ) → IsMarked marks k → IsTrue (each_variable (is_of_phase kept.widths) shapes k)
  marked-passes marks only k mark = (used-passes k (only.reached k mark)).each

  pub used-there : (marks : List Bool) (used places : List ℕ) → length marks ≡ length shapes → AreMarked marks used places (length marks) → (p : ℕ) → p < length used → slice_index used p < length shapes
  used-there marks used places long are p lt = omega (arith, (are.only p lt).0, long)

  pub used-variables : (marks : List Bool) (used places : List ℕ) → OnlyReached shapes (values_in set.eqs) marks → AreMarked marks used places (length marks)
      → (p : ℕ) → p < length used → IsTrue (each_variable (is_of_phase kept.widths) shapes (slice_index used p))
  used-variables marks used places only are p lt = marked-passes marks only (slice_index used p) (are.only p lt).1

  -- a used node is there, and it is marked
  pub record IsMarkedNode (marks : List Bool) (k : ℕ) : Type 0 where
    pub there : k < length shapes
    pub mark : IsMarked marks k

  used-marked : (marks : List Bool) → length marks ≡ length shapes → HasRoots (values_in set.eqs) marks (length (values_in set.eqs)) → IsClosed shapes marks 0
      → (i : ℕ) → i < length set.eqs → (k : ℕ) → IsReached shapes (slice_index (values_in set.eqs) i ∷ []) k → IsMarkedNode marks k
  used-marked marks long roots closed i lt k r =
      let v : ℕ = slice_index (values_in set.eqs) i in
      reached-have (IsMarkedNode marks) shapes (v ∷ [])
      (λ j jl. let z : j ≡ 0 = omega (arith, jl) in
      subst (λ n. IsMarkedNode marks (slice_index (v ∷ []) n)) (sym z) (record { there = value-there i lt; mark = roots.marked_roots i (omega (arith, lt, length-map set.eqs (λ (e : NetEq). e.value))) }))
      (λ j m.
      map_children (λ n. (n < j) × IsMarked marks n) (IsMarkedNode marks) (λ n b. record { there = omega (arith, b.0, m.there); mark = b.1 }) (shape_at shapes j)
      (join_children (λ n. n < j) (IsMarked marks) (shape_at shapes j) (arena.children j m.there) (closed.children j (omega arith) (omega (arith, m.there, long)) m.mark))) k r

  pub rows-all : (marks : List Bool) (used places : List ℕ) (nodes rows : List (List ℕ)) → length marks ≡ length shapes → HasRoots (values_in set.eqs) marks (length (values_in set.eqs)) → IsClosed shapes marks 0
      → AreMarked marks used places (length marks) → length nodes ≡ length used
      → ((p : ℕ) → p < length used → IsNodeRow kept (segs_in set.eqs) (length used) (slice_index places) (shape_at shapes (slice_index used p)) (get_or nodes p []))
      → rows ≡ nodes ++ map (λ v. slice_index places v ∷ []) (values_in set.eqs) → AreRows kept shapes set.eqs (length used) rows
  rows-all marks used places nodes rows long roots closed are size each e = record {
    place = slice_index places;
    size = ap (λ l. length l) e ∙ length-append nodes (map (λ v. slice_index places v ∷ []) (values_in set.eqs))
        ∙ (λ i. size i + (length-map (values_in set.eqs) (λ (v : ℕ). slice_index places v ∷ []) ∙ length-map set.eqs (λ (q : NetEq). q.value)) i);
    below = λ k u. (place-of k u).0;
    node = λ k u.
        let o = place-of k u in
        subst (IsNodeRow kept (segs_in set.eqs) (length used) (slice_index places) (shape_at shapes k))
        (sym (ap (λ l. get_or l (slice_index places k) []) e ∙ get_or_append_left nodes (map (λ v. slice_index places v ∷ []) (values_in set.eqs)) [] (slice_index places k) (omega (arith, o.0, size))))
        (subst (λ j. IsNodeRow kept (segs_in set.eqs) (length used) (slice_index places) (shape_at shapes j) (get_or nodes (slice_index places k) [])) o.1 (each (slice_index places k) o.0));
    value = λ i lt.
        let at : length used + i - length used ≡ i = omega arith in
        ap (λ l. get_or l (length used + i) []) e ∙ get_or-append_right nodes (map (λ v. slice_index places v ∷ []) (values_in set.eqs)) (length used) (length used + i) [] size (omega arith)
        ∙ ap (λ n. get_or (map (λ v. slice_index places v ∷ []) (values_in set.eqs)) n []) at
        ∙ get_or-map (λ (v : ℕ). slice_index places v ∷ []) (values_in set.eqs) i 0 [] (omega (arith, lt, length-map set.eqs (λ (q : NetEq). q.value)));
  }
    where
      place-of : (k : ℕ) → IsUsed shapes set.eqs k → (slice_index places k < length used) × (slice_index used (slice_index places k) ≡ k)
      place-of k u =
          let m = used-marked marks long roots closed u.eq u.there k u.reached in
          are.all k (omega (arith, m.there, long)) m.mark
