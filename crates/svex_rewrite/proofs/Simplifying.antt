-- One turn of a simplification.
use Rattle.std.proofs.Common.{◌≡◌, ℕ, ◌+◌, ◌<◌, Bool, true, false, List, [], ◌∷◌, ◌++◌, length, get_or, sym, ap, ◌∙◌, subst, inl, inr, arith}
use Rattle.std.specs.Prelude.{slice_index}
use Rattle.std.proofs.lemmas.Bool.{cases_eq}
use Rattle.std.proofs.lemmas.List.{length-append, get_or_append_left}
use Rattle.std.proofs.Math.Seq.{get_or-append_seam}
use Rattle.svex_shape.specs.declared.shape.Shape.{Shape}
use Rattle.svex_shape.specs.Shapes.{OnChildren, ChildrenBelow, FitsWidths, shape_at, width_at, width_of}
use Rattle.svex_shape.specs.Values.{value_of, value_at, each_variable_of, each_variable}
use Rattle.svex_arena.specs.Arenas.{IsArena, Extends}
use Rattle.svex_arena.specs.Marks.{IsMarked, IsClosed}
use Rattle.svex_arena.specs.Substs.{renamed}
use Rattle.svex_arena.proofs.Numbering.{map_children, join_children}
use Rattle.svex_arena.proofs.Steps.{value-step, width-step, variables-step, value_reads, width_reads, value-extends, width-extends, variables-extends, fits_same}
use Rattle.svex_arena.proofs.Lifted.{variables_from_children}
use Rattle.svex_arena.proofs.Substituting.{width_renamed, fits_renamed, children_renamed}
use Rattle.svex_arena.proofs.Folds.{value_renamed, variables_renamed}
use Rattle.svex_rewrite.specs.Meaning.{IsOver, Makes, StandsFor, IsSimplified}

pub nothing_simple : (shapes : List Shape) (marks : List Bool) → IsArena shapes → length marks ≡ length shapes → IsClosed shapes marks 0 → IsSimplified (length shapes) shapes marks []
nothing_simple shapes marks i e c = record {
  arena = i;
  long = omega arith;
  size = e;
  closed = c;
  is = λ k l. absurd (omega arith);
}

simple_push : (len : ℕ) (shapes : List Shape) (marks : List Bool) (done : List ℕ) (n : ℕ) → IsSimplified len shapes marks done → (IsMarked marks (length done) → StandsFor shapes (length done) shapes n) → IsSimplified len shapes marks (done ++ n ∷ [])
simple_push len shapes marks done n u h = record {
  arena = u.arena;
  long = u.long;
  size = u.size;
  closed = u.closed;
  is = λ k l m is. elim (cases_eq k (length done)) [
    | inl same ↦ subst (λ i. StandsFor shapes i shapes (slice_index (done ++ n ∷ []) i)) (sym same) (subst (StandsFor shapes (length done) shapes) (sym (get_or-append_seam done n [] 0)) (h (subst (IsMarked marks) same is)))
    | inr not ↦
        let before : k < length done = omega (arith, length-append done (n ∷ [])) in
        subst (StandsFor shapes k shapes) (sym (get_or_append_left done (n ∷ []) 0 k before)) (u.is k before m is)
  ];
}

stands_on : (now next : List Shape) (k n : ℕ) → Extends now next → k < length now → StandsFor now k now n → StandsFor next k next n
stands_on now next k n e l s = record {
  within = omega (arith, s.within, e.longer);
  width = width-extends now next n e s.within ∙ s.width ∙ sym (width-extends now next k e l);
  value = λ r h. value-extends r now next n e s.within ∙ s.value r h ∙ sym (value-extends r now next k e l);
  mentions = λ p h. variables-extends p now next n e s.within ∙ s.mentions p (sym (variables-extends p now next k e l) ∙ h);
}

simple_on : (len : ℕ) (now next : List Shape) (marks : List Bool) (done : List ℕ) → IsSimplified len now marks done → IsArena next → Extends now next → IsSimplified len next marks done
simple_on len now next marks done u i e = record {
  arena = i;
  long = omega (arith, u.long, e.longer);
  size = u.size;
  closed = record {
    children = λ k from l is. subst (OnChildren (IsMarked marks)) (sym (e.same k (omega (arith, u.long, u.size)))) (u.closed.children k from l is);
  };
  is = λ k l m is. stands_on now next k (slice_index done k) e (omega (arith, u.long)) (u.is k l m is);
}

-- the children of the next node are stood for
children_simple : (len : ℕ) (shapes : List Shape) (marks : List Bool) (done : List ℕ) → IsSimplified len shapes marks done → length done < len → IsMarked marks (length done) → OnChildren (λ j. (j < length done) × StandsFor shapes j shapes (slice_index done j)) (shape_at shapes (length done))
children_simple len shapes marks done u h is =
    let s = shape_at shapes (length done) in
    map_children (λ j. (j < length done) × IsMarked marks j) (λ j. (j < length done) × StandsFor shapes j shapes (slice_index done j)) (λ j b. (b.0, u.is j b.0 (omega (arith, b.0)) b.1)) s (join_children (λ j. j < length done) (IsMarked marks) s (u.arena.children (length done) (omega (arith, u.long))) (u.closed.children (length done) (omega arith) (omega (arith, u.size)) is))

next_children : (len : ℕ) (shapes : List Shape) (marks : List Bool) (done : List ℕ) (s t : Shape) → IsSimplified len shapes marks done → length done < len → get_or marks (length done) false ≡ true → s ≡ shape_at shapes (length done) → t ≡ renamed (λ j. slice_index done j) s → ChildrenBelow (length shapes) t
next_children len shapes marks done s t u h is e q =
    subst (ChildrenBelow (length shapes)) (sym q) (subst (λ x. ChildrenBelow (length shapes) (renamed (λ j. slice_index done j) x)) (sym e) (children_renamed (λ n. n < length shapes) (λ j. slice_index done j) (shape_at shapes (length done)) (map_children (λ j. (j < length done) × StandsFor shapes j shapes (slice_index done j)) (λ j. slice_index done j < length shapes) (λ j b. b.1.within) (shape_at shapes (length done)) (children_simple len shapes marks done u h is))))

next_fits : (len : ℕ) (shapes : List Shape) (marks : List Bool) (done : List ℕ) (s t : Shape) → IsSimplified len shapes marks done → length done < len → get_or marks (length done) false ≡ true → s ≡ shape_at shapes (length done) → t ≡ renamed (λ j. slice_index done j) s → FitsWidths (width_at shapes) t
next_fits len shapes marks done s t u h is e q =
    subst (FitsWidths (width_at shapes)) (sym q) (subst (λ x. FitsWidths (width_at shapes) (renamed (λ j. slice_index done j) x)) (sym e) (fits_renamed (width_at shapes) (λ j. slice_index done j) (shape_at shapes (length done)) (fits_same (λ j. width_at shapes (slice_index done j)) (width_at shapes) (shape_at shapes (length done)) (map_children (λ j. (j < length done) × StandsFor shapes j shapes (slice_index done j)) (λ j. width_at shapes (slice_index done j) ≡ width_at shapes j) (λ j b. b.1.width) (shape_at shapes (length done)) (children_simple len shapes marks done u h is)) (u.arena.fits (length done) (omega (arith, u.long))))))

-- what rewriting the next node asks for
pub next_over : (len : ℕ) (shapes : List Shape) (marks : List Bool) (done : List ℕ) (s t : Shape) → IsSimplified len shapes marks done → length done < len → get_or marks (length done) false ≡ true → s ≡ shape_at shapes (length done) → t ≡ renamed (λ j. slice_index done j) s → IsOver shapes t
next_over len shapes marks done s t u h is e q = record {
  arena = u.arena;
  children = next_children len shapes marks done s t u h is e q;
  fits = next_fits len shapes marks done s t u h is e q;
}

pub next_unmarked : (len : ℕ) (shapes : List Shape) (marks : List Bool) (done : List ℕ) (n : ℕ) → IsSimplified len shapes marks done → get_or marks (length done) false ≡ false → IsSimplified len shapes marks (done ++ n ∷ [])
next_unmarked len shapes marks done n u not = simple_push len shapes marks done n u (λ is. cc)

pub next_made : (len : ℕ) (now next : List Shape) (marks : List Bool) (done : List ℕ) (s t : Shape) (n : ℕ) → IsSimplified len now marks done → length done < len → s ≡ shape_at now (length done) → t ≡ renamed (λ j. slice_index done j) s → IsArena next → Extends now next → Makes now t next n → IsSimplified len next marks (done ++ n ∷ [])
next_made len now next marks done s t n u h e q i x m =
    let k = length done in
    let f = λ (j : ℕ). slice_index done j in
    let here = shape_at now k in
    let is_t : t ≡ renamed f here = q ∙ ap (renamed f) e in
    let l : k < length now = omega (arith, u.long) in
    let children = u.arena.children k l in
    simple_push len next marks done n (simple_on len now next marks done u i x) (λ is.
    let stands = children_simple len now marks done u h is in
    record {
      within = m.within;
      width = m.width ∙ ap (width_of (width_at now)) is_t ∙ width_renamed (width_at now) f here ∙ width_reads (λ j. width_at now (f j)) (width_at now) here (map_children (λ j. (j < k) × StandsFor now j now (f j)) (λ j. width_at now (f j) ≡ width_at now j) (λ j b. b.1.width) here stands) ∙ sym (width-step now k children) ∙ sym (width-extends now next k x l);
      value = λ r w. m.value r w ∙ ap (value_of r (value_at r now)) is_t ∙ value_renamed r (value_at r now) f here ∙ value_reads r (λ j. value_at r now (f j)) (value_at r now) here (map_children (λ j. (j < k) × StandsFor now j now (f j)) (λ j. value_at r now (f j) ≡ value_at r now j) (λ j b. b.1.value r w) here stands) ∙ sym (value-step r now k children) ∙ sym (value-extends r now next k x l);
      mentions = λ p w.
          let was : each_variable_of p (each_variable p now) here ≡ true = sym (variables-step p now k children) ∙ sym (variables-extends p now next k x l) ∙ w in
          m.mentions p (ap (each_variable_of p (each_variable p now)) is_t ∙ variables_renamed p (each_variable p now) f here ∙ variables_from_children p (each_variable p now) (λ j. each_variable p now (f j)) here (map_children (λ j. (j < k) × StandsFor now j now (f j)) (λ j. each_variable p now j ≡ true → each_variable p now (f j) ≡ true) (λ j b. b.1.mentions p) here stands) was);
    })

pub stands_for : (old new : List Shape) (marks : List Bool) (done : List ℕ) (node n : ℕ) → Extends old new → node < length old → IsSimplified (length old) new marks done → length done ≡ node + 1 → IsMarked marks node → n ≡ slice_index done node → StandsFor old node new n
stands_for old new marks done node n e l u full is q =
    let s = u.is node (omega arith) l is in
    subst (StandsFor old node new) (sym q) (record {
      within = s.within;
      width = s.width ∙ width-extends old new node e l;
      value = λ r h. s.value r h ∙ value-extends r old new node e l;
      mentions = λ p h. s.mentions p (variables-extends p old new node e l ∙ h);
    })
