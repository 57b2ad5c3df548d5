-- One turn of a substitution, and what it keeps.
use Rattle.std.proofs.Common.{◌≡◌, ℕ, ◌+◌, ◌<◌, ◌≤◌, ◌&&◌, Bool, true, false, cond, eqb, ltb, List, [], ◌∷◌, ◌++◌, length, get_or, Option, None, Some, refl, sym, ap, ◌∙◌, subst, inl, inr, arith}
use Rattle.std.specs.Prelude.{slice_index}
use Rattle.std.proofs.lemmas.Bool.{cases_eq, eqb-true, ltb-true}
use Rattle.std.proofs.lemmas.List.{length-append, get_or_append_left}
use Rattle.std.proofs.Math.Seq.{get_or-append_seam}
use Rattle.svex_shape.specs.declared.shape.VarName.{VarName}
use Rattle.svex_shape.specs.declared.shape.Shape.{Shape}
use Rattle.svex_shape.specs.declared.shape.Shape.TheVariants.{Const, Var, Unary, Binary, Cond, Pick, Slice, Zext, Sext, DynSlice, DynPut}
use Rattle.svex_shape.specs.Shapes.{OnChildren, ChildrenBelow, FitsWidths, shape_at, width_at, width_of, at_node}
use Rattle.svex_shape.specs.Values.{Vector, value_of, value_at, each_variable_of}
use Rattle.svex_arena.specs.Arenas.{IsArena, Extends, Interned}
use Rattle.svex_arena.specs.Marks.{IsMarked, IsClosed, HasRoots}
use Rattle.svex_arena.specs.Substs.{Replacements, replacement_of, is_fitting, fitting, fits_variable, given_or, replaced, replaced_by_named, replacement_at, renamed, AnswersBy, AreAnswers, IsReplaced, IsReplacedByNamed, IsAnsweredSoFar, IsSubstituted, IsPicked, HasAnswers}
use Rattle.svex_arena.proofs.Numbering.{map_children, join_children, every_node, node_step, node_same}
use Rattle.svex_arena.proofs.Steps.{width-step, width_reads, width-extends, fits_same}
use Rattle.svex_arena.proofs.Folds.{IsFold, fold_same, value_folds, variables_fold}
use Rattle.svex_arena.proofs.Lifted.{values_alike}
use Rattle.svex_arena.proofs.Marking.{reached_marked}

-- ---- a shape over other children

pub width_renamed : (w : ℕ → ℕ) (f : ℕ → ℕ) (s : Shape) → width_of w (renamed f s) ≡ width_of (λ j. w (f j)) s
unfolding width_of
width_renamed w f (Const v) = refl
width_renamed w f (Var name width) = refl
width_renamed w f (Unary op a) = refl
width_renamed w f (Binary op a b) = refl
width_renamed w f (Cond c a b) = refl
width_renamed w f (Pick c a b) = refl
width_renamed w f (Slice a lo width) = refl
width_renamed w f (Zext a width) = refl
width_renamed w f (Sext a width) = refl
width_renamed w f (DynSlice a at spot) = refl
width_renamed w f (DynPut a at spot put) = refl

pub fits_renamed : (w : ℕ → ℕ) (f : ℕ → ℕ) (s : Shape) → FitsWidths (λ j. w (f j)) s → FitsWidths w (renamed f s)
fits_renamed w f (Const v) h = h
fits_renamed w f (Var name width) h = h
fits_renamed w f (Unary op a) h = h
fits_renamed w f (Binary op a b) h = h
fits_renamed w f (Cond c a b) h = h
fits_renamed w f (Pick c a b) h = h
fits_renamed w f (Slice a lo width) h = h
fits_renamed w f (Zext a width) h = h
fits_renamed w f (Sext a width) h = h
fits_renamed w f (DynSlice a at spot) h = h
fits_renamed w f (DynPut a at spot put) h = h

pub children_renamed : (P : ℕ → Type 0) (f : ℕ → ℕ) (s : Shape) → OnChildren (λ j. P (f j)) s → OnChildren P (renamed f s)
children_renamed P f (Const v) h = h
children_renamed P f (Var name width) h = h
children_renamed P f (Unary op a) h = h
children_renamed P f (Binary op a b) h = h
children_renamed P f (Cond c a b) h = h
children_renamed P f (Pick c a b) h = h
children_renamed P f (Slice a lo width) h = h
children_renamed P f (Zext a width) h = h
children_renamed P f (Sext a width) h = h
children_renamed P f (DynSlice a at spot) h = h
children_renamed P f (DynPut a at spot put) h = h

renamed_same : (f g : ℕ → ℕ) (s : Shape) → OnChildren (λ j. f j ≡ g j) s → renamed f s ≡ renamed g s
renamed_same f g (Const v) h = refl
renamed_same f g (Var name width) h = refl
renamed_same f g (Unary op a) h = cc
renamed_same f g (Binary op a b) h = cc
renamed_same f g (Cond c a b) h = cc
renamed_same f g (Pick c a b) h = cc
renamed_same f g (Slice a lo width) h = cc
renamed_same f g (Zext a width) h = cc
renamed_same f g (Sext a width) h = cc
renamed_same f g (DynSlice a at spot) h = cc
renamed_same f g (DynPut a at spot put) h = cc

-- ---- what replaces a shape

fitting-some : (len : ℕ) (w : ℕ → ℕ) (o : Option ℕ) (width m : ℕ) → fitting len w o width ≡ Some m → (m < len) × (w m ≡ width)
unfolding fitting
fitting-some len w None width m e = cc
fitting-some len w (Some n) width m e = either (ltb n len) (eqb (w n) width) refl refl e
  where
    either : (a b : Bool) → ltb n len ≡ a → eqb (w n) width ≡ b → cond (a && b) (Some n) None ≡ Some m → (m < len) × (w m ≡ width)
    either true true p q h =
        let same : n ≡ m = cc in
        (subst (λ x. x < len) same (ltb-true n len p), ap w (sym same) ∙ eqb-true (w n) width q)
    either true false p q h = cc
    either false true p q h = cc
    either false false p q h = cc

replacement_at-some : (by : Replacements) (len : ℕ) (w : ℕ → ℕ) (s : Shape) (m : ℕ) → replacement_at by len w s ≡ Some m → (m < len) × (w m ≡ width_of w s)
unfolding replacement_at width_of
replacement_at-some by len w (Const v) m e = cc
replacement_at-some by len w (Var name width) m e = fitting-some len w (replacement_of by name) width m e
replacement_at-some by len w (Unary op a) m e = cc
replacement_at-some by len w (Binary op a b) m e = cc
replacement_at-some by len w (Cond c a b) m e = cc
replacement_at-some by len w (Pick c a b) m e = cc
replacement_at-some by len w (Slice a lo width) m e = cc
replacement_at-some by len w (Zext a width) m e = cc
replacement_at-some by len w (Sext a width) m e = cc
replacement_at-some by len w (DynSlice a at spot) m e = cc
replacement_at-some by len w (DynPut a at spot put) m e = cc

fitting-same : (len : ℕ) (w v : ℕ → ℕ) (o : Option ℕ) (width : ℕ) → ((n : ℕ) → n < len → w n ≡ v n) → fitting len w o width ≡ fitting len v o width
unfolding fitting
fitting-same len w v None width h = refl
fitting-same len w v (Some n) width h = either (ltb n len) refl
  where
    either : (a : Bool) → ltb n len ≡ a → cond (a && eqb (w n) width) (Some n) None ≡ cond (a && eqb (v n) width) (Some n) None
    either true p = ap (λ x. cond (eqb x width) (Some n) None) (h n (ltb-true n len p))
    either false p = refl

replacement_at-same : (by : Replacements) (len : ℕ) (w v : ℕ → ℕ) (s : Shape) → ((n : ℕ) → n < len → w n ≡ v n) → replacement_at by len w s ≡ replacement_at by len v s
unfolding replacement_at
replacement_at-same by len w v (Const x) h = refl
replacement_at-same by len w v (Var name width) h = fitting-same len w v (replacement_of by name) width h
replacement_at-same by len w v (Unary op a) h = refl
replacement_at-same by len w v (Binary op a b) h = refl
replacement_at-same by len w v (Cond c a b) h = refl
replacement_at-same by len w v (Pick c a b) h = refl
replacement_at-same by len w v (Slice a lo width) h = refl
replacement_at-same by len w v (Zext a width) h = refl
replacement_at-same by len w v (Sext a width) h = refl
replacement_at-same by len w v (DynSlice a at spot) h = refl
replacement_at-same by len w v (DynPut a at spot put) h = refl

-- ---- the answers' widths and values

-- the children of a marked node are answered before it
children_answered : (len : ℕ) (by : Replacements) (shapes : List Shape) (marks : List Bool) (done : List ℕ) (k : ℕ) → IsSubstituted len by shapes marks done → k ≤ length done → k < len → IsMarked marks k → OnChildren (λ j. (j < k) × IsMarked marks j) (shape_at shapes k)
children_answered len by shapes marks done k u l m is =
    join_children (λ j. j < k) (IsMarked marks) (shape_at shapes k) (u.arena.children k (omega (arith, u.long))) (u.closed.children k (omega arith) (omega (arith, u.size)) is)

abbrev KeepsWidth : ℕ → List Shape → List Bool → List ℕ → ℕ → Type 0
KeepsWidth len shapes marks done k = k < length done → k < len → IsMarked marks k → width_at shapes (slice_index done k) ≡ width_at shapes k

answer_width : (len : ℕ) (by : Replacements) (shapes : List Shape) (marks : List Bool) (done : List ℕ) → IsSubstituted len by shapes marks done → (k : ℕ) → k < length shapes → k < length done → k < len → IsMarked marks k → width_at shapes (slice_index done k) ≡ width_at shapes k
answer_width len by shapes marks done u = every_node (KeepsWidth len shapes marks done) shapes u.arena.children turn
  where
    turn : (k : ℕ) → k < length shapes → OnChildren (KeepsWidth len shapes marks done) (shape_at shapes k) → KeepsWidth len shapes marks done k
    turn k l h d n is =
        let s = shape_at shapes k in
        let f = λ (j : ℕ). slice_index done j in
        let a = u.is k d n is in
        let children : OnChildren (λ j. width_at shapes (f j) ≡ width_at shapes j) s =
        map_children (λ j. KeepsWidth len shapes marks done j × ((j < k) × IsMarked marks j)) (λ j. width_at shapes (f j) ≡ width_at shapes j) (λ j b. b.0 (omega (arith, b.1.0)) (omega (arith, b.1.0)) b.1.1) s (join_children (KeepsWidth len shapes marks done) (λ j. (j < k) × IsMarked marks j) s h (children_answered len by shapes marks done k u (omega arith) n is)) in
        either f children (slice_index done k) a.within (replacement_at by len (width_at shapes) s) refl a.answers ∙ sym (width-step shapes k (u.arena.children k l))
      where
        either : (f : ℕ → ℕ) → OnChildren (λ j. width_at shapes (f j) ≡ width_at shapes j) (shape_at shapes k) → (node : ℕ) → node < length shapes → (o : Option ℕ) → replacement_at by len (width_at shapes) (shape_at shapes k) ≡ o → AnswersBy o shapes f (shape_at shapes k) node → width_at shapes node ≡ width_of (width_at shapes) (shape_at shapes k)
        either f children node w None e b =
            width-step shapes node (u.arena.children node w) ∙ ap (width_of (width_at shapes)) b ∙ width_renamed (width_at shapes) f (shape_at shapes k) ∙ width_reads (λ j. width_at shapes (f j)) (width_at shapes) (shape_at shapes k) children
        either f children node w (Some m) e b = ap (width_at shapes) b ∙ (replacement_at-some by len (width_at shapes) (shape_at shapes k) m e).1

-- ---- what the answers give

-- what variables give once they are replaced
abbrev replaced_as : (A : Type 0) → ((VarName → ℕ → A) → (ℕ → A) → Shape → A) → A → (VarName → ℕ → A) → Replacements → ℕ → List Shape → VarName → ℕ → A
replaced_as A step none v by len shapes name width =
    given_or (at_node (step v) none shapes) (v name width) (fitting len (width_at shapes) (replacement_of by name) width)

unreplaced : (A : Type 0) (step : (VarName → ℕ → A) → (ℕ → A) → Shape → A) (none : A) → IsFold A step → (v : VarName → ℕ → A) (by : Replacements) (len : ℕ) (shapes : List Shape) (g : ℕ → A) (s : Shape) → replacement_at by len (width_at shapes) s ≡ None → step (replaced_as A step none v by len shapes) g s ≡ step v g s
unfolding replacement_at
unreplaced A step none fold v by len shapes g (Const x) h = fold.elsewhere _ _ g (Const x) refl
unreplaced A step none fold v by len shapes g (Var name width) h =
    fold.at_variable (replaced_as A step none v by len shapes) g name width ∙ ap (given_or (at_node (step v) none shapes) (v name width)) h ∙ sym (fold.at_variable v g name width)
unreplaced A step none fold v by len shapes g (Unary op a) h = fold.elsewhere _ _ g (Unary op a) refl
unreplaced A step none fold v by len shapes g (Binary op a b) h = fold.elsewhere _ _ g (Binary op a b) refl
unreplaced A step none fold v by len shapes g (Cond c a b) h = fold.elsewhere _ _ g (Cond c a b) refl
unreplaced A step none fold v by len shapes g (Pick c a b) h = fold.elsewhere _ _ g (Pick c a b) refl
unreplaced A step none fold v by len shapes g (Slice a lo width) h = fold.elsewhere _ _ g (Slice a lo width) refl
unreplaced A step none fold v by len shapes g (Zext a width) h = fold.elsewhere _ _ g (Zext a width) refl
unreplaced A step none fold v by len shapes g (Sext a width) h = fold.elsewhere _ _ g (Sext a width) refl
unreplaced A step none fold v by len shapes g (DynSlice a at spot) h = fold.elsewhere _ _ g (DynSlice a at spot) refl
unreplaced A step none fold v by len shapes g (DynPut a at spot put) h = fold.elsewhere _ _ g (DynPut a at spot put) refl

given_replaced : (A : Type 0) (step : (VarName → ℕ → A) → (ℕ → A) → Shape → A) (none : A) → IsFold A step → (v : VarName → ℕ → A) (by : Replacements) (len : ℕ) (shapes : List Shape) (g : ℕ → A) (s : Shape) (m : ℕ) → replacement_at by len (width_at shapes) s ≡ Some m → step (replaced_as A step none v by len shapes) g s ≡ at_node (step v) none shapes m
unfolding replacement_at
given_replaced A step none fold v by len shapes g (Const x) m h = cc
given_replaced A step none fold v by len shapes g (Var name width) m h =
    fold.at_variable (replaced_as A step none v by len shapes) g name width ∙ ap (given_or (at_node (step v) none shapes) (v name width)) h
given_replaced A step none fold v by len shapes g (Unary op a) m h = cc
given_replaced A step none fold v by len shapes g (Binary op a b) m h = cc
given_replaced A step none fold v by len shapes g (Cond c a b) m h = cc
given_replaced A step none fold v by len shapes g (Pick c a b) m h = cc
given_replaced A step none fold v by len shapes g (Slice a lo width) m h = cc
given_replaced A step none fold v by len shapes g (Zext a width) m h = cc
given_replaced A step none fold v by len shapes g (Sext a width) m h = cc
given_replaced A step none fold v by len shapes g (DynSlice a at spot) m h = cc
given_replaced A step none fold v by len shapes g (DynPut a at spot put) m h = cc

abbrev KeepsGiven : (A : Type 0) → ((VarName → ℕ → A) → (ℕ → A) → Shape → A) → A → (VarName → ℕ → A) → Replacements → ℕ → List Shape → List Bool → List ℕ → ℕ → Type 0
KeepsGiven A step none v by len shapes marks done k =
    k < length done → k < len → IsMarked marks k → at_node (step v) none shapes (slice_index done k) ≡ at_node (step (replaced_as A step none v by len shapes)) none shapes k

answer_gives : (A : Type 0) (step : (VarName → ℕ → A) → (ℕ → A) → Shape → A) (none : A) → IsFold A step → (v : VarName → ℕ → A) (len : ℕ) (by : Replacements) (shapes : List Shape) (marks : List Bool) (done : List ℕ) → IsSubstituted len by shapes marks done → (k : ℕ) → k < length shapes → k < length done → k < len → IsMarked marks k → at_node (step v) none shapes (slice_index done k) ≡ at_node (step (replaced_as A step none v by len shapes)) none shapes k
answer_gives A step none fold v len by shapes marks done u = every_node (KeepsGiven A step none v by len shapes marks done) shapes u.arena.children turn
  where
    turn : (k : ℕ) → k < length shapes → OnChildren (KeepsGiven A step none v by len shapes marks done) (shape_at shapes k) → KeepsGiven A step none v by len shapes marks done k
    turn k l h d n is =
        let s = shape_at shapes k in
        let q = replaced_as A step none v by len shapes in
        let f = λ (j : ℕ). slice_index done j in
        let a = u.is k d n is in
        let children : OnChildren (λ j. at_node (step v) none shapes (f j) ≡ at_node (step q) none shapes j) s =
        map_children (λ j. KeepsGiven A step none v by len shapes marks done j × ((j < k) × IsMarked marks j)) (λ j. at_node (step v) none shapes (f j) ≡ at_node (step q) none shapes j) (λ j b. b.0 (omega (arith, b.1.0)) (omega (arith, b.1.0)) b.1.1) s (join_children (KeepsGiven A step none v by len shapes marks done) (λ j. (j < k) × IsMarked marks j) s h (children_answered len by shapes marks done k u (omega arith) n is)) in
        either f children (slice_index done k) a.within (replacement_at by len (width_at shapes) s) refl a.answers ∙ sym (node_step (step q) none (fold.reads q) shapes k (u.arena.children k l))
      where
        either : (f : ℕ → ℕ) → OnChildren (λ j. at_node (step v) none shapes (f j) ≡ at_node (step (replaced_as A step none v by len shapes)) none shapes j) (shape_at shapes k) → (node : ℕ) → node < length shapes → (o : Option ℕ) → replacement_at by len (width_at shapes) (shape_at shapes k) ≡ o → AnswersBy o shapes f (shape_at shapes k) node → at_node (step v) none shapes node ≡ step (replaced_as A step none v by len shapes) (at_node (step (replaced_as A step none v by len shapes)) none shapes) (shape_at shapes k)
        either f children node w None e b =
            node_step (step v) none (fold.reads v) shapes node (u.arena.children node w) ∙ ap (step v (at_node (step v) none shapes)) b ∙ fold.renames v (at_node (step v) none shapes) f (shape_at shapes k) ∙ fold.reads v (λ j. at_node (step v) none shapes (f j)) (at_node (step (replaced_as A step none v by len shapes)) none shapes) (shape_at shapes k) children ∙ sym (unreplaced A step none fold v by len shapes (at_node (step (replaced_as A step none v by len shapes)) none shapes) (shape_at shapes k) e)
        either f children node w (Some m) e b =
            ap (at_node (step v) none shapes) b ∙ sym (given_replaced A step none fold v by len shapes (at_node (step (replaced_as A step none v by len shapes)) none shapes) (shape_at shapes k) m e)

-- ---- one more answer

answered_same : (len : ℕ) (by : Replacements) (shapes : List Shape) (f g : ℕ → ℕ) (k node : ℕ) → OnChildren (λ j. f j ≡ g j) (shape_at shapes k) → IsAnsweredSoFar len by shapes f k node → IsAnsweredSoFar len by shapes g k node
answered_same len by shapes f g k node e a = record {
  within = a.within;
  answers = either (replacement_at by len (width_at shapes) (shape_at shapes k)) a.answers;
}
  where
    either : (o : Option ℕ) → AnswersBy o shapes f (shape_at shapes k) node → AnswersBy o shapes g (shape_at shapes k) node
    either None b = b ∙ renamed_same f g (shape_at shapes k) e
    either (Some m) b = b

substituted_push : (len : ℕ) (by : Replacements) (shapes : List Shape) (marks : List Bool) (done : List ℕ) (n : ℕ) → IsSubstituted len by shapes marks done → length done < len → (IsMarked marks (length done) → IsAnsweredSoFar len by shapes (λ j. slice_index done j) (length done) n) → IsSubstituted len by shapes marks (done ++ n ∷ [])
substituted_push len by shapes marks done n u h a =
    let more = done ++ n ∷ [] in
    let old : (j : ℕ) → j < length done → slice_index done j ≡ slice_index more j = λ j l. sym (get_or_append_left done (n ∷ []) 0 j l) in
    let last : slice_index more (length done) ≡ n = get_or-append_seam done n [] 0 in
    let keeps : (k : ℕ) → k ≤ length done → k < len → OnChildren (λ j. slice_index done j ≡ slice_index more j) (shape_at shapes k) =
    λ k l m. map_children (λ j. j < k) (λ j. slice_index done j ≡ slice_index more j) (λ j lt. old j (omega arith)) (shape_at shapes k) (u.arena.children k (omega (arith, u.long))) in
    record {
      arena = u.arena;
      long = u.long;
      size = u.size;
      closed = u.closed;
      is = λ k l m is. elim (cases_eq k (length done)) [
        | inl same ↦
            let here : IsMarked marks (length done) = subst (IsMarked marks) same is in
            let now = answered_same len by shapes (λ j. slice_index done j) (λ j. slice_index more j) (length done) n (keeps (length done) (omega arith) h) (a here) in
            subst (λ i. IsAnsweredSoFar len by shapes (λ j. slice_index more j) i (slice_index more i)) (sym same) (subst (IsAnsweredSoFar len by shapes (λ j. slice_index more j) (length done)) (sym last) now)
        | inr not ↦
            let before : k < length done = omega (arith, length-append done (n ∷ [])) in
            subst (IsAnsweredSoFar len by shapes (λ j. slice_index more j) k) (old k before) (answered_same len by shapes (λ j. slice_index done j) (λ j. slice_index more j) k (slice_index done k) (keeps k (omega arith) m) (u.is k before m is))
      ];
    }

answers_on : (now next : List Shape) (f : ℕ → ℕ) (s : Shape) (n : ℕ) (o : Option ℕ) → Extends now next → n < length now → AnswersBy o now f s n → AnswersBy o next f s n
answers_on now next f s n None e l b = e.same n l ∙ b
answers_on now next f s n (Some m) e l b = b

replacement_at-extends : (by : Replacements) (len : ℕ) (now next : List Shape) (k : ℕ) → Extends now next → len ≤ length now → k < len → replacement_at by len (width_at next) (shape_at next k) ≡ replacement_at by len (width_at now) (shape_at now k)
replacement_at-extends by len now next k e l m =
    ap (replacement_at by len (width_at next)) (e.same k (omega arith)) ∙ replacement_at-same by len (width_at next) (width_at now) (shape_at now k) (λ n lt. width-extends now next n e (omega arith))

substituted_on : (len : ℕ) (by : Replacements) (now next : List Shape) (marks : List Bool) (done : List ℕ) → IsSubstituted len by now marks done → IsArena next → Extends now next → IsSubstituted len by next marks done
substituted_on len by now next marks done u i e = record {
  arena = i;
  long = omega (arith, u.long, e.longer);
  size = u.size;
  closed = record {
    children = λ k from l is. subst (OnChildren (IsMarked marks)) (sym (e.same k (omega (arith, u.long, u.size)))) (u.closed.children k from l is);
  };
  is = λ k l m is.
      let a = u.is k l m is in
      record {
        within = omega (arith, a.within, e.longer);
        answers = subst (λ o. AnswersBy o next (λ j. slice_index done j) (shape_at next k) (slice_index done k)) (sym (replacement_at-extends by len now next k e u.long m)) (subst (λ s. AnswersBy (replacement_at by len (width_at now) (shape_at now k)) next (λ j. slice_index done j) s (slice_index done k)) (sym (e.same k (omega (arith, u.long)))) (answers_on now next (λ j. slice_index done j) (shape_at now k) (slice_index done k) (replacement_at by len (width_at now) (shape_at now k)) e a.within a.answers));
      };
}

pub next_unmarked : (len : ℕ) (by : Replacements) (shapes : List Shape) (marks : List Bool) (done : List ℕ) (n : ℕ) → IsSubstituted len by shapes marks done → length done < len → get_or marks (length done) false ≡ false → IsSubstituted len by shapes marks (done ++ n ∷ [])
next_unmarked len by shapes marks done n u h not = substituted_push len by shapes marks done n u h (λ is. cc)

pub next_replaced : (len : ℕ) (by : Replacements) (shapes : List Shape) (marks : List Bool) (done : List ℕ) (s : Shape) (o : Option ℕ) (n : ℕ) → IsSubstituted len by shapes marks done → length done < len → s ≡ shape_at shapes (length done) → o ≡ replacement_at by len (width_at shapes) s → o ≡ Some n → IsSubstituted len by shapes marks (done ++ n ∷ [])
next_replaced len by shapes marks done s o n u h e swaps is =
    let there : replacement_at by len (width_at shapes) (shape_at shapes (length done)) ≡ Some n = ap (replacement_at by len (width_at shapes)) (sym e) ∙ sym swaps ∙ is in
    substituted_push len by shapes marks done n u h (λ _. record {
      within = omega (arith, u.long, (replacement_at-some by len (width_at shapes) (shape_at shapes (length done)) n there).0);
      answers = subst (λ x. AnswersBy x shapes (λ j. slice_index done j) (shape_at shapes (length done)) n) (sym there) refl;
    })

pub next_interned : (len : ℕ) (by : Replacements) (now next : List Shape) (marks : List Bool) (done : List ℕ) (s : Shape) (o : Option ℕ) (n : ℕ) → IsSubstituted len by now marks done → length done < len → s ≡ shape_at now (length done) → o ≡ replacement_at by len (width_at now) s → o ≡ None → IsArena next → Extends now next → Interned now (renamed (λ j. slice_index done j) s) next n → IsSubstituted len by next marks (done ++ n ∷ [])
next_interned len by now next marks done s o n u h e swaps is i x t =
    let k = length done in
    let there : replacement_at by len (width_at next) (shape_at next k) ≡ None = replacement_at-extends by len now next k x u.long h ∙ ap (replacement_at by len (width_at now)) (sym e) ∙ sym swaps ∙ is in
    let same : shape_at next k ≡ s = x.same k (omega (arith, u.long)) ∙ sym e in
    substituted_push len by next marks done n (substituted_on len by now next marks done u i x) h (λ _. record {
      within = t.0;
      answers = subst (λ y. AnswersBy y next (λ j. slice_index done j) (shape_at next k) n) (sym there) (t.1 ∙ ap (renamed (λ j. slice_index done j)) (sym same));
    })

-- what interning the next answer asks for
pub next_children : (len : ℕ) (by : Replacements) (shapes : List Shape) (marks : List Bool) (done : List ℕ) (s : Shape) → IsSubstituted len by shapes marks done → length done < len → get_or marks (length done) false ≡ true → s ≡ shape_at shapes (length done) → ChildrenBelow (length shapes) (renamed (λ j. slice_index done j) s)
next_children len by shapes marks done s u h is e =
    subst (λ x. ChildrenBelow (length shapes) (renamed (λ j. slice_index done j) x)) (sym e) (children_renamed (λ n. n < length shapes) (λ j. slice_index done j) (shape_at shapes (length done)) (map_children (λ j. (j < length done) × IsMarked marks j) (λ j. slice_index done j < length shapes) (λ j b. (u.is j b.0 (omega (arith, b.0)) b.1).within) (shape_at shapes (length done)) (children_answered len by shapes marks done (length done) u (omega arith) h is)))

pub next_fits : (len : ℕ) (by : Replacements) (shapes : List Shape) (marks : List Bool) (done : List ℕ) (s : Shape) → IsSubstituted len by shapes marks done → length done < len → get_or marks (length done) false ≡ true → s ≡ shape_at shapes (length done) → FitsWidths (width_at shapes) (renamed (λ j. slice_index done j) s)
next_fits len by shapes marks done s u h is e =
    subst (λ x. FitsWidths (width_at shapes) (renamed (λ j. slice_index done j) x)) (sym e) (fits_renamed (width_at shapes) (λ j. slice_index done j) (shape_at shapes (length done)) (fits_same (λ j. width_at shapes (slice_index done j)) (width_at shapes) (shape_at shapes (length done)) (map_children (λ j. (j < length done) × IsMarked marks j) (λ j. width_at shapes (slice_index done j) ≡ width_at shapes j) (λ j b. answer_width len by shapes marks done u j (omega (arith, b.0, u.long)) b.0 (omega (arith, b.0)) b.1) (shape_at shapes (length done)) (children_answered len by shapes marks done (length done) u (omega arith) h is)) (u.arena.fits (length done) (omega (arith, u.long)))))

pub picked_none : (done roots : List ℕ) → IsPicked done roots [] 0
picked_none done roots = record { size = refl; at = λ i l. absurd (omega arith) }

pub picked_more : (done roots picked : List ℕ) (n : ℕ) → IsPicked done roots picked n → IsPicked done roots (picked ++ slice_index done (slice_index roots n) ∷ []) (n + 1)
picked_more done roots picked n h = record {
  size = omega (arith, length-append picked (slice_index done (slice_index roots n) ∷ []), h.size);
  at = λ i l. elim (cases_eq i n) [
    | inl is ↦ ap (slice_index (picked ++ slice_index done (slice_index roots n) ∷ [])) (is ∙ sym h.size) ∙ get_or-append_seam picked (slice_index done (slice_index roots n)) [] 0 ∙ ap (λ j. slice_index done (slice_index roots j)) (sym is)
    | inr not ↦ get_or_append_left picked (slice_index done (slice_index roots n) ∷ []) 0 i (omega (arith, h.size)) ∙ h.at i (omega arith)
  ];
}

-- ---- whole substitutions

pub nothing_answered : (by : Replacements) (shapes : List Shape) (marks : List Bool) → IsArena shapes → length marks ≡ length shapes → IsClosed shapes marks 0 → IsSubstituted (length shapes) by shapes marks []
nothing_answered by shapes marks i e c = record {
  arena = i;
  long = omega arith;
  size = e;
  closed = c;
  is = λ k l. absurd (omega arith);
}

pub all_answered : (len : ℕ) (by : Replacements) (shapes : List Shape) (marks : List Bool) (done roots picked : List ℕ) → IsSubstituted len by shapes marks done → length done ≡ len → HasRoots roots marks (length roots) → IsPicked done roots picked (length roots) → HasAnswers len by shapes roots picked
all_answered len by shapes marks done roots picked u full h p = record {
  marks = marks;
  done = done;
  substituted = u;
  full = full;
  rooted = h;
  picked = p;
}

-- what replaces a variable is the same in an arena that has grown
replaced_on : (A : Type 0) (step : (VarName → ℕ → A) → (ℕ → A) → Shape → A) (none : A) → IsFold A step → (v : VarName → ℕ → A) (by : Replacements) (old new : List Shape) → Extends old new → (name : VarName) (width : ℕ) → replaced_as A step none v by (length old) new name width ≡ replaced_as A step none v by (length old) old name width
replaced_on A step none fold v by old new e name width =
    ap (given_or (at_node (step v) none new) (v name width)) (fitting-same (length old) (width_at new) (width_at old) (replacement_of by name) width (λ n l. width-extends old new n e l)) ∙ either (fitting (length old) (width_at old) (replacement_of by name) width) refl
  where
    either : (o : Option ℕ) → fitting (length old) (width_at old) (replacement_of by name) width ≡ o → given_or (at_node (step v) none new) (v name width) o ≡ given_or (at_node (step v) none old) (v name width) o
    either None x = refl
    either (Some m) x =
        node_same (step v) none (fold.reads v) old new m (λ j lt. e.same j (omega (arith, (fitting-some (length old) (width_at old) (replacement_of by name) width m x).0)))

answers_give : (A : Type 0) (step : (VarName → ℕ → A) → (ℕ → A) → Shape → A) (none : A) → IsFold A step → (v : VarName → ℕ → A) (old : List Shape) (by : Replacements) (new : List Shape) (roots answers : List ℕ) → ((i : ℕ) → i < length roots → slice_index roots i < length old) → Extends old new → HasAnswers (length old) by new roots answers → (i : ℕ) → i < length roots → at_node (step v) none new (slice_index answers i) ≡ at_node (step (replaced_as A step none v by (length old) old)) none old (slice_index roots i)
answers_give A step none fold v old by new roots answers w e a i l =
    let root = slice_index roots i in
    let u = a.substituted in
    ap (at_node (step v) none new) (a.picked.at i l) ∙ answer_gives A step none fold v (length old) by new a.marks a.done u root (omega (arith, w i l, e.longer)) (omega (arith, w i l, a.full)) (w i l) (a.rooted.marked_roots i l) ∙ node_same (step (replaced_as A step none v by (length old) new)) none (fold.reads _) old new root (λ j lt. e.same j (omega (arith, w i l))) ∙ fold_same A step none fold (replaced_as A step none v by (length old) new) (replaced_as A step none v by (length old) old) old root (λ k m. subst (ChildrenBelow k) (e.same k m) (u.arena.children k (omega (arith, m, e.longer)))) (replaced_on A step none fold v by old new e) (w i l)

pub roots_replaced : (old : List Shape) (by : Replacements) (new : List Shape) (roots answers : List ℕ) → ((i : ℕ) → i < length roots → slice_index roots i < length old) → Extends old new → HasAnswers (length old) by new roots answers → IsReplaced old by new roots answers
roots_replaced old by new roots answers w e a =
    let u = a.substituted in
    let root : (i : ℕ) → i < length roots → IsMarked a.marks (slice_index roots i) = a.rooted.marked_roots in
    record {
      within = λ i l. subst (λ n. n < length new) (sym (a.picked.at i l)) (u.is (slice_index roots i) (omega (arith, w i l, a.full)) (w i l) (root i l)).within;
      widths = λ i l.
          ap (width_at new) (a.picked.at i l) ∙ answer_width (length old) by new a.marks a.done u (slice_index roots i) (omega (arith, w i l, e.longer)) (omega (arith, w i l, a.full)) (w i l) (root i l) ∙ width-extends old new (slice_index roots i) e (w i l);
      values = λ r. answers_give Vector value_of [] value_folds r old by new roots answers w e a;
      variables = λ p. answers_give Bool each_variable_of true variables_fold p old by new roots answers w e a;
    }

named_fits : (A : Type 0) (f : ℕ → A) (a : A) (len : ℕ) (w : ℕ → ℕ) (o : Option ℕ) (width : ℕ) → given_or (λ node. is_fitting len w node width) true o ≡ true → given_or f a (fitting len w o width) ≡ given_or f a o
unfolding fitting
named_fits A f a len w None width h = refl
named_fits A f a len w (Some n) width h = ap (λ b. given_or f a (cond b (Some n) None)) h

pub roots_replaced_by_named : (old : List Shape) (by : Replacements) (new : List Shape) (roots answers : List ℕ) → ((i : ℕ) → i < length roots → slice_index roots i < length old) → IsArena old → IsReplaced old by new roots answers → IsReplacedByNamed old by new roots answers
unfolding fits_variable
roots_replaced_by_named old by new roots answers w is a = record {
  values = λ r i l h.
      a.values r i l ∙ values_alike (fits_variable by old) (replaced r by old) (replaced_by_named r by old) old (slice_index roots i) is (λ name width e. named_fits Vector (value_at r old) (r name width) (length old) (width_at old) (replacement_of by name) width e) (w i l) h;
}

pub reached_answered : (old : List Shape) (by : Replacements) (new : List Shape) (roots answers : List ℕ) → ((i : ℕ) → i < length roots → slice_index roots i < length old) → Extends old new → HasAnswers (length old) by new roots answers → AreAnswers old by new roots answers
reached_answered old by new roots answers w e a =
    let u = a.substituted in
    record {
      answer = λ k. slice_index a.done k;
      answered = λ k r.
          let b = reached_marked old new roots a.marks e u.size a.rooted u.closed k r in
          let x = u.is k (omega (arith, b.0, a.full)) b.0 b.1 in
          record {
            within = x.within;
            answers = subst (λ s. AnswersBy (replacement_at by (length old) (width_at old) s) new (λ j. slice_index a.done j) s (slice_index a.done k)) (e.same k b.0)
                (subst (λ o. AnswersBy o new (λ j. slice_index a.done j) (shape_at new k) (slice_index a.done k)) (replacement_at-same by (length old) (width_at new) (width_at old) (shape_at new k) (λ n lt. width-extends old new n e lt)) x.answers);
          };
      size = a.picked.size;
      at = a.picked.at;
    }
