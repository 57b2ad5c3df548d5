-- Samples in place of their variables take no gates more: each new node is the answer for a node that the goal reaches.
use Rattle.std.proofs.Common.{◌≡◌, ℕ, ◌<◌, Bool, true, false, ◌&&◌, cond, eqb, ltb, max, List, map, length, get_or, Option, Some, None, refl, sym, ap, ◌∙◌, subst, arith, inl, inr, ⊎_elim, IsTrue, eqb-true}
use Rattle.std.proofs.lemmas.Bool.{cases_lt}
use Rattle.std.proofs.lemmas.List.{get_or-map, get_or_past, length-map}
use Rattle.svex_arena.specs.Arenas.{IsArena}
use Rattle.svex_arena.specs.Marks.{IsReached}
use Rattle.svex_arena.specs.Marks.IsReached.{as_child}
use Rattle.svex_arena.specs.Substs.{replacement_at, fitting, renamed, AnswersBy, entry_at}
use Rattle.svex_arena.proofs.Numbering.{every_node, map_children, join_children}
use Rattle.svex_arena.proofs.Steps.{width_follows, width_reads, width-extends, variables_follow}
use Rattle.svex_arena.proofs.Lifted.{variables_children}
use Rattle.svex_arena.proofs.Substituting.{width_renamed}
use Rattle.svex_blast.specs.Sizes.{gates_of, gates_by, unary_gates, binary_gates}
use Rattle.svex_shape.specs.declared.shape.Shape.{Shape}
use Rattle.svex_shape.specs.declared.shape.Shape.TheVariants.{Const, Var, Unary, Binary, Cond, Pick, Slice, Zext, Sext, DynSlice, DynPut}
use Rattle.svex_shape.specs.declared.shape.VarName.{VarName}
use Rattle.svex_shape.specs.declared.shape.VarName.TheVariants.{Now, Prev, Stim, Chosen, Sampled}
use Rattle.svex_shape.specs.Shapes.{OnChildren, IsChild, shape_at, width_at, width_of, unary_width, binary_width}
use Rattle.svex_shape.specs.Values.{each_variable, each_variable_of}
use Rattle.goal_gates.specs.Goals.{Goal, is_chosen}
use Rattle.goal_gates.proofs.Told.{IsPut, by_of, roots_of}

-- ---- shapes

children_are : (s : Shape) → OnChildren (λ k. IsChild k s) s
children_are (Const v) = tt
children_are (Var name width) = tt
children_are (Unary op a) = refl
children_are (Binary op a b) = (inl refl, inr refl)
children_are (Cond c a b) = (inl refl, inr (inl refl), inr (inr refl))
children_are (Pick c a b) = (inl refl, inr (inl refl), inr (inr refl))
children_are (Slice a lo width) = refl
children_are (Zext a width) = refl
children_are (Sext a width) = refl
children_are (DynSlice a at spot) = (inl refl, inr refl)
children_are (DynPut a at spot put) = (inl refl, inr (inl refl), inr (inr refl))

renamed_itself : (f : ℕ → ℕ) (s : Shape) → OnChildren (λ k. f k ≡ k) s → renamed f s ≡ s
renamed_itself f (Const v) h = refl
renamed_itself f (Var name width) h = refl
renamed_itself f (Unary op a) h = cc
renamed_itself f (Binary op a b) h = cc
renamed_itself f (Cond c a b) h = cc
renamed_itself f (Pick c a b) h = cc
renamed_itself f (Slice a lo width) h = cc
renamed_itself f (Zext a width) h = cc
renamed_itself f (Sext a width) h = cc
renamed_itself f (DynSlice a at spot) h = cc
renamed_itself f (DynPut a at spot put) h = cc

gates_renamed : (w : ℕ → ℕ) (f : ℕ → ℕ) (s : Shape) → gates_of w (renamed f s) ≡ gates_of (λ k. w (f k)) s
gates_renamed w f (Const v) = refl
gates_renamed w f (Var name width) = refl
gates_renamed w f (Unary op a) = refl
gates_renamed w f (Binary op a b) = refl
gates_renamed w f (Cond c a b) = refl
gates_renamed w f (Pick c a b) = refl
gates_renamed w f (Slice a lo width) = refl
gates_renamed w f (Zext a width) = refl
gates_renamed w f (Sext a width) = refl
gates_renamed w f (DynSlice a at spot) = refl
gates_renamed w f (DynPut a at spot put) = refl

gates_same : (u w : ℕ → ℕ) (s : Shape) → OnChildren (λ k. u k ≡ w k) s → gates_of u s ≡ gates_of w s
gates_same u w (Const v) h = refl
gates_same u w (Var name width) h = refl
gates_same u w (Unary op a) h = ap (λ x. unary_gates op (max (unary_width op x) x)) h
gates_same u w (Binary op a b) h = λ i. binary_gates op (max (binary_width op (h.0 i) (h.1 i)) (max (h.0 i) (h.1 i)))
gates_same u w (Cond c a b) h = λ i. gates_by (Cond c a b) (max (h.0 i) (max (h.1 i) (h.2 i)))
gates_same u w (Pick c a b) h = λ i. gates_by (Pick c a b) (max (h.0 i) (max (h.1 i) (h.2 i)))
gates_same u w (Slice a lo width) h = refl
gates_same u w (Zext a width) h = refl
gates_same u w (Sext a width) h = refl
gates_same u w (DynSlice a at spot) h = λ i. gates_by (DynSlice a at spot) (max spot.width (max (h.0 i) (h.1 i)))
gates_same u w (DynPut a at spot put) h = λ i. gates_by (DynPut a at spot put) (max (h.0 i) (max (h.1 i) (h.2 i)))

-- ---- what is replaced

-- what replaces a shape is the node of the sample whose variable it is
pub record IsSampleOf (samples : List ℕ) (w : ℕ → ℕ) (s : Shape) (other : ℕ) : Type 0 where
  pub at : ℕ
  pub width : ℕ
  pub is : s ≡ Var (Sampled at) width
  pub within : at < length samples
  pub node : other ≡ get_or samples at 0
  pub wide : w other ≡ width

some_fits : (w : ℕ → ℕ) (n width other : ℕ) (a b : Bool) → eqb (w n) width ≡ b → cond (a && b) (Some n) None ≡ Some other → (other ≡ n) × (w other ≡ width)
some_fits w n width other true true e h = let same : n ≡ other = cc in (sym same, ap w (sym same) ∙ eqb-true (w n) width e)
some_fits w n width other true false e h = cc
some_fits w n width other false true e h = cc
some_fits w n width other false false e h = cc

sample_named : (samples : List ℕ) (len : ℕ) (w : ℕ → ℕ) (k width other : ℕ) → fitting len w (entry_at (map Some samples) k) width ≡ Some other → IsSampleOf samples w (Var (Sampled k) width) other
unfolding fitting
sample_named samples len w k width other e = ⊎_elim
    (λ l.
    let n : ℕ = get_or samples k 0 in
    let named : entry_at (map Some samples) k ≡ Some n = get_or-map Some samples k 0 None l in
    let f = some_fits w n width other (ltb n len) (eqb (w n) width) refl (sym (ap (λ o. fitting len w o width) named) ∙ e) in
    record { at = k; width = width; is = refl; within = l; node = f.0; wide = f.1 })
    (λ l.
    let none : entry_at (map Some samples) k ≡ None = get_or_past (map Some samples) k None (omega (arith, l, length-map samples (λ n. Some n))) in
    let f : None ≡ Some other = sym (ap (λ o. fitting len w o width) none) ∙ e in
    cc)
    (cases_lt k (length samples))

pub replaced_sample : (samples : List ℕ) (len : ℕ) (w : ℕ → ℕ) (s : Shape) (other : ℕ) → replacement_at (by_of samples) len w s ≡ Some other → IsSampleOf samples w s other
unfolding replacement_at fitting
replaced_sample samples len w (Const v) other e = cc
replaced_sample samples len w (Var (Now k) width) other e = cc
replaced_sample samples len w (Var (Prev k) width) other e = cc
replaced_sample samples len w (Var (Stim k) width) other e = cc
replaced_sample samples len w (Var (Chosen k) width) other e = cc
replaced_sample samples len w (Var (Sampled k) width) other e = sample_named samples len w k width other e
replaced_sample samples len w (Unary op a) other e = cc
replaced_sample samples len w (Binary op a b) other e = cc
replaced_sample samples len w (Cond c a b) other e = cc
replaced_sample samples len w (Pick c a b) other e = cc
replaced_sample samples len w (Slice a lo width) other e = cc
replaced_sample samples len w (Zext a width) other e = cc
replaced_sample samples len w (Sext a width) other e = cc
replaced_sample samples len w (DynSlice a at spot) other e = cc
replaced_sample samples len w (DynPut a at spot put) other e = cc

-- no variable of a table is replaced
chosen_stays : (samples : List ℕ) (len : ℕ) (w : ℕ → ℕ) (f : ℕ → Bool) (s : Shape) → each_variable_of is_chosen f s ≡ true → replacement_at (by_of samples) len w s ≡ None
unfolding replacement_at fitting each_variable_of
chosen_stays samples len w f (Const v) e = refl
chosen_stays samples len w f (Var (Now k) width) e = cc
chosen_stays samples len w f (Var (Prev k) width) e = cc
chosen_stays samples len w f (Var (Stim k) width) e = cc
chosen_stays samples len w f (Var (Chosen k) width) e = refl
chosen_stays samples len w f (Var (Sampled k) width) e = cc
chosen_stays samples len w f (Unary op a) e = refl
chosen_stays samples len w f (Binary op a b) e = refl
chosen_stays samples len w f (Cond c a b) e = refl
chosen_stays samples len w f (Pick c a b) e = refl
chosen_stays samples len w f (Slice a lo width) e = refl
chosen_stays samples len w f (Zext a width) e = refl
chosen_stays samples len w f (Sext a width) e = refl
chosen_stays samples len w f (DynSlice a at spot) e = refl
chosen_stays samples len w f (DynPut a at spot put) e = refl

-- ---- answers

abbrev pub Reached : Goal → ℕ → Type 0
Reached g k = IsReached g.shapes (roots_of g) k

abbrev pub replacement : Goal → ℕ → Option ℕ
replacement g k = replacement_at (by_of g.samples) (length g.shapes) (width_at g.shapes) (shape_at g.shapes k)

pub children_reached : (g : Goal) (k : ℕ) → Reached g k → OnChildren (Reached g) (shape_at g.shapes k)
children_reached g k r = map_children (λ c. IsChild c (shape_at g.shapes k)) (Reached g) (λ c h. as_child k c r h) (shape_at g.shapes k) (children_are (shape_at g.shapes k))

pub answer_shape : (g : Goal) (new : List Shape) (answers : List ℕ) (p : IsPut g new answers) (k : ℕ) → Reached g k → replacement g k ≡ None → shape_at new (p.answered.answer k) ≡ renamed p.answered.answer (shape_at g.shapes k)
answer_shape g new answers p k r e =
    let a = p.answered in
    subst (λ o. AnswersBy o new a.answer (shape_at g.shapes k) (a.answer k)) e (a.answered k r).answers

pub answer_other : (g : Goal) (new : List Shape) (answers : List ℕ) (p : IsPut g new answers) (k other : ℕ) → Reached g k → replacement g k ≡ Some other → p.answered.answer k ≡ other
answer_other g new answers p k other r e =
    let a = p.answered in
    subst (λ o. AnswersBy o new a.answer (shape_at g.shapes k) (a.answer k)) e (a.answered k r).answers

-- a node over the variables of the table alone is its own answer
pub own_answer : (g : Goal) (new : List Shape) (answers : List ℕ) (p : IsPut g new answers) (k : ℕ) → k < length g.shapes → Reached g k → IsTrue (each_variable is_chosen g.shapes k) → p.answered.answer k ≡ k
own_answer g new answers p k l r t = every_node (λ j. Reached g j → IsTrue (each_variable is_chosen g.shapes j) → p.answered.answer j ≡ j) g.shapes p.arena.children turn k l r t
  where
    turn : (j : ℕ) → j < length g.shapes → OnChildren (λ j. Reached g j → IsTrue (each_variable is_chosen g.shapes j) → p.answered.answer j ≡ j) (shape_at g.shapes j) → Reached g j → IsTrue (each_variable is_chosen g.shapes j) → p.answered.answer j ≡ j
    turn j l h r t =
        let s : Shape = shape_at g.shapes j in
        let f : ℕ → ℕ = p.answered.answer in
        let test : ℕ → Bool = each_variable is_chosen g.shapes in
        let here : each_variable_of is_chosen test s ≡ true = sym (variables_follow is_chosen g.shapes j p.arena l) ∙ t in
        let own : OnChildren (λ c. f c ≡ c) s =
        map_children (λ c. ((Reached g c → IsTrue (test c) → f c ≡ c) × Reached g c) × (test c ≡ true)) (λ c. f c ≡ c) (λ c x. x.0.0 x.0.1 x.1) s
        (join_children (λ c. (Reached g c → IsTrue (test c) → f c ≡ c) × Reached g c) (λ c. test c ≡ true) s (join_children (λ c. Reached g c → IsTrue (test c) → f c ≡ c) (Reached g) s h (children_reached g j r)) (variables_children is_chosen test s here)) in
        let same : shape_at new (f j) ≡ shape_at new j =
        answer_shape g new answers p j r (chosen_stays g.samples (length g.shapes) (width_at g.shapes) test s here) ∙ (renamed_itself f s own ∙ sym (p.extends.same j l)) in
        p.grown.apart (f j) j (p.answered.answered j r).within (omega (arith, l, p.extends.longer)) same

variable_width : (w : ℕ → ℕ) (s : Shape) (name : VarName) (width : ℕ) → s ≡ Var name width → width_of w s ≡ width
unfolding width_of
variable_width w s name width e = ap (width_of w) e

pub chosen_stays_at : (g : Goal) (k : ℕ) → IsArena g.shapes → k < length g.shapes → IsTrue (each_variable is_chosen g.shapes k) → replacement g k ≡ None
chosen_stays_at g k a l t =
    chosen_stays g.samples (length g.shapes) (width_at g.shapes) (each_variable is_chosen g.shapes) (shape_at g.shapes k) (sym (variables_follow is_chosen g.shapes k a l) ∙ t)

-- answers are as wide as what they answer
answer_width : (g : Goal) (new : List Shape) (answers : List ℕ) (p : IsPut g new answers) (k : ℕ) → k < length g.shapes → Reached g k → width_at new (p.answered.answer k) ≡ width_at g.shapes k
answer_width g new answers p k l r = every_node (λ j. Reached g j → width_at new (p.answered.answer j) ≡ width_at g.shapes j) g.shapes p.arena.children turn k l r
  where
    turn : (j : ℕ) → j < length g.shapes → OnChildren (λ j. Reached g j → width_at new (p.answered.answer j) ≡ width_at g.shapes j) (shape_at g.shapes j) → Reached g j → width_at new (p.answered.answer j) ≡ width_at g.shapes j
    turn j l h r =
        let s : Shape = shape_at g.shapes j in
        let f : ℕ → ℕ = p.answered.answer in
        let wide : OnChildren (λ c. width_at new (f c) ≡ width_at g.shapes c) s =
        map_children (λ c. (Reached g c → width_at new (f c) ≡ width_at g.shapes c) × Reached g c) (λ c. width_at new (f c) ≡ width_at g.shapes c) (λ c x. x.0 x.1) s
        (join_children (λ c. Reached g c → width_at new (f c) ≡ width_at g.shapes c) (Reached g) s h (children_reached g j r)) in
        by_cases (replacement g j) refl wide
      where
        by_cases : (o : Option ℕ) → replacement g j ≡ o → OnChildren (λ c. width_at new (p.answered.answer c) ≡ width_at g.shapes c) (shape_at g.shapes j) → width_at new (p.answered.answer j) ≡ width_at g.shapes j
        by_cases None e wide =
            width_follows new (p.answered.answer j) p.grown (p.answered.answered j r).within
            ∙ (ap (width_of (width_at new)) (answer_shape g new answers p j r e)
            ∙ (width_renamed (width_at new) p.answered.answer (shape_at g.shapes j)
            ∙ (width_reads (λ c. width_at new (p.answered.answer c)) (width_at g.shapes) (shape_at g.shapes j) wide
            ∙ sym (width_follows g.shapes j p.arena l))))
        by_cases (Some other) e wide =
            let x = replaced_sample g.samples (length g.shapes) (width_at g.shapes) (shape_at g.shapes j) other e in
            let there : other < length g.shapes = subst (λ n. n < length g.shapes) (sym x.node) (p.samples x.at 0 x.within) in
            ap (width_at new) (answer_other g new answers p j other r e)
            ∙ (width-extends g.shapes new other p.extends there
            ∙ (x.wide ∙ (sym (variable_width (width_at g.shapes) (shape_at g.shapes j) (Sampled x.at) x.width x.is) ∙ sym (width_follows g.shapes j p.arena l))))

pub answer_gates : (g : Goal) (new : List Shape) (answers : List ℕ) (p : IsPut g new answers) (k : ℕ) → k < length g.shapes → Reached g k → replacement g k ≡ None
    → gates_of (width_at new) (shape_at new (p.answered.answer k)) ≡ gates_of (width_at g.shapes) (shape_at g.shapes k)
answer_gates g new answers p k l r e =
    let s : Shape = shape_at g.shapes k in
    let f : ℕ → ℕ = p.answered.answer in
    let wide : OnChildren (λ c. width_at new (f c) ≡ width_at g.shapes c) s =
    map_children (λ c. (c < k) × Reached g c) (λ c. width_at new (f c) ≡ width_at g.shapes c) (λ c x. answer_width g new answers p c (omega (arith, x.0, l)) x.1) s
    (join_children (λ c. c < k) (Reached g) s (p.arena.children k l) (children_reached g k r)) in
    ap (gates_of (width_at new)) (answer_shape g new answers p k r e) ∙ (gates_renamed (width_at new) f s ∙ gates_same (λ c. width_at new (f c)) (width_at g.shapes) s wide)
