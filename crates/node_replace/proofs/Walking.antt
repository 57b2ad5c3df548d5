-- A walk over the nodes of the beginning, one step after another.
use Rattle.std.proofs.Common.{◌≡◌, ℕ, ◌+◌, ◌-◌, ◌<◌, ◌≤◌, Bool, true, false, not, cond, ◌||◌, List, [], ◌∷◌, ◌++◌, length, get_or, set, take, refl, sym, ap, ◌∙◌, subst, inl, inr, arith, length-set, take_all, Vec, Global}
use Rattle.std.specs.Prelude.{All, AllPairs, slice_index, IfSome}
use Rattle.std.specs.List.{Contains}
use Rattle.std.proofs.lemmas.Bool.{cases_eq, cases_lt, false≢true}
use Rattle.std.proofs.lemmas.List.{get_or_append_left, get_or-set_same, get_or-set_other, get_or_default, get_or_past, length_push, take_more}
use Rattle.std.proofs.lemmas.List.Quantifiers.{all_pairs_push}
use Rattle.std.proofs.lemmas.List.Sums.{sum_by-set}
use Rattle.std.proofs.lemmas.List.Elements.{All-push, Contains-append_left, Contains-push_cases}
use Rattle.std.proofs.Math.Seq.{get_or-append_seam}
use Rattle.fourvec.proofs.Order.{both}
use Rattle.svex_shape.specs.declared.shape.VarName.{VarName}
use Rattle.svex_shape.specs.declared.shape.Shape.{Shape}
use Rattle.svex_shape.specs.declared.shape.Shape.TheVariants.{Const, Var, Unary, Binary, Cond, Pick, Slice, Zext, Sext, DynSlice, DynPut}
use Rattle.svex_shape.specs.Shapes.{OnChildren, IsChild, FitsWidths, shape_at, width_at}
use Rattle.svex_shape.specs.Values.{Reading, HasWidths, value_at, each_variable, each_variable_of}
use Rattle.svex_arena.specs.Arenas.{IsArena, Extends}
use Rattle.svex_arena.specs.Marks.{IsMarked}
use Rattle.svex_arena.specs.Substs.{renamed}
use Rattle.svex_arena.proofs.Numbering.{map_children, join_children}
use Rattle.svex_arena.proofs.Steps.{value_follows, variables_follow, width_follows, value_reads, width_reads, value-extends, variables-extends, width-extends, fits_same}
use Rattle.svex_arena.proofs.Lifted.{variables_children}
use Rattle.svex_arena.proofs.Folds.{is_variable as is_var, value_renamed, variables_renamed, value_folds}
use Rattle.svex_arena.proofs.Substituting.{width_renamed, fits_renamed, children_renamed}
use Rattle.svex_rewrite.specs.Meaning.{IsOver, Makes}
use Rattle.node_replace.specs.declared.replacer.Replacer.{Replacer}
use Rattle.node_replace.specs.Walks.{is_loose, answer_at, IsAnswered, IsThere, IsWalk, Counts, HasValues, HasTests, PathHas, Keeps, GoesOn, IsGiven, Begins, Waits, is_variable, Entered, Left, touched_by, open_marks, work_left, any_loose, children_of}

pub marked_within : (marks : List Bool) (k : ℕ) → IsMarked marks k → k < length marks
marked_within marks k h = elim (cases_lt k (length marks)) [
  | inl lt ↦ lt
  | inr past ↦ absurd (false≢true (sym (get_or_past marks k false past) ∙ h))
]

pub contains_last : (n : List ℕ) (k : ℕ) → Contains (n ++ k ∷ []) k
contains_last n k = (length n, omega (arith, length_push n k), get_or-append_seam n k [] k)

-- ---- children

pub on_child : (P : ℕ → Type 0) (s : Shape) (j : ℕ) → OnChildren P s → IsChild j s → P j
on_child P (Unary op a) j h is = subst P (sym is) h
on_child P (Binary op a b) j h (inl is) = subst P (sym is) h.0
on_child P (Binary op a b) j h (inr is) = subst P (sym is) h.1
on_child P (Cond c a b) j h (inl is) = subst P (sym is) h.0
on_child P (Cond c a b) j h (inr (inl is)) = subst P (sym is) h.1
on_child P (Cond c a b) j h (inr (inr is)) = subst P (sym is) h.2
on_child P (Pick c a b) j h (inl is) = subst P (sym is) h.0
on_child P (Pick c a b) j h (inr (inl is)) = subst P (sym is) h.1
on_child P (Pick c a b) j h (inr (inr is)) = subst P (sym is) h.2
on_child P (Slice a lo w) j h is = subst P (sym is) h
on_child P (Zext a w) j h is = subst P (sym is) h
on_child P (Sext a w) j h is = subst P (sym is) h
on_child P (DynSlice a at spot) j h (inl is) = subst P (sym is) h.0
on_child P (DynSlice a at spot) j h (inr is) = subst P (sym is) h.1
on_child P (DynPut a at spot put) j h (inl is) = subst P (sym is) h.0
on_child P (DynPut a at spot put) j h (inr (inl is)) = subst P (sym is) h.1
on_child P (DynPut a at spot put) j h (inr (inr is)) = subst P (sym is) h.2
on_child P (Const v) j h is = absurd is
on_child P (Var name w) j h is = absurd is

-- the children that are listed are children
pub listed_children : (s : Shape) → IfSome (children_of s).first (λ k. IsChild k s) × IfSome (children_of s).second (λ k. IsChild k s) × IfSome (children_of s).third (λ k. IsChild k s)
listed_children (Const v) = (tt, tt, tt)
listed_children (Var name w) = (tt, tt, tt)
listed_children (Unary op a) = (refl, tt, tt)
listed_children (Binary op a b) = (inl refl, inr refl, tt)
listed_children (Cond c a b) = (inl refl, inr (inl refl), inr (inr refl))
listed_children (Pick c a b) = (inl refl, inr (inl refl), inr (inr refl))
listed_children (Slice a lo w) = (refl, tt, tt)
listed_children (Zext a w) = (refl, tt, tt)
listed_children (Sext a w) = (refl, tt, tt)
listed_children (DynSlice a at spot) = (inl refl, inr refl, tt)
listed_children (DynPut a at spot put) = (inl refl, inr (inl refl), inr (inr refl))

same-variable : (s : Shape) → is_variable s ≡ false → is_var s ≡ false
same-variable (Const v) h = refl
same-variable (Var name w) h = cc
same-variable (Unary op a) h = refl
same-variable (Binary op a b) h = refl
same-variable (Cond c a b) h = refl
same-variable (Pick c a b) h = refl
same-variable (Slice a lo w) h = refl
same-variable (Zext a w) h = refl
same-variable (Sext a w) h = refl
same-variable (DynSlice a at spot) h = refl
same-variable (DynPut a at spot put) h = refl

pub not_variable : (s : Shape) → ((name : VarName) (w : ℕ) → s ≡ Var name w → ⊥) → is_variable s ≡ false
not_variable (Const v) h = refl
not_variable (Var name w) h = absurd (h name w refl)
not_variable (Unary op a) h = refl
not_variable (Binary op a b) h = refl
not_variable (Cond c a b) h = refl
not_variable (Pick c a b) h = refl
not_variable (Slice a lo w) h = refl
not_variable (Zext a w) h = refl
not_variable (Sext a w) h = refl
not_variable (DynSlice a at spot) h = refl
not_variable (DynPut a at spot put) h = refl

-- ---- a shape over what stands for its children

all-children : (p : VarName → ℕ → Bool) (g : ℕ → Bool) (s : Shape) → is_var s ≡ false → OnChildren (λ j. g j ≡ true) s → each_variable_of p g s ≡ true
unfolding each_variable_of
all-children p g (Const v) other h = refl
all-children p g (Var name w) other h = cc
all-children p g (Unary op a) other h = h
all-children p g (Binary op a b) other h = both _ _ h.0 h.1
all-children p g (Cond c a b) other h = both _ _ h.0 (both _ _ h.1 h.2)
all-children p g (Pick c a b) other h = both _ _ h.0 (both _ _ h.1 h.2)
all-children p g (Slice a lo w) other h = h
all-children p g (Zext a w) other h = h
all-children p g (Sext a w) other h = h
all-children p g (DynSlice a at spot) other h = both _ _ h.0 h.1
all-children p g (DynPut a at spot put) other h = both _ _ h.0 (both _ _ h.1 h.2)

first-or : (x y z : Bool) → x ≡ true → (x || (y || z)) ≡ true
first-or x y z e = ap (λ t. t || (y || z)) e

second-or : (x y z : Bool) → y ≡ true → (x || (y || z)) ≡ true
second-or true y z e = refl
second-or false y z e = ap (λ t. t || z) e

third-or : (x y z : Bool) → z ≡ true → (x || (y || z)) ≡ true
third-or true y z e = refl
third-or false true z e = refl
third-or false false z e = e

one : (marks : List Bool) (a : ℕ) → get_or marks a false ≡ true → (get_or marks a false || (false || false)) ≡ true
one marks a = first-or (get_or marks a false) false false

two : (marks : List Bool) (a b : ℕ) → (get_or marks a false ≡ true → (get_or marks a false || (get_or marks b false || false)) ≡ true) × (get_or marks b false ≡ true → (get_or marks a false || (get_or marks b false || false)) ≡ true)
two marks a b = (first-or (get_or marks a false) (get_or marks b false) false, second-or (get_or marks a false) (get_or marks b false) false)

three : (marks : List Bool) (a b c : ℕ) → (get_or marks a false ≡ true → (get_or marks a false || (get_or marks b false || get_or marks c false)) ≡ true)
    × (get_or marks b false ≡ true → (get_or marks a false || (get_or marks b false || get_or marks c false)) ≡ true)
    × (get_or marks c false ≡ true → (get_or marks a false || (get_or marks b false || get_or marks c false)) ≡ true)
three marks a b c =
    (first-or (get_or marks a false) (get_or marks b false) (get_or marks c false), second-or (get_or marks a false) (get_or marks b false) (get_or marks c false), third-or (get_or marks a false) (get_or marks b false) (get_or marks c false))

pub children_loose : (marks : List Bool) (s : Shape) → OnChildren (λ j. get_or marks j false ≡ true → any_loose marks s ≡ true) s
children_loose marks (Const v) = tt
children_loose marks (Var name w) = tt
children_loose marks (Unary op a) = one marks a
children_loose marks (Binary op a b) = two marks a b
children_loose marks (Cond c a b) = three marks c a b
children_loose marks (Pick c a b) = three marks c a b
children_loose marks (Slice a lo w) = one marks a
children_loose marks (Zext a w) = one marks a
children_loose marks (Sext a w) = one marks a
children_loose marks (DynSlice a at spot) = two marks a at
children_loose marks (DynPut a at spot put) = three marks a at put

-- what stands for children is there
abbrev pub AreThere : List Shape → Replacer → ℕ → Type 0
AreThere shapes m j = IsThere shapes j (answer_at m j)

pub shape_over : (shapes : List Shape) (f : ℕ → ℕ) (s : Shape) → IsArena shapes → OnChildren (λ j. IsThere shapes j (f j)) s → (k : ℕ) → k < length shapes → s ≡ shape_at shapes k → IsOver shapes (renamed f s)
shape_over shapes f s a h k lt is =
    let P : ℕ → Type 0 = λ j. IsThere shapes j (f j) in
    record {
      arena = a;
      children = children_renamed (λ n. n < length shapes) f s (map_children P (λ j. f j < length shapes) (λ j x. x.there) s h);
      fits = fits_renamed (width_at shapes) f s (fits_same (λ j. width_at shapes (f j)) (width_at shapes) s (map_children P (λ j. width_at shapes (f j) ≡ width_at shapes j) (λ j x. x.wide) s h)
          (subst (λ (x : Shape). FitsWidths (width_at shapes) x) (sym is) (a.fits k lt)));
    }

shape-there : (old new : List Shape) (f : ℕ → ℕ) (k node : ℕ) → IsArena old → Extends old new → k < length old → OnChildren (λ j. IsThere old j (f j)) (shape_at old k) → Makes old (renamed f (shape_at old k)) new node → IsThere new k node
shape-there old new f k node a e lt h m =
    let s = shape_at old k in
    record {
      there = m.within;
      wide =
          m.width ∙ width_renamed (width_at old) f s
          ∙ width_reads (λ j. width_at old (f j)) (width_at old) s (map_children (λ j. IsThere old j (f j)) (λ j. width_at old (f j) ≡ width_at old j) (λ j x. x.wide) s h)
          ∙ sym (width_follows old k a lt) ∙ sym (width-extends old new k e lt);
    }

shape-value : (old new : List Shape) (r s : Reading) (f : ℕ → ℕ) (k node : ℕ) → IsArena old → Extends old new → k < length old → HasWidths r → is_var (shape_at old k) ≡ false
    → OnChildren (λ j. value_at r old (f j) ≡ value_at s old j) (shape_at old k) → Makes old (renamed f (shape_at old k)) new node → value_at r new node ≡ value_at s new k
shape-value old new r s f k node a e lt wide other h m =
    let sh = shape_at old k in
    m.value r wide
    ∙ value_renamed r (value_at r old) f sh
    ∙ value_reads r (λ j. value_at r old (f j)) (value_at s old) sh h
    ∙ value_folds.elsewhere r s (value_at s old) sh other
    ∙ sym (value_follows s old k a lt)
    ∙ sym (value-extends s old new k e lt)

shape-test : (old new : List Shape) (p q : VarName → ℕ → Bool) (f : ℕ → ℕ) (k node : ℕ) → IsArena old → Extends old new → k < length old → is_var (shape_at old k) ≡ false
    → OnChildren (λ j. each_variable q old j ≡ true → each_variable p old (f j) ≡ true) (shape_at old k) → Makes old (renamed f (shape_at old k)) new node → each_variable q new k ≡ true → each_variable p new node ≡ true
shape-test old new p q f k node a e lt other h m t =
    let sh = shape_at old k in
    let own = variables_children q (each_variable q old) sh (sym (variables_follow q old k a lt) ∙ sym (variables-extends q old new k e lt) ∙ t) in
    m.mentions p
    (variables_renamed p (each_variable p old) f sh
    ∙ all-children p (λ j. each_variable p old (f j)) sh other
    (map_children (λ j. (each_variable q old j ≡ true → each_variable p old (f j) ≡ true) × (each_variable q old j ≡ true)) (λ j. each_variable p old (f j) ≡ true) (λ j x. x.0 x.1) sh
    (join_children (λ j. each_variable q old j ≡ true → each_variable p old (f j) ≡ true) (λ j. each_variable q old j ≡ true) sh h own)))

-- ---- as the arena grows

pub answered_within : (shapes : List Shape) (m : Replacer) (k : ℕ) → IsWalk shapes m → IsMarked m.marks.items k → k < length shapes
answered_within shapes m k h t = let w = h.within in let b = marked_within m.marks.items k t in let n = h.marks in omega (arith, b, n, w)

pub there_kept : (old new : List Shape) (k node : ℕ) → Extends old new → k < length old → IsThere old k node → IsThere new k node
there_kept old new k node e lt h = record {
  there = let t = h.there in let l = e.longer in omega (arith, t, l);
  wide = width-extends old new node e h.there ∙ h.wide ∙ sym (width-extends old new k e lt);
}

pub walk_kept : (old new : List Shape) (m : Replacer) → Extends old new → IsWalk old m → IsWalk new m
walk_kept old new m e h = record {
  marks = h.marks;
  looses = h.looses;
  within = let w = h.within in let l = e.longer in omega (arith, w, l);
  is = λ k a. there_kept old new k (answer_at m k) e (answered_within old m k h a.marked) (h.is k a);
  path = h.path;
  falling = h.falling;
  touched = h.touched;
  below = h.below;
}

pub values_kept : (old new : List Shape) (r s : Reading) (all : Bool) (m : Replacer) → Extends old new → IsWalk old m → HasValues r s all old m → HasValues r s all new m
values_kept old new r s all m e h v = record {
  value = λ k a c.
      value-extends r old new (answer_at m k) e (h.is k a).there ∙ v.value k a c ∙ sym (value-extends s old new k e (answered_within old m k h a.marked));
}

pub tests_kept : (old new : List Shape) (p q : VarName → ℕ → Bool) (all : Bool) (m : Replacer) → Extends old new → IsWalk old m → HasTests p q all old m → HasTests p q all new m
tests_kept old new p q all m e h v = record {
  test = λ k a c t.
      variables-extends p old new (answer_at m k) e (h.is k a).there ∙ v.test k a c (sym (variables-extends q old new k e (answered_within old m k h a.marked)) ∙ t);
}

path-within : (shapes : List Shape) (m : Replacer) → IsWalk shapes m → (i d : ℕ) → i < length m.path.items → get_or m.path.items i d < length shapes
path-within shapes m h i d lt = let b = h.path i d lt in let w = h.within in omega (arith, b, w)

pub path_kept : (old new : List Shape) (q : VarName → ℕ → Bool) (m : Replacer) → Extends old new → IsWalk old m → PathHas q old m → PathHas q new m
path_kept old new q m e h v = λ i d lt. variables-extends q old new (get_or m.path.items i d) e (path-within old m h i d lt) ∙ v i d lt

-- ---- a node comes on the path

-- what is answered was so before
entered-was : (m m2 : Replacer) (k j : ℕ) → Entered m k m2 → IsAnswered m2 j → IsAnswered m j
entered-was m m2 k j e a = elim (cases_eq j k) [
  | inl same ↦ absurd (a.waits (subst (λ (l : List ℕ). Contains l j) (sym e.path) (subst (λ (x : ℕ). Contains (m.path.items ++ k ∷ []) x) (sym same) (contains_last m.path.items k))))
  | inr ne ↦ record {
    marked = sym (get_or-set_other m.marks.items k j true false ne) ∙ ap (λ (l : List Bool). get_or l j false) (sym e.marks) ∙ a.marked;
    waits = λ on. a.waits (subst (λ (l : List ℕ). Contains l j) (sym e.path) (Contains-append_left m.path.items (k ∷ []) j on));
  }
]

entered-answer : (m m2 : Replacer) (k j : ℕ) → Entered m k m2 → answer_at m2 j ≡ answer_at m j
entered-answer m m2 k j e = ap (λ (v : Vec ℕ Global). slice_index v.items j) e.answers

entered-loose : (m m2 : Replacer) (k j : ℕ) → Entered m k m2 → is_loose m2 j ≡ is_loose m j
entered-loose m m2 k j e = ap (λ (v : Vec Bool Global). get_or v.items j false) e.loose

pub walk_enters : (shapes : List Shape) (m m2 : Replacer) (k : ℕ) → IsWalk shapes m → k < length m.answers.items → ((i d : ℕ) → i < length m.path.items → k ≤ get_or m.path.items i d) → Entered m k m2 → IsWalk shapes m2
walk_enters shapes m m2 k h inner low e =
    let long : length m2.answers.items ≡ length m.answers.items = ap (λ (v : Vec ℕ Global). length v.items) e.answers in
    record {
      marks = ap (λ (l : List Bool). length l) e.marks ∙ length-set m.marks.items k true ∙ h.marks ∙ sym long;
      looses = ap (λ (v : Vec Bool Global). length v.items) e.loose ∙ h.looses ∙ sym long;
      within = let w = h.within in omega (arith, w, long);
      is = λ j a. subst (IsThere shapes j) (sym (entered-answer m m2 k j e)) (h.is j (entered-was m m2 k j e a));
      path = subst (λ (len : ℕ). All (λ j. j < len) m2.path.items) (sym long)
          (subst (λ (l : List ℕ). All (λ j. j < length m.answers.items) l) (sym e.path) (All-push (λ j. j < length m.answers.items) m.path.items k h.path inner));
      falling = subst (λ (l : List ℕ). AllPairs (λ a b. b ≤ a) l) (sym e.path) (all_pairs_push (λ a b. b ≤ a) m.path.items k h.falling low);
      touched = λ j t. subst (λ (v : Vec ℕ Global). Contains v.items j) (sym e.touched) (h.touched j (sym (entered-loose m m2 k j e) ∙ t));
      below = subst (λ (len : ℕ). All (λ j. j < len) m2.touched.items) (sym long) (subst (λ (v : Vec ℕ Global). All (λ j. j < length m.answers.items) v.items) (sym e.touched) h.below);
    }

pub values_enter : (shapes : List Shape) (r s : Reading) (all : Bool) (m m2 : Replacer) (k : ℕ) → Entered m k m2 → HasValues r s all shapes m → HasValues r s all shapes m2
values_enter shapes r s all m m2 k e v = record {
  value = λ j a c.
      ap (value_at r shapes) (entered-answer m m2 k j e) ∙ v.value j (entered-was m m2 k j e a) (subst (Counts all) (entered-loose m m2 k j e) c);
}

pub tests_enter : (shapes : List Shape) (p q : VarName → ℕ → Bool) (all : Bool) (m m2 : Replacer) (k : ℕ) → Entered m k m2 → HasTests p q all shapes m → HasTests p q all shapes m2
tests_enter shapes p q all m m2 k e v = record {
  test = λ j a c t. ap (each_variable p shapes) (entered-answer m m2 k j e) ∙ v.test j (entered-was m m2 k j e a) (subst (Counts all) (entered-loose m m2 k j e) c) t;
}

pub path_enter : (shapes : List Shape) (q : VarName → ℕ → Bool) (m m2 : Replacer) (k : ℕ) → Entered m k m2 → each_variable q shapes k ≡ true → PathHas q shapes m → PathHas q shapes m2
path_enter shapes q m m2 k e t v = subst (λ (l : List ℕ). All (λ j. each_variable q shapes j ≡ true) l) (sym e.path) (All-push (λ j. each_variable q shapes j ≡ true) m.path.items k v t)

pub enters_keeps : (m m2 : Replacer) (k : ℕ) → k < length m.marks.items → Entered m k m2 → Keeps m.marks.items m2.marks.items
enters_keeps m m2 k within e j t = ap (λ (l : List Bool). get_or l j false) e.marks ∙ elim (cases_eq j k) [
  | inl same ↦ ap (λ (i : ℕ). get_or (set m.marks.items k true) i false) same ∙ get_or-set_same m.marks.items k true false within
  | inr ne ↦ get_or-set_other m.marks.items k j true false ne ∙ t
]

pub enters_marks : (m m2 : Replacer) (k : ℕ) → k < length m.marks.items → Entered m k m2 → IsMarked m2.marks.items k
enters_marks m m2 k within e = ap (λ (l : List Bool). get_or l k false) e.marks ∙ get_or-set_same m.marks.items k true false within

pub begins_entered : (shapes : List Shape) (m m2 : Replacer) (k : ℕ) → k < length m.marks.items → Entered m k m2 → Begins shapes m k m2
begins_entered shapes m m2 k within e = record {
  values = λ r s all v. values_enter shapes r s all m m2 k e v;
  tests = λ p q all v. tests_enter shapes p q all m m2 k e v;
  path = λ q t v. path_enter shapes q m m2 k e t v;
  kept = enters_keeps m m2 k within e;
  has = enters_marks m m2 k within e;
  size = ap (λ (v : Vec ℕ Global). length v.items) e.answers;
}

pub begins_reached : (shapes : List Shape) (m : Replacer) (k : ℕ) → IsMarked m.marks.items k → Begins shapes m k m
begins_reached shapes m k t = record {
  values = λ r s all v. v;
  tests = λ p q all v. v;
  path = λ q h v. v;
  kept = λ j h. h;
  has = t;
  size = refl;
}

-- the child of a node that waits comes on the path
pub goes_enter : (shapes : List Shape) (m m2 : Replacer) (k j : ℕ) → IsArena shapes → IsWalk shapes m → Waits m k → j < length m.marks.items → IsChild j (shape_at shapes k) → Entered m j m2 → GoesOn shapes m shapes m2
goes_enter shapes m m2 k j a h w within child e = record {
  values = λ r s all wide v. values_enter shapes r s all m m2 j e v;
  tests = λ p q all v. tests_enter shapes p q all m m2 j e v;
  path = λ q v. path_enter shapes q m m2 j e (child-has q v) v;
  kept = enters_keeps m m2 j within e;
  size = ap (λ (v : Vec ℕ Global). length v.items) e.answers;
}
  where
    child-has : (q : VarName → ℕ → Bool) → PathHas q shapes m → each_variable q shapes j ≡ true
    child-has q v =
        let top : k < length shapes = let b = path-within shapes m h (length m.path.items - 1) 0 (let s = w.some in omega (arith, s)) in let l = w.last in omega (arith, b, l) in
        let here : each_variable q shapes k ≡ true = subst (λ (x : ℕ). each_variable q shapes x ≡ true) w.last (v (length m.path.items - 1) 0 (let s = w.some in omega (arith, s))) in
        on_child (λ i. each_variable q shapes i ≡ true) (shape_at shapes k) j (variables_children q (each_variable q shapes) (shape_at shapes k) (sym (variables_follow q shapes k a top) ∙ here)) child

-- ---- the last node of the path leaves it

-- it has the lowest number of the path
pub path_lowest : (shapes : List Shape) (m : Replacer) (k : ℕ) → IsWalk shapes m → Waits m k → (i d : ℕ) → i < length m.path.items → k ≤ get_or m.path.items i d
path_lowest shapes m k h w i d lt =
    let last : ℕ = length m.path.items - 1 in
    let inside : last < length m.path.items = let s = w.some in omega (arith, s) in
    let same : get_or m.path.items last d ≡ k = get_or_default m.path.items last d 0 inside ∙ w.last in
    elim (cases_eq i last) [
      | inl e ↦ let here : get_or m.path.items i d ≡ k = ap (λ j. get_or m.path.items j d) e ∙ same in omega (arith, here)
      | inr ne ↦ omega (arith, h.falling i last d (let s = w.some in omega (arith, lt, ne, s)) inside, same)
    ]

-- a child has a lower number, so it does not wait on the path
pub child_answered : (shapes : List Shape) (m : Replacer) (k j : ℕ) → IsWalk shapes m → Waits m k → IsMarked m.marks.items j → j < k → IsAnswered m j
child_answered shapes m k j h w t lower = record {
  marked = t;
  waits = λ on. let lt : on.0 < length m.path.items = on.1 in omega (arith, lower, on.2, path_lowest shapes m k h w on.0 j lt);
}

path_split : (p : List ℕ) (k : ℕ) → 0 < length p → get_or p (length p - 1) 0 ≡ k → p ≡ take (length p - 1) p ++ k ∷ []
path_split p k some is =
    let last : ℕ = length p - 1 in
    let inside : last < length p = omega (arith, some) in
    sym (take_all (last + 1) p (omega (arith, some))) ∙ take_more p last 0 inside ∙ ap (λ x. take last p ++ x ∷ []) is

touched_kept : (loose : Bool) (k j : ℕ) (list : List ℕ) → Contains list j → Contains (touched_by loose k list) j
touched_kept true k j list h = Contains-append_left list (k ∷ []) j h
touched_kept false k j list h = h

touched_here : (loose : Bool) (k : ℕ) (list : List ℕ) → loose ≡ true → Contains (touched_by loose k list) k
touched_here true k list e = contains_last list k
touched_here false k list e = cc

touched_below : (loose : Bool) (k len : ℕ) (list : List ℕ) → k < len → All (λ j. j < len) list → All (λ j. j < len) (touched_by loose k list)
touched_below true k len list lt h = All-push (λ j. j < len) list k h lt
touched_below false k len list lt h = h

module _ (shapes : List Shape) (m m2 : Replacer) (k node : ℕ) (loose : Bool) (h : IsWalk shapes m) (w : Waits m k) (e : Left m k node loose m2) where
  split : m.path.items ≡ m2.path.items ++ k ∷ []
  split = path_split m.path.items k w.some w.last ∙ ap (λ (l : List ℕ). l ++ k ∷ []) (sym e.path)

  shorter : length m.path.items ≡ length m2.path.items + 1
  shorter = ap (λ (l : List ℕ). length l) split ∙ length_push m2.path.items k

  top : k < length m.answers.items
  top = let b = h.path (length m.path.items - 1) 0 (let s = w.some in omega (arith, s)) in let l = w.last in omega (arith, b, l)

  same : (i d : ℕ) → i < length m2.path.items → get_or m.path.items i d ≡ get_or m2.path.items i d
  same i d lt = ap (λ (l : List ℕ). get_or l i d) split ∙ get_or_append_left m2.path.items (k ∷ []) d i lt

  here : answer_at m2 k ≡ node
  here = ap (λ (l : List ℕ). get_or l k 0) e.answers ∙ get_or-set_same m.answers.items k node 0 top

  here-loose : is_loose m2 k ≡ loose
  here-loose = ap (λ (l : List Bool). get_or l k false) e.loosened ∙ get_or-set_same m.loose.items k loose false (let n = h.looses in let t = top in omega (arith, t, n))

  other : (j : ℕ) → (j ≡ k → ⊥) → answer_at m2 j ≡ answer_at m j
  other j ne = ap (λ (l : List ℕ). get_or l j 0) e.answers ∙ get_or-set_other m.answers.items k j node 0 ne

  other-loose : (j : ℕ) → (j ≡ k → ⊥) → is_loose m2 j ≡ is_loose m j
  other-loose j ne = ap (λ (l : List Bool). get_or l j false) e.loosened ∙ get_or-set_other m.loose.items k j loose false ne

  left-was : (j : ℕ) → (j ≡ k → ⊥) → IsAnswered m2 j → IsAnswered m j
  left-was j ne a = record {
    marked = ap (λ (v : Vec Bool Global). get_or v.items j false) (sym e.marks) ∙ a.marked;
    waits = λ on. elim (Contains-push_cases m2.path.items k j (subst (λ (l : List ℕ). Contains l j) split on)) [
      | inl still ↦ a.waits still
      | inr now ↦ ne (sym now)
    ];
  }

  pub walk_leaves : IsThere shapes k node → IsWalk shapes m2
  walk_leaves there =
      let long : length m2.answers.items ≡ length m.answers.items = ap (λ (l : List ℕ). length l) e.answers ∙ length-set m.answers.items k node in
      let short = shorter in
      record {
        marks = ap (λ (v : Vec Bool Global). length v.items) e.marks ∙ h.marks ∙ sym long;
        looses = ap (λ (l : List Bool). length l) e.loosened ∙ length-set m.loose.items k loose ∙ h.looses ∙ sym long;
        within = let n = h.within in omega (arith, n, long);
        is = λ j a. elim (cases_eq j k) [
          | inl at ↦ subst (λ (x : ℕ). IsThere shapes x (answer_at m2 x)) (sym at) (subst (IsThere shapes k) (sym here) there)
          | inr ne ↦ subst (IsThere shapes j) (sym (other j ne)) (h.is j (left-was j ne a))
        ];
        path = subst (λ (len : ℕ). All (λ j. j < len) m2.path.items) (sym long)
            (λ i d lt. subst (λ (x : ℕ). x < length m.answers.items) (same i d lt) (h.path i d (omega (arith, lt, short))));
        falling = λ i j d lt l. omega (arith, same i d (omega (arith, lt, l)), same j d l, h.falling i j d lt (omega (arith, l, short)));
        touched = λ j t. subst (λ (l : List ℕ). Contains l j) (sym e.touched) (elim (cases_eq j k) [
          | inl at ↦ subst (λ (x : ℕ). Contains (touched_by loose k m.touched.items) x) (sym at) (touched_here loose k m.touched.items (sym here-loose ∙ ap (is_loose m2) (sym at) ∙ t))
          | inr ne ↦ touched_kept loose k j m.touched.items (h.touched j (sym (other-loose j ne) ∙ t))
        ]);
        below = subst (λ (len : ℕ). All (λ j. j < len) m2.touched.items) (sym long)
            (subst (λ (l : List ℕ). All (λ j. j < length m.answers.items) l) (sym e.touched) (touched_below loose k (length m.answers.items) m.touched.items top h.below));
      }

  pub values_leave : (r s : Reading) (all : Bool) → (Counts all loose → value_at r shapes node ≡ value_at s shapes k) → HasValues r s all shapes m → HasValues r s all shapes m2
  values_leave r s all given v = record {
    value = λ j a c. elim (cases_eq j k) [
      | inl at ↦
          ap (λ (x : ℕ). value_at r shapes (answer_at m2 x)) at ∙ ap (value_at r shapes) here
          ∙ given (subst (Counts all) (ap (is_loose m2) at ∙ here-loose) c) ∙ ap (value_at s shapes) (sym at)
      | inr ne ↦ ap (value_at r shapes) (other j ne) ∙ v.value j (left-was j ne a) (subst (Counts all) (other-loose j ne) c)
    ];
  }

  pub tests_leave : (p q : VarName → ℕ → Bool) (all : Bool) → (Counts all loose → each_variable q shapes k ≡ true → each_variable p shapes node ≡ true) → HasTests p q all shapes m → HasTests p q all shapes m2
  tests_leave p q all given v = record {
    test = λ j a c t. elim (cases_eq j k) [
      | inl at ↦ ap (λ (x : ℕ). each_variable p shapes (answer_at m2 x)) at ∙ ap (each_variable p shapes) here ∙ given (subst (Counts all) (ap (is_loose m2) at ∙ here-loose) c) (ap (each_variable q shapes) (sym at) ∙ t)
      | inr ne ↦ ap (each_variable p shapes) (other j ne) ∙ v.test j (left-was j ne a) (subst (Counts all) (other-loose j ne) c) t
    ];
  }

  pub path_leave : (q : VarName → ℕ → Bool) → PathHas q shapes m → PathHas q shapes m2
  path_leave q v = λ i d lt. let short = shorter in subst (λ (x : ℕ). each_variable q shapes x ≡ true) (same i d lt) (v i d (omega (arith, lt, short)))

  keeps_left : Keeps m.marks.items m2.marks.items
  keeps_left = λ j t. ap (λ (v : Vec Bool Global). get_or v.items j false) e.marks ∙ t

  size_left : length m2.answers.items ≡ length m.answers.items
  size_left = ap (λ (l : List ℕ). length l) e.answers ∙ length-set m.answers.items k node

  pub is_given : IsGiven shapes m k node loose m2
  is_given = record { values = values_leave; tests = tests_leave; path = path_leave; kept = keeps_left; size = size_left }

  pub leaves_less : work_left m2 < work_left m
  leaves_less =
      let unmarked : open_marks m2.marks.items ≡ open_marks m.marks.items = ap (λ (v : Vec Bool Global). open_marks v.items) e.marks in
      let short = shorter in
      omega (arith, unmarked, short)

pub enters_less : (m m2 : Replacer) (k : ℕ) → k < length m.marks.items → get_or m.marks.items k false ≡ false → Entered m k m2 → work_left m2 < work_left m
enters_less m m2 k within off e =
    let opens : Bool → ℕ = λ b. cond (not b) 1 0 in
    let one : opens (get_or m.marks.items k false) ≡ 1 = ap opens off in
    let unmarked : open_marks m2.marks.items ≡ open_marks (set m.marks.items k true) = ap (λ (l : List Bool). open_marks l) e.marks in
    let long : length m2.path.items ≡ length m.path.items + 1 = ap (λ (l : List ℕ). length l) e.path ∙ length_push m.path.items k in
    omega (arith, unmarked, long, one, sum_by-set opens m.marks.items k true false within)

-- ---- a shape's answer

counts-child : (all lo loose : Bool) → (lo ≡ true → loose ≡ true) → Counts all loose → Counts all lo
counts-child all true loose h (inl e) = inl e
counts-child all true loose h (inr e) = absurd (false≢true (sym e ∙ h refl))
counts-child all false loose h c = inr refl

module _ (old new : List Shape) (m m2 : Replacer) (k node : ℕ) (a : IsArena old) (h : IsWalk old m) (w : Waits m k) (e : Extends old new) (other : is_variable (shape_at old k) ≡ false)
    (children : OnChildren (λ j. IsMarked m.marks.items j × (j < k)) (shape_at old k)) (makes : Makes old (renamed (answer_at m) (shape_at old k)) new node)
    (l : Left m k node (any_loose m.loose.items (shape_at old k)) m2) where
  abbrev sh : Shape
  sh = shape_at old k

  abbrev loose : Bool
  loose = any_loose m.loose.items sh

  within-old : k < length old
  within-old = let b = path-within old m h (length m.path.items - 1) 0 (let s = w.some in omega (arith, s)) in let q = w.last in omega (arith, b, q)

  answered : OnChildren (IsAnswered m) sh
  answered = map_children (λ j. IsMarked m.marks.items j × (j < k)) (IsAnswered m) (λ j x. child_answered old m k j h w x.0 x.1) sh children

  stands : IsThere new k node
  stands = shape-there old new (answer_at m) k node a e within-old (map_children (IsAnswered m) (λ j. IsThere old j (answer_at m j)) h.is sh answered) makes

  pub answer_walks : IsWalk new m2
  answer_walks = walk_leaves new m m2 k node loose (walk_kept old new m e h) w l stands

  pub answer_goes : GoesOn old m new m2
  answer_goes =
      let kept = walk_kept old new m e h in
      let given = is_given new m m2 k node loose kept w l in
      record {
        values = λ r s all wide v. given.values r s all
            (λ c. shape-value old new r s (answer_at m) k node a e within-old wide (same-variable sh other)
            (map_children (λ j. (get_or m.loose.items j false ≡ true → loose ≡ true) × IsAnswered m j) (λ j. value_at r old (answer_at m j) ≡ value_at s old j)
            (λ j x. v.value j x.1 (counts-child all (is_loose m j) loose x.0 c)) sh
            (join_children (λ j. get_or m.loose.items j false ≡ true → loose ≡ true) (IsAnswered m) sh (children_loose m.loose.items sh) answered)) makes)
            (values_kept old new r s all m e h v);
        tests = λ p q all v. given.tests p q all
            (λ c. shape-test old new p q (answer_at m) k node a e within-old (same-variable sh other)
            (map_children (λ j. (get_or m.loose.items j false ≡ true → loose ≡ true) × IsAnswered m j) (λ j. each_variable q old j ≡ true → each_variable p old (answer_at m j) ≡ true)
            (λ j x. v.test j x.1 (counts-child all (is_loose m j) loose x.0 c)) sh
            (join_children (λ j. get_or m.loose.items j false ≡ true → loose ≡ true) (IsAnswered m) sh (children_loose m.loose.items sh) answered)) makes)
            (tests_kept old new p q all m e h v);
        path = λ q v. given.path q (path_kept old new q m e h v);
        kept = given.kept;
        size = given.size;
      }

-- ---- steps one after another

pub goes_self : (shapes : List Shape) (m : Replacer) → GoesOn shapes m shapes m
goes_self shapes m = record { values = λ r s all w v. v; tests = λ p q all v. v; path = λ q v. v; kept = λ j t. t; size = refl }

pub goes_on : (a b c : List Shape) (l m n : Replacer) → GoesOn a l b m → GoesOn b m c n → GoesOn a l c n
goes_on a b c l m n g h = record {
  values = λ r s all w v. h.values r s all w (g.values r s all w v);
  tests = λ p q all v. h.tests p q all (g.tests p q all v);
  path = λ q v. h.path q (g.path q v);
  kept = λ j t. h.kept j (g.kept j t);
  size = h.size ∙ g.size;
}

-- ---- the same, as code has it

pub children_there : (shapes : List Shape) (m : Replacer) (k : ℕ) (s : Shape) → IsWalk shapes m → Waits m k → OnChildren (λ j. IsMarked m.marks.items j × (j < k)) s → OnChildren (λ j. IsThere shapes j (answer_at m j)) s
children_there shapes m k s h w children =
    map_children (λ j. IsMarked m.marks.items j × (j < k)) (λ j. IsThere shapes j (answer_at m j)) (λ j x. h.is j (child_answered shapes m k j h w x.0 x.1)) s children

pub waits_within : (shapes : List Shape) (m : Replacer) (k : ℕ) → IsWalk shapes m → Waits m k → k < length m.answers.items
waits_within shapes m k h w = let b = h.path (length m.path.items - 1) 0 (let s = w.some in omega (arith, s)) in let l = w.last in omega (arith, b, l)

pub answered_as : (old new : List Shape) (m m2 : Replacer) (k node : ℕ) (s : Shape) (loose : Bool) → s ≡ shape_at old k → loose ≡ any_loose m.loose.items s → IsArena old → IsWalk old m → Waits m k → Extends old new → is_variable s ≡ false
    → OnChildren (λ j. IsMarked m.marks.items j × (j < k)) s → Makes old (renamed (answer_at m) s) new node → Left m k node loose m2 → IsWalk new m2 × GoesOn old m new m2
answered_as old new m m2 k node s loose is count a h w e other children makes l =
    let other-2 = ap is_variable (sym is) ∙ other in
    let children-2 = subst (OnChildren (λ j. IsMarked m.marks.items j × (j < k))) is children in
    let makes-2 = subst (λ (x : Shape). Makes old (renamed (answer_at m) x) new node) is makes in
    let l-2 = subst (λ (b : Bool). Left m k node b m2) (count ∙ ap (any_loose m.loose.items) is) l in
    (answer_walks old new m m2 k node a h w e other-2 children-2 makes-2 l-2, answer_goes old new m m2 k node a h w e other-2 children-2 makes-2 l-2)
