-- Variables that are replaced by the nodes that are named for them.
use Rattle.std.proofs.Common.{◌≡◌, ℕ, ◌-◌, ◌<◌, ◌≤◌, Bool, true, false, List, [], length, get_or, Option, None, Some, refl, sym, ap, ◌∙◌, subst, inl, inr, arith, Vec, Global}
use Rattle.std.specs.Prelude.{slice_index, IsTrue}
use Rattle.std.proofs.lemmas.Bool.{false≢true, ltb-true, eqb-true}
use Rattle.fourvec.proofs.Tables.{left_of, right_of}
use Rattle.svex_shape.specs.declared.shape.VarName.{VarName}
use Rattle.svex_shape.specs.declared.shape.Shape.{Shape}
use Rattle.svex_shape.specs.declared.shape.Shape.TheVariants.{Const, Var, Unary, Binary, Cond, Pick, Slice, Zext, Sext, DynSlice, DynPut}
use Rattle.svex_shape.specs.Shapes.{shape_at, width_at, width_of}
use Rattle.svex_shape.specs.Values.{Reading, HasWidths, value_at, value_of, each_variable, each_variable_of}
use Rattle.svex_arena.specs.Arenas.{IsArena, Extends}
use Rattle.svex_arena.specs.Marks.{IsMarked}
use Rattle.svex_arena.specs.Substs.{Replacements, replacement_of, given_or, replaced_by_named, fits_variable, is_fitting}
use Rattle.svex_arena.proofs.Steps.{value_follows, variables_follow, width_follows, value-extends, variables-extends, width-extends}
use Rattle.node_replace.specs.declared.replacer.Replacer.{Replacer}
use Rattle.node_replace.specs.Walks.{is_loose, answer_at, IsAnswered, IsThere, IsWalk, Counts, HasValues, HasTests, PathHas, IsNew, IsForgotten, IsGiven, GoesOn, Begins, Waits, is_variable}
use Rattle.node_replace.specs.Replacing.{AreNamed, named_or, named_test, IsLasting, IsReplacing, IsReplaced}
use Rattle.node_replace.proofs.Walking.{waits_within}

differ : (b : Bool) → b ≡ false → b ≡ true → ⊥
differ true h k = cc
differ false h k = cc

-- ---- as the arena grows

named-values : (by : Replacements) (old new : List Shape) → Extends old new → AreNamed by (length old) → (r : Reading) → replaced_by_named r by new ≡ replaced_by_named r by old
named-values by old new e h r j name width = go (replacement_of by name) refl j
  where
    go : (o : Option ℕ) → replacement_of by name ≡ o → given_or (value_at r new) (r name width) o ≡ given_or (value_at r old) (r name width) o
    go None is = refl
    go (Some node) is = value-extends r old new node e (h.there name node is)

named-tests : (by : Replacements) (old new : List Shape) → Extends old new → AreNamed by (length old) → (p : VarName → ℕ → Bool) → named_test p by new ≡ named_test p by old
named-tests by old new e h p j name width = go (replacement_of by name) refl j
  where
    go : (o : Option ℕ) → replacement_of by name ≡ o → given_or (each_variable p new) (p name width) o ≡ given_or (each_variable p old) (p name width) o
    go None is = refl
    go (Some node) is = variables-extends p old new node e (h.there name node is)

pub named_more : (by : Replacements) (old new : List Shape) → Extends old new → AreNamed by (length old) → AreNamed by (length new)
named_more by old new e h = record { there = λ name node is. let t = h.there name node is in let l = e.longer in omega (arith, t, l) }

-- ---- a variable and its answer

module _ (by : Replacements) (base shapes : List Shape) (k w : ℕ) (name : VarName) (a : IsArena shapes) (e : Extends base shapes) (named : AreNamed by (length base)) (lt : k < length shapes) (is : shape_at shapes k ≡ Var name w) where
  own-value : (r : Reading) → value_at r shapes k ≡ r name w
  unfolding value_of
  own-value r = value_follows r shapes k a lt ∙ ap (value_of r (value_at r shapes)) is

  own-test : (p : VarName → ℕ → Bool) → each_variable p shapes k ≡ p name w
  unfolding each_variable_of
  own-test p = variables_follow p shapes k a lt ∙ ap (each_variable_of p (each_variable p shapes)) is

  own-width : width_at shapes k ≡ w
  unfolding width_of
  own-width = width_follows shapes k a lt ∙ ap (width_of (width_at shapes)) is

  pub named_value : (r : Reading) → value_at r shapes (named_or by name k) ≡ value_at (replaced_by_named r by base) shapes k
  named_value r = go (replacement_of by name) refl ∙ sym (own-value (replaced_by_named r by base))
    where
      go : (o : Option ℕ) → replacement_of by name ≡ o → value_at r shapes (given_or (λ n. n) k o) ≡ given_or (value_at r base) (r name w) o
      go None at = own-value r
      go (Some node) at = value-extends r base shapes node e (named.there name node at)

  pub named_holds : (p : VarName → ℕ → Bool) → IsTrue (each_variable (named_test p by base) shapes k) → IsTrue (each_variable p shapes (named_or by name k))
  named_holds p t = go (replacement_of by name) refl ∙ sym (own-test (named_test p by base)) ∙ t
    where
      go : (o : Option ℕ) → replacement_of by name ≡ o → each_variable p shapes (given_or (λ n. n) k o) ≡ given_or (each_variable p base) (p name w) o
      go None at = own-test p
      go (Some node) at = variables-extends p base shapes node e (named.there name node at)

  pub named_there : IsTrue (each_variable (fits_variable by base) shapes k) → IsThere shapes k (named_or by name k)
  unfolding fits_variable
  named_there t = go (replacement_of by name) (sym (own-test (fits_variable by base)) ∙ t)
    where
      go : (o : Option ℕ) → given_or (λ node. is_fitting (length base) (width_at base) node w) true o ≡ true → IsThere shapes k (given_or (λ n. n) k o)
      go None f = record { there = lt; wide = refl }
      go (Some node) f =
          let there : node < length base = ltb-true _ _ (left_of _ _ f) in
          record {
            there = let l = e.longer in omega (arith, there, l);
            wide = width-extends base shapes node e there ∙ eqb-true _ _ (right_of _ _ f) ∙ sym own-width;
          }

-- ---- the beginning, and once answers are taken back

pub new_replacing : (n : ℕ) (shapes : List Shape) (by : Replacements) (m : Replacer) → IsNew n m → n ≤ length shapes → AreNamed by (length shapes) → IsReplacing by shapes m
new_replacing n shapes by m h within named =
    let empty = ap length h.path in
    let none = ap length h.touched in
    let long = h.answers in
    record {
      walk = record {
        marks = h.marks ∙ sym h.answers;
        looses = h.looses ∙ sym h.answers;
        within = omega (arith, within, long);
        is = λ k a. absurd (differ (get_or m.marks.items k false) (h.unmarked k) a.marked);
        path = λ i d lt. absurd (omega (arith, lt, empty));
        falling = λ i j d lt l. absurd (omega (arith, l, empty));
        touched = λ k t. absurd (differ (get_or m.loose.items k false) (h.fixed k) t);
        below = λ i d lt. absurd (omega (arith, lt, none));
      };
      idle = h.path;
      named = named;
      values = λ r w. record { value = λ k a c. absurd (differ (get_or m.marks.items k false) (h.unmarked k) a.marked) };
      tests = λ p. record { test = λ k a c t. absurd (differ (get_or m.marks.items k false) (h.unmarked k) a.marked) };
      lasting = record {
        values = λ r s w. record { value = λ k a c. absurd (differ (get_or m.marks.items k false) (h.unmarked k) a.marked) };
        tests = λ p q. record { test = λ k a c t. absurd (differ (get_or m.marks.items k false) (h.unmarked k) a.marked) };
      };
    }

module _ (shapes : List Shape) (m m2 : Replacer) (f : IsForgotten m m2) (walk : IsWalk shapes m) (idle : m.path.items ≡ []) where
  alone : m2.path.items ≡ []
  alone = ap (λ (v : Vec ℕ Global). v.items) f.path ∙ idle

  same-answer : (k : ℕ) → answer_at m2 k ≡ answer_at m k
  same-answer k = ap (λ (v : Vec ℕ Global). slice_index v.items k) f.answers

  was-answered : (k : ℕ) → IsAnswered m2 k → IsAnswered m k
  was-answered k a = record { marked = f.marks.was k a.marked; waits = λ on. let lt : on.0 < length m.path.items = on.1 in let n = ap length idle in omega (arith, lt, n) }

  was-fixed : (k : ℕ) → IsAnswered m2 k → is_loose m k ≡ false
  was-fixed k a = pick (is_loose m k) refl
    where
      pick : (t : Bool) → is_loose m k ≡ t → t ≡ false
      pick true is = absurd (differ (get_or m2.marks.items k false) (f.marks.none k (walk.touched k is)) a.marked)
      pick false is = refl

  pub forgotten_walk : IsWalk shapes m2
  forgotten_walk =
      let long : length m2.answers.items ≡ length m.answers.items = ap (λ (v : Vec ℕ Global). length v.items) f.answers in
      let n = ap length alone in
      let t = ap length f.touched in
      record {
        marks = f.marks.size ∙ walk.marks ∙ sym long;
        looses = f.loose.size ∙ walk.looses ∙ sym long;
        within = let w = walk.within in omega (arith, w, long);
        is = λ k a. subst (IsThere shapes k) (sym (same-answer k)) (walk.is k (was-answered k a));
        path = λ i d lt. absurd (omega (arith, lt, n));
        falling = λ i j d lt l. absurd (omega (arith, l, n));
        touched = λ k on. absurd (differ (get_or m2.loose.items k false) (f.loose.none k (walk.touched k (f.loose.was k on))) on);
        below = λ i d lt. absurd (omega (arith, lt, t));
      }

  -- what held of the answers that are not loose holds of all that are left
  pub forgotten_values : (r s : Reading) (all : Bool) → HasValues r s false shapes m → HasValues r s all shapes m2
  forgotten_values r s all v = record { value = λ k a c. ap (value_at r shapes) (same-answer k) ∙ v.value k (was-answered k a) (inr (was-fixed k a)) }

  pub forgotten_tests : (p q : VarName → ℕ → Bool) (all : Bool) → HasTests p q false shapes m → HasTests p q all shapes m2
  forgotten_tests p q all v = record { test = λ k a c t. ap (each_variable p shapes) (same-answer k) ∙ v.test k (was-answered k a) (inr (was-fixed k a)) t }

pub forgotten_replacing : (shapes : List Shape) (by other : Replacements) (m m2 : Replacer) → IsForgotten m m2 → IsReplacing by shapes m → AreNamed other (length shapes) → IsReplacing other shapes m2
forgotten_replacing shapes by other m m2 f h named = record {
  walk = forgotten_walk shapes m m2 f h.walk h.idle;
  idle = alone shapes m m2 f h.walk h.idle;
  named = named;
  values = λ r w. forgotten_values shapes m m2 f h.walk h.idle r (replaced_by_named r other shapes) true (h.lasting.values r (replaced_by_named r other shapes) w);
  tests = λ p. forgotten_tests shapes m m2 f h.walk h.idle p (named_test p other shapes) true (h.lasting.tests p (named_test p other shapes));
  lasting = record {
    values = λ r s w. forgotten_values shapes m m2 f h.walk h.idle r s false (h.lasting.values r s w);
    tests = λ p q. forgotten_tests shapes m m2 f h.walk h.idle p q false (h.lasting.tests p q);
  };
}

-- ---- at the end of a walk

-- while variables are answered, over the arena of the beginning
pub record Replaces (by : Replacements) (base shapes : List Shape) (m : Replacer) : Type 0 where
  pub values : (r : Reading) → HasWidths r → HasValues r (replaced_by_named r by base) true shapes m
  pub tests : (p : VarName → ℕ → Bool) → HasTests p (named_test p by base) true shapes m
  pub lasting : IsLasting shapes m
  pub path : PathHas (fits_variable by base) shapes m

pub replaces_end : (by : Replacements) (base shapes : List Shape) (m : Replacer) → Extends base shapes → AreNamed by (length base) → IsWalk shapes m → m.path.items ≡ [] → Replaces by base shapes m → IsReplacing by shapes m
replaces_end by base shapes m e named walk idle h = record {
  walk = walk;
  idle = idle;
  named = named_more by base shapes e named;
  values = λ r w. subst (λ (s : Reading). HasValues r s true shapes m) (sym (named-values by base shapes e named r)) (h.values r w);
  tests = λ p. subst (λ (q : VarName → ℕ → Bool). HasTests p q true shapes m) (sym (named-tests by base shapes e named p)) (h.tests p);
  lasting = h.lasting;
}

pub replaced_root : (by : Replacements) (base shapes : List Shape) (m : Replacer) (k : ℕ) → Extends base shapes → IsWalk shapes m → m.path.items ≡ [] → Replaces by base shapes m → k < length base → IsMarked m.marks.items k
    → IsReplaced by base k shapes (answer_at m k)
replaced_root by base shapes m k e walk idle h lt t =
    let a : IsAnswered m k = record { marked = t; waits = λ on. let l : on.0 < length m.path.items = on.1 in let n = ap length idle in omega (arith, l, n) } in
    let there = walk.is k a in
    record {
      there = there.there;
      wide = there.wide ∙ width-extends base shapes k e lt;
      value = λ r w. (h.values r w).value k a (inl refl) ∙ value-extends (replaced_by_named r by base) base shapes k e lt;
      test = λ p q. (h.tests p).test k a (inl refl) (variables-extends (named_test p by base) base shapes k e lt ∙ q);
    }

-- ---- one variable more

pub variable_of : (s : Shape) → IsTrue (is_variable s) → (name : VarName) × ((w : ℕ) × (s ≡ Var name w))
variable_of (Var name w) h = (name, (w, refl))
variable_of (Const v) h = absurd (false≢true h)
variable_of (Unary op a) h = absurd (false≢true h)
variable_of (Binary op a b) h = absurd (false≢true h)
variable_of (Cond c a b) h = absurd (false≢true h)
variable_of (Pick c a b) h = absurd (false≢true h)
variable_of (Slice a lo w) h = absurd (false≢true h)
variable_of (Zext a w) h = absurd (false≢true h)
variable_of (Sext a w) h = absurd (false≢true h)
variable_of (DynSlice a at spot) h = absurd (false≢true h)
variable_of (DynPut a at spot put) h = absurd (false≢true h)

pub begins_replaces : (by : Replacements) (shapes : List Shape) (m m2 : Replacer) (root : ℕ) → IsReplacing by shapes m → Begins shapes m root m2 → IsTrue (each_variable (fits_variable by shapes) shapes root) → Replaces by shapes shapes m2
begins_replaces by shapes m m2 root h b t = record {
  values = λ r w. b.values r (replaced_by_named r by shapes) true (h.values r w);
  tests = λ p. b.tests p (named_test p by shapes) true (h.tests p);
  lasting = record { values = λ r s w. b.values r s false (h.lasting.values r s w); tests = λ p q. b.tests p q false (h.lasting.tests p q) };
  path = b.path (fits_variable by shapes) t (λ i d lt. absurd (let n = ap length h.idle in omega (arith, lt, n)));
}

pub goes_replaces : (by : Replacements) (base old new : List Shape) (m m2 : Replacer) → GoesOn old m new m2 → Replaces by base old m → Replaces by base new m2
goes_replaces by base old new m m2 g h = record {
  values = λ r w. g.values r (replaced_by_named r by base) true w (h.values r w);
  tests = λ p. g.tests p (named_test p by base) true (h.tests p);
  lasting = record { values = λ r s w. g.values r s false w (h.lasting.values r s w); tests = λ p q. g.tests p q false (h.lasting.tests p q) };
  path = g.path (fits_variable by base) h.path;
}

never : Counts false true → ⊥
never (inl e) = false≢true e
never (inr e) = false≢true (sym e)

-- the variable that waits is one of a node that fits
module _ (by : Replacements) (base shapes : List Shape) (m : Replacer) (k answer : ℕ) (a : IsArena shapes) (e : Extends base shapes) (named : AreNamed by (length base)) (walk : IsWalk shapes m) (h : Replaces by base shapes m)
    (w : Waits m k) (variable : IsTrue (is_variable (shape_at shapes k))) (is : (name : VarName) (width : ℕ) → shape_at shapes k ≡ Var name width → answer ≡ named_or by name k) where
  waits-there : k < length shapes
  waits-there = let b = waits_within shapes m k walk w in let n = walk.within in omega (arith, b, n)

  pub given_there : IsThere shapes k answer
  given_there =
      let v = variable_of (shape_at shapes k) variable in
      let fits = subst (λ (x : ℕ). each_variable (fits_variable by base) shapes x ≡ true) w.last (h.path (length m.path.items - 1) 0 (let s = w.some in omega (arith, s))) in
      subst (IsThere shapes k) (sym (is v.0 v.1.0 v.1.1)) (named_there by base shapes k v.1.0 v.0 a e named waits-there v.1.1 fits)

  pub given_replaces : (m2 : Replacer) → IsGiven shapes m k answer true m2 → Replaces by base shapes m2
  given_replaces m2 g =
      let v = variable_of (shape_at shapes k) variable in
      let at = is v.0 v.1.0 v.1.1 in
      record {
        values = λ r wide. g.values r (replaced_by_named r by base) true (λ c. ap (value_at r shapes) at ∙ named_value by base shapes k v.1.0 v.0 a e named waits-there v.1.1 r) (h.values r wide);
        tests = λ p. g.tests p (named_test p by base) true (λ c t. ap (each_variable p shapes) at ∙ named_holds by base shapes k v.1.0 v.0 a e named waits-there v.1.1 p t) (h.tests p);
        lasting = record { values = λ r s wide. g.values r s false (λ c. absurd (never c)) (h.lasting.values r s wide); tests = λ p q. g.tests p q false (λ c. absurd (never c)) (h.lasting.tests p q) };
        path = g.path (fits_variable by base) h.path;
      }
