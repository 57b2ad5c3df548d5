-- Verdicts of goals, one goal more.
use Rattle.std.proofs.Common.{◌≡◌, ℕ, zero, suc, ◌+◌, ◌<◌, ◌≤◌, List, [], ◌∷◌, ◌++◌, length, get_or, map, take, Option, refl, sym, ◌∙◌, ap, subst, arith, length-append}
use Rattle.std.specs.List.{All, AllZip}
use Rattle.fourvec.specs.declared.Bit.{Bit}
use Rattle.goal_text.specs.declared.goal.Goal.{Goal}
use Rattle.goal_text.specs.Nodes.{IsGoal, IsTruth}
use Rattle.goal_text.specs.Scopes.{variables_of, claims_scope, is_of_vars, is_of_table}
use Rattle.goal_tree.specs.declared.tree.GoalTree.{GoalTree}
use Rattle.svex_shape.specs.declared.shape.Shape.{Shape}
use Rattle.svtv_table.specs.declared.bound.Sample.{Sample}
use Rattle.svtv_table.specs.declared.bound.VarDecl.{VarDecl}
use Rattle.svtv_verdicts.specs.Benches.{Bench}
use Rattle.svtv_verdicts.specs.Verdicts.{Verdict, IsRight}
use Rattle.svtv_decide.specs.Posing.{IsOneBit, IsThere}
use Rattle.svtv_texts.specs.Rights.{AreRight, goal_names, names_of}

-- ---- lists side by side

pub zip_long : {A B : Type 0} (R : A → B → Type 0) (xs : List A) (ys : List B) → AllZip R xs ys → length xs ≡ length ys
zip_long R [] [] z = refl
zip_long R [] (y ∷ ys) z = absurd z
zip_long R (x ∷ xs) [] z = absurd z
zip_long R (x ∷ xs) (y ∷ ys) z = ap suc (zip_long R xs ys z.1)

pub zip_at : {A B : Type 0} (R : A → B → Type 0) (xs : List A) (ys : List B) (i : ℕ) (d : A) (e : B) → AllZip R xs ys → i < length ys → R (get_or xs i d) (get_or ys i e)
zip_at R [] [] i d e z l = absurd (omega (arith, l))
zip_at R [] (y ∷ ys) i d e z l = absurd z
zip_at R (x ∷ xs) [] i d e z l = absurd z
zip_at R (x ∷ xs) (y ∷ ys) zero d e z l = z.0
zip_at R (x ∷ xs) (y ∷ ys) (suc i) d e z l = zip_at R xs ys i d e z.1 (omega (arith, l))

right_all : {A B : Type 0} (R : A → B → Type 0) (P : B → Type 0) → ((x : A) (y : B) → R x y → P y) → (xs : List A) (ys : List B) → AllZip R xs ys → All P ys
right_all R P f [] [] z = λ i d l. absurd (omega (arith, l))
right_all R P f [] (y ∷ ys) z = absurd z
right_all R P f (x ∷ xs) [] z = absurd z
right_all R P f (x ∷ xs) (y ∷ ys) z = cons (f x y z.0) (right_all R P f xs ys z.1)
  where
    cons : P y → All P ys → All P (y ∷ ys)
    cons p ps zero d l = p
    cons p ps (suc i) d l = ps i d (omega (arith, l))

pub take_more : {A : Type 0} (xs : List A) (i : ℕ) (d : A) → i < length xs → take (i + 1) xs ≡ take i xs ++ get_or xs i d ∷ []
take_more [] i d l = absurd (omega (arith, l))
take_more (x ∷ xs) zero d l = refl
take_more (x ∷ xs) (suc i) d l = let e : suc i + 1 ≡ suc (i + 1) = omega arith in ap (λ n. take n (x ∷ xs)) e ∙ ap (λ ys. x ∷ ys) (take_more xs i d (omega (arith, l)))

pub take_whole : {A : Type 0} (xs : List A) (i : ℕ) → length xs ≤ i → take i xs ≡ xs
take_whole [] zero l = refl
take_whole [] (suc i) l = refl
take_whole (x ∷ xs) zero l = absurd (omega (arith, l))
take_whole (x ∷ xs) (suc i) l = ap (λ ys. x ∷ ys) (take_whole xs i (omega (arith, l)))

pub map_more : {A B : Type 0} (f : A → B) (xs : List A) (x : A) → map f (xs ++ x ∷ []) ≡ map f xs ++ f x ∷ []
map_more f [] x = refl
map_more f (y ∷ ys) x = ap (λ zs. f y ∷ zs) (map_more f ys x)

-- ---- goals

module _ (vars : List VarDecl) (samples : List Sample) (shapes : List Shape) where
  goal_there : (tree : GoalTree) (goal : Goal) → IsGoal vars samples shapes tree goal → IsThere shapes goal
  goal_there tree goal g = record {
    hyps = right_all (IsTruth (variables_of vars) (is_of_vars vars) shapes) (IsOneBit shapes) (λ x n t. record { there = t.within; wide = t.width }) tree.hyps goal.hyps g.hyps;
    claims = right_all (IsTruth (claims_scope vars samples) (is_of_table vars samples) shapes) (IsOneBit shapes) (λ x n t. record { there = t.within; wide = t.width }) tree.claims goal.claims g.claims;
  }

  pub all_there : (trees : List GoalTree) (goals : List Goal) → AllZip (IsGoal vars samples shapes) trees goals → All (IsThere shapes) goals
  all_there trees goals z = right_all (IsGoal vars samples shapes) (IsThere shapes) goal_there trees goals z

  pub names_same : (trees : List GoalTree) (goals : List Goal) → AllZip (IsGoal vars samples shapes) trees goals → names_of goals ≡ goal_names trees
  names_same [] [] z = refl
  names_same [] (g ∷ goals) z = absurd z
  names_same (t ∷ trees) [] z = absurd z
  names_same (t ∷ trees) (g ∷ goals) z = ap (λ n. n ∷ names_of goals) (z.0.name) ∙ ap (λ ns. t.name.text ∷ ns) (names_same trees goals z.1)

-- ---- verdicts

pub right_more : (b : Bench) (goals : List GoalTree) (budget : Option ℕ) (verdicts : List Verdict) (shown : List (List (List Bit))) (goal : GoalTree) (verdict : Verdict) (values : List (List Bit))
    → AreRight b goals budget verdicts shown → IsRight b goal budget verdict values → AreRight b (goals ++ goal ∷ []) budget (verdicts ++ verdict ∷ []) (shown ++ values ∷ [])
right_more b [] budget [] [] goal verdict values h r = (r, tt)
right_more b [] budget [] (s ∷ shown) goal verdict values h r = absurd h
right_more b [] budget (v ∷ verdicts) shown goal verdict values h r = absurd h
right_more b (g ∷ goals) budget [] shown goal verdict values h r = absurd h
right_more b (g ∷ goals) budget (v ∷ verdicts) [] goal verdict values h r = absurd h
right_more b (g ∷ goals) budget (v ∷ verdicts) (s ∷ shown) goal verdict values h r = (h.0, right_more b goals budget verdicts shown goal verdict values h.1 r)

-- the verdicts of the first goals, and of one more
pub right_next : (b : Bench) (goals : List GoalTree) (budget : Option ℕ) (i : ℕ) (d : GoalTree) (verdicts more : List Verdict) (shown all : List (List (List Bit))) (verdict : Verdict) (values : List (List Bit))
    → i < length goals → more ≡ verdicts ++ verdict ∷ [] → all ≡ shown ++ values ∷ [] → AreRight b (take i goals) budget verdicts shown → IsRight b (get_or goals i d) budget verdict values
    → AreRight b (take (i + 1) goals) budget more all
right_next b goals budget i d verdicts more shown all verdict values l e f h r =
    subst (λ gs. AreRight b gs budget more all) (sym (take_more goals i d l))
    (subst (λ vs. AreRight b (take i goals ++ get_or goals i d ∷ []) budget vs all) (sym e)
    (subst (λ ss. AreRight b (take i goals ++ get_or goals i d ∷ []) budget (verdicts ++ verdict ∷ []) ss) (sym f) (right_more b (take i goals) budget verdicts shown (get_or goals i d) verdict values h r)))

-- a list and the names grow by one each
pub one_longer : {A B : Type 0} (xs : List A) (ns : List B) (more : List A) (all : List B) (x : A) (n : B) → more ≡ xs ++ x ∷ [] → all ≡ ns ++ n ∷ [] → length xs ≡ length ns → length more ≡ length all
one_longer xs ns more all x n e f l =
    ap length e ∙ (length-append xs (x ∷ []) ∙ ((let g : length xs + 1 ≡ length ns + 1 = omega (arith, l) in g) ∙ (sym (length-append ns (n ∷ [])) ∙ sym (ap length f))))

pub no_goal : GoalTree
no_goal = record { name = record { text = []; place = record { file = 0; line = 0; column = 0 } }; hyps = []; claims = [] }
