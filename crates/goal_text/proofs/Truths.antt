-- Nodes of truths, and that they stay as the arena grows.
use Rattle.std.proofs.Common.{◌≡◌, ℕ, ◌+◌, ◌<◌, Bool, List, [], ◌∷◌, ◌++◌, length, take, get_or, IsTrue, refl, sym, ap, ◌∙◌, subst, arith}
use Rattle.std.specs.List.{AllZip}
use Rattle.fourvec.specs.declared.Bit.{Bit}
use Rattle.fourvec.specs.Bits.{first, truth_of}
use Rattle.driver_resolve.specs.Drivers.{bitwise}
use Rattle.sv_meaning.specs.Layouts.{Read, Scope, Origin, of_wires, of_choice, of_samples}
use Rattle.sv_meaning.specs.Meanings as m
use Rattle.sv_meaning.specs.Values.{mean}
use Rattle.sv_modules.proofs.Turns.{take_next}
use Rattle.sv_lower.specs.Lowering.{look_read, look_test, each_signal, HoldsOfDeclared}
use Rattle.sv_lower.specs.Nodes.{bits_at_node}
use Rattle.sv_lower.specs.declared.look.Look.TheVariants.{Present}
use Rattle.sv_lower.proofs.Making.{made, from_unary}
use Rattle.sv_lower.proofs.Sources.{declared_hold}
use Rattle.sv_tree.specs.declared.exprs.Expr.{Expr}
use Rattle.sv_typed.specs.declared.tree.Typed.{Typed}
use Rattle.sv_typed.specs.Typed.{own, worth, Stands}
use Rattle.svex_shape.specs.declared.shape.Shape.{Shape}
use Rattle.svex_shape.specs.declared.shape.Shape.TheVariants.{Unary}
use Rattle.svex_shape.specs.declared.shape.Un.TheVariants.{Truth}
use Rattle.svex_shape.specs.declared.shape.VarName.{VarName}
use Rattle.svex_shape.specs.Values.{each_variable}
use Rattle.svex_arena.specs.Arenas.{Extends, Interned, IsArena}
use Rattle.svex_arena.proofs.Steps.{value-extends, width-extends, variables-extends}
use Rattle.goal_tree.specs.declared.tree.GoalTree.{GoalTree}
use Rattle.svtv_table.specs.declared.bound.Sample.{Sample}
use Rattle.svtv_table.specs.declared.bound.VarDecl.{VarDecl}
use Rattle.goal_text.specs.declared.goal.Goal.{Goal}
use Rattle.goal_text.specs.Scopes.{table_read, variables_of, claims_scope, is_of_vars, is_of_table}
use Rattle.goal_text.specs.Nodes.{HasTruth, IsTruthOf, IsTruth, IsLowered, IsGoal}

-- ---- one node

pub truth_made : (old mid new : List Shape) (t : Typed) (a n : ℕ) → IsArena new → Extends mid new → a < length mid
    → ((bits : VarName → ℕ → Bit) → bits_at_node bits mid a ≡ worth t (look_read Present old bits) t.width t.signed)
    → ((p : VarName → ℕ → Bool) → IsTrue (each_signal (look_test Present old p) t) → IsTrue (each_variable p mid a))
    → Interned mid (Unary Truth a) new n → IsTruthOf old new t n
truth_made old mid new t a n arena grown within value mentions is =
    let u = from_unary mid new Truth a n (made mid (Unary Truth a) new n arena grown within is) in
    record { within = u.within; width = u.width; value = λ bits. u.value bits ∙ ap truth_of (value bits); mentions = λ p h. u.mentions p (mentions p h) }

read_at : (bits : VarName → ℕ → Bit) (shapes : List Shape) (o : Origin) (n k : ℕ) → look_read Present shapes bits o n k ≡ table_read bits o n k
unfolding look_read
read_at bits shapes of_wires n k = refl
read_at bits shapes of_choice n k = refl
read_at bits shapes of_samples n k = refl

read_same : (bits : VarName → ℕ → Bit) (shapes : List Shape) → ◌≡◌ {A = Read} (look_read Present shapes bits) (table_read bits)
read_same bits shapes = λ i o n k. read_at bits shapes o n k i

own_worth : (t : Typed) (x : m.Meaning) (read : Read) → Stands t x → m.own x read ≡ own t read
unfolding Stands
own_worth t x read h = ap (λ y. m.own y read) h.is

one_bit : (v : List Bit) → truth_of v ≡ first (truth_of v) ∷ []
unfolding truth_of
one_bit v = refl

pub truth_stands : (at : Scope) (x : Expr) (old new : List Shape) (t : Typed) (n : ℕ) → Stands t (mean at x) → IsTruthOf old new t n → HasTruth at new x n
truth_stands at x old new t n h k = record {
  within = k.within;
  width = k.width;
  value = λ bits. k.value bits ∙ ap (λ r. truth_of (own t r)) (read_same bits old) ∙ ap truth_of (sym (own_worth t (mean at x) (table_read bits) h)) ∙ one_bit (m.own (mean at x) (table_read bits));
  mentions = λ p d. k.mentions p (declared_hold at x t old p h d);
}

-- ---- growth

pub truth_kept : (at : Scope) (old new : List Shape) → Extends old new → (x : Expr) (n : ℕ) → HasTruth at old x n → HasTruth at new x n
truth_kept at old new e x n h = record {
  within = omega (arith, e.longer, h.within);
  width = width-extends old new n e h.within ∙ h.width;
  value = λ bits. value-extends (bitwise bits) old new n e h.within ∙ h.value bits;
  mentions = λ p d. variables-extends p old new n e h.within ∙ h.mentions p d;
}

pub zip_weaker : {A B : Type 0} (R S : A → B → Type 0) → ((x : A) (y : B) → R x y → S x y) → (xs : List A) (ys : List B) → AllZip R xs ys → AllZip S xs ys
zip_weaker R S up [] [] h = tt
zip_weaker R S up [] (y ∷ ys) h = absurd h
zip_weaker R S up (x ∷ xs) [] h = absurd h
zip_weaker R S up (x ∷ xs) (y ∷ ys) h = (up x y h.0, zip_weaker R S up xs ys h.1)

pub zip_push : {A B : Type 0} (R : A → B → Type 0) (xs : List A) (ys : List B) (x : A) (y : B) → AllZip R xs ys → R x y → AllZip R (xs ++ x ∷ []) (ys ++ y ∷ [])
zip_push R [] [] x y h r = (r, tt)
zip_push R [] (b ∷ ys) x y h r = absurd h
zip_push R (a ∷ xs) [] x y h r = absurd h
zip_push R (a ∷ xs) (b ∷ ys) x y h r = (h.0, zip_push R xs ys x y h.1 r)

-- one turn of a loop whose relation is kept as the arena grows
pub zip_next : {A B : Type 0} (R : List Shape → A → B → Type 0) → ((old new : List Shape) → Extends old new → (x : A) (y : B) → R old x y → R new x y)
    → (old new : List Shape) (all : List A) (i : ℕ) (x : A) (found later : List B) (y : B) → Extends old new → i < length all → x ≡ get_or all i x → later ≡ found ++ y ∷ []
    → AllZip (R old) (take i all) found → R new x y → AllZip (R new) (take (i + 1) all) later
zip_next R keeps old new all i x found later y e lt is pushed h r =
    subst (λ l. AllZip (R new) l later) (sym (take_next all i x lt is))
    (subst (AllZip (R new) (take i all ++ x ∷ [])) (sym pushed) (zip_push (R new) (take i all) found x y (zip_weaker (R old) (R new) (keeps old new e) (take i all) found h) r))

pub truths_kept : (at : Scope) (old new : List Shape) (xs : List Expr) (ns : List ℕ) → Extends old new → AllZip (HasTruth at old) xs ns → AllZip (HasTruth at new) xs ns
truths_kept at old new xs ns e h = zip_weaker (HasTruth at old) (HasTruth at new) (truth_kept at old new e) xs ns h

pub lowered_kept : (hyps claims : Scope) (old new : List Shape) → Extends old new → (tree : GoalTree) (goal : Goal) → IsLowered hyps claims old tree goal → IsLowered hyps claims new tree goal
lowered_kept hyps claims old new e tree goal h = record {
  name = h.name;
  over_hyps = truths_kept hyps old new tree.hyps goal.hyps e h.over_hyps;
  over_claims = truths_kept claims old new tree.claims goal.claims e h.over_claims;
}

-- ---- goals

truth_allowed : (at : Scope) (p : VarName → ℕ → Bool) (shapes : List Shape) → HoldsOfDeclared at p → (x : Expr) (n : ℕ) → HasTruth at shapes x n → IsTruth at p shapes x n
truth_allowed at p shapes d x n h = record { within = h.within; width = h.width; value = h.value; mentions = h.mentions p d }

pub goal_is : (vars : List VarDecl) (samples : List Sample) (hyps claims : Scope) (shapes : List Shape) → hyps ≡ variables_of vars → claims ≡ claims_scope vars samples
    → HoldsOfDeclared (variables_of vars) (is_of_vars vars) → HoldsOfDeclared (claims_scope vars samples) (is_of_table vars samples)
    → (tree : GoalTree) (goal : Goal) → IsLowered hyps claims shapes tree goal → IsGoal vars samples shapes tree goal
goal_is vars samples hyps claims shapes e f d g tree goal h = record {
  name = h.name;
  hyps = zip_weaker _ _ (truth_allowed (variables_of vars) (is_of_vars vars) shapes d) tree.hyps goal.hyps (subst (λ at. AllZip (HasTruth at shapes) tree.hyps goal.hyps) e h.over_hyps);
  claims = zip_weaker _ _ (truth_allowed (claims_scope vars samples) (is_of_table vars samples) shapes g) tree.claims goal.claims (subst (λ at. AllZip (HasTruth at shapes) tree.claims goal.claims) f h.over_claims);
}
