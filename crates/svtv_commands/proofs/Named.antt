-- The goals of a file by their names.
use Rattle.std.proofs.Common.{◌≡◌, ◌≢◌, ℕ, zero, suc, ◌<◌, Bool, true, false, not, List, [], ◌∷◌, length, get_or, IsTrue, refl, sym, ◌∙◌, ap, subst, arith}
use Rattle.std.specs.List.{All, AllZip, Contains, list_all}
use Rattle.std.proofs.lemmas.Bool.{false≢true, and_parts, and_from, ne_eqb}
use Rattle.std.proofs.lemmas.List.Elements.{All-nil, All-cons, All-contains}
use Rattle.goal_text.specs.declared.goal.Goal.{Goal}
use Rattle.goal_text.specs.Nodes.{IsGoal}
use Rattle.goal_tree.specs.Goals.{IsGoals, SpellsGoal}
use Rattle.goal_tree.specs.declared.tree.GoalTree.{GoalTree}
use Rattle.lrat_text.specs.Printed.{IsOneLine}
use Rattle.lrat_text.specs.Texts.{is_inside}
use Rattle.sv_outside.specs.Words.{goes_on, is_id, is_reserved, is_word, starts_word}
use Rattle.sv_outside.specs.declared.text.Token.{Token}
use Rattle.sv_tree.specs.Spelling.{each, name}
use Rattle.sv_tree.specs.declared.word.Word.{Word}
use Rattle.svex_shape.specs.declared.shape.Shape.{Shape}
use Rattle.svtv_files.specs.Files.{Text}
use Rattle.svtv_files.specs.Refusals.{HasGoal}
use Rattle.svtv_table.specs.declared.bound.Sample.{Sample}
use Rattle.svtv_table.specs.declared.bound.VarDecl.{VarDecl}

-- ---- lists side by side

later : {A : Type 0} (x : A) (xs : List A) (y : A) → Contains xs y → Contains (x ∷ xs) y
later x xs y h = (suc h.0, omega (arith, h.1), h.2)

module _ {A B : Type 0} (R : A → B → Type 0) where
  pub from_right : (xs : List A) (ys : List B) (y : B) → AllZip R xs ys → (k : ℕ) → k < length ys → get_or ys k y ≡ y → (x : A) × Contains xs x × R x y
  from_right [] [] y z k l e = absurd (omega (arith, l))
  from_right [] (b ∷ ys) y z k l e = absurd z
  from_right (a ∷ xs) [] y z k l e = absurd z
  from_right (a ∷ xs) (b ∷ ys) y z zero l e = (a, (0, omega arith, refl), subst (λ (v : B). R a v) e z.0)
  from_right (a ∷ xs) (b ∷ ys) y z (suc k) l e = let r = from_right xs ys y z.1 k (omega (arith, l)) e in (r.0, later a xs r.0 r.1, r.2)

  pub from_left : (xs : List A) (ys : List B) (x : A) → AllZip R xs ys → (k : ℕ) → k < length xs → get_or xs k x ≡ x → (y : B) × Contains ys y × R x y
  from_left [] [] x z k l e = absurd (omega (arith, l))
  from_left [] (b ∷ ys) x z k l e = absurd z
  from_left (a ∷ xs) [] x z k l e = absurd z
  from_left (a ∷ xs) (b ∷ ys) x z zero l e = (b, (0, omega arith, refl), subst (λ (v : A). R v b) e z.0)
  from_left (a ∷ xs) (b ∷ ys) x z (suc k) l e = let r = from_left xs ys x z.1 k (omega (arith, l)) e in (r.0, later b ys r.0 r.1, r.2)

-- ---- goals

-- where no goal has the name, no tree has it
pub none_named : (vars : List VarDecl) (samples : List Sample) (shapes : List Shape) (trees : List GoalTree) (goals : List Goal) (own : Text) → AllZip (IsGoal vars samples shapes) trees goals
    → All (λ goal. goal.name ≢ own) goals → HasGoal trees own → ⊥
none_named vars samples shapes trees goals own z none h =
    let y = from_left (IsGoal vars samples shapes) trees goals h.0 z h.1.0 h.1.1 h.1.2 in All-contains (λ (goal : Goal). goal.name ≢ own) goals y.0 none y.1 (y.2.name ∙ h.2)

-- ---- names are of one line

no_feed : (p : ℕ → Bool) → p 10 ≡ false → (b : ℕ) → p b ≡ true → is_inside b ≡ true
no_feed p none b h = ap not (ne_eqb b 10 (λ e. false≢true (sym none ∙ ap p (sym e) ∙ h)))

all_inside : (bs : Text) → list_all goes_on bs ≡ true → list_all is_inside bs ≡ true
all_inside [] h = refl
all_inside (b ∷ bs) h = let p = and_parts (goes_on b) (list_all goes_on bs) h in and_from (is_inside b) (list_all is_inside bs) (no_feed goes_on refl b p.0) (all_inside bs p.1)

word_inside : (w : Text) → is_word w ≡ true → IsOneLine w
word_inside [] h = refl
word_inside (b ∷ bs) h = let p = and_parts (starts_word b) (list_all goes_on bs) h in and_from (is_inside b) (list_all is_inside bs) (no_feed starts_word refl b p.0) (all_inside bs p.1)

id_inside : (w : Text) → IsTrue (is_id w) → IsOneLine w
id_inside w h = word_inside w (and_parts (is_word w) (not (is_reserved w)) h).0

name_inside : (w : Word) (from to : List Token) → name w from to → IsOneLine w.text
name_inside w [] to h = absurd h
name_inside w (a ∷ from) to h = id_inside w.text h.0.3

goal_inside : (g : GoalTree) (from to : List Token) → SpellsGoal g from to → IsOneLine g.name.text
goal_inside g from to h = name_inside g.name h.0 h.2.0 h.2.1

each_inside : (trees : List GoalTree) (from to : List Token) → each SpellsGoal trees from to → All (λ g. IsOneLine g.name.text) trees
each_inside [] from to h = All-nil (λ (g : GoalTree). IsOneLine g.name.text)
each_inside (g ∷ trees) from to h = All-cons (λ (t : GoalTree). IsOneLine t.name.text) g trees (goal_inside g from h.0 h.1) (each_inside trees h.0 to h.2)

-- the names of goals that tokens spell
pub names_inside : (trees : List GoalTree) (tokens : List Token) → IsGoals trees tokens → All (λ g. IsOneLine g.name.text) trees
names_inside [] tokens h = absurd h
names_inside (g ∷ trees) tokens h = All-cons (λ (t : GoalTree). IsOneLine t.name.text) g trees (goal_inside g tokens h.0 h.1) (each_inside trees h.0 [] h.2)
