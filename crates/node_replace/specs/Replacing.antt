-- Variables that are replaced by the nodes that are named for them.
use Rattle.std.specs.Prelude.{◌≡◌, ◌<◌, ℕ, Bool, true, false, List, [], length, IsTrue, Some}
use Rattle.svex_shape.specs.declared.shape.VarName.{VarName}
use Rattle.svex_shape.specs.declared.shape.Shape.{Shape}
use Rattle.svex_shape.specs.Shapes.{width_at}
use Rattle.svex_shape.specs.Values.{Reading, HasWidths, value_at, each_variable}
use Rattle.svex_arena.specs.Substs.{Replacements, replacement_of, given_or, replaced_by_named}
use Rattle.node_replace.specs.declared.replacer.Replacer.{Replacer}
use Rattle.node_replace.specs.Walks.{IsWalk, HasValues, HasTests}

-- the nodes that are named are among the first n
pub record AreNamed (by : Replacements) (n : ℕ) : Type 0 where
  pub there : (name : VarName) (node : ℕ) → replacement_of by name ≡ Some node → node < n

-- what is named for a variable, or the variable
abbrev pub named_or : Replacements → VarName → ℕ → ℕ
named_or by name k = given_or (λ n. n) k (replacement_of by name)

-- a test of a variable, or of each variable of the node that is named for it
abbrev pub named_test : (VarName → ℕ → Bool) → Replacements → List Shape → VarName → ℕ → Bool
named_test p by shapes name width = given_or (each_variable p shapes) (p name width) (replacement_of by name)

-- what is not loose mentions no variable, so it stands for its node whatever is named
pub record IsLasting (shapes : List Shape) (m : Replacer) : Type 0 where
  pub values : (r s : Reading) → HasWidths r → HasValues r s false shapes m
  pub tests : (p q : VarName → ℕ → Bool) → HasTests p q false shapes m

-- Each answer is its node with the variables replaced by the nodes that are named for them.
pub record IsReplacing (by : Replacements) (shapes : List Shape) (m : Replacer) : Type 0 where
  pub walk : IsWalk shapes m
  pub idle : m.path.items ≡ []
  pub named : AreNamed by (length shapes)
  pub values : (r : Reading) → HasWidths r → HasValues r (replaced_by_named r by shapes) true shapes m
  pub tests : (p : VarName → ℕ → Bool) → HasTests p (named_test p by shapes) true shapes m
  pub lasting : IsLasting shapes m

-- a later node that has the width of another, and its value and variables once these are replaced
pub record IsReplaced (by : Replacements) (old : List Shape) (k : ℕ) (new : List Shape) (node : ℕ) : Type 0 where
  pub there : node < length new
  pub wide : width_at new node ≡ width_at old k
  pub value : (r : Reading) → HasWidths r → value_at r new node ≡ value_at (replaced_by_named r by old) old k
  pub test : (p : VarName → ℕ → Bool) → IsTrue (each_variable (named_test p by old) old k) → IsTrue (each_variable p new node)
