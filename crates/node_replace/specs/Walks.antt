-- A walk over the nodes of the beginning, and what stands for them.
use Rattle.std.specs.Prelude.{◌≡◌, ◌⊎◌, ◌||◌, ◌+◌, ◌-◌, ◌<◌, ◌≤◌, ℕ, Bool, true, false, not, List, [], ◌∷◌, ◌++◌, length, take, All, AllPairs, IsTrue, Option, None, Some, slice_index, slice_index_or, slice_set, if◌then◌else◌}
use Rattle.std.specs.List.{Contains, count_by}
use Rattle.svex_shape.specs.declared.shape.VarName.{VarName}
use Rattle.svex_shape.specs.declared.shape.Shape.{Shape}
use Rattle.svex_shape.specs.declared.shape.Shape.TheVariants.{Var}
use Rattle.svex_shape.specs.Shapes.{width_at}
use Rattle.svex_shape.specs.Values.{Reading, HasWidths, value_at, each_variable}
use Rattle.svex_arena.specs.Marks.{IsMarked}
pub use Rattle.svex_shape.specs.Children.{children_of}
use Rattle.node_replace.specs.declared.replacer.Replacer.{Replacer}

abbrev pub is_loose : Replacer → ℕ → Bool
is_loose m k = slice_index_or m.loose.items k false

abbrev pub answer_at : Replacer → ℕ → ℕ
answer_at m k = slice_index m.answers.items k

-- the node was reached, and waits for its answer no more
pub record IsAnswered (m : Replacer) (k : ℕ) : Type 0 where
  pub marked : IsMarked m.marks.items k
  pub waits : Contains m.path.items k → ⊥

-- what stands for it is there, and as wide
pub record IsThere (shapes : List Shape) (k node : ℕ) : Type 0 where
  pub there : node < length shapes
  pub wide : width_at shapes node ≡ width_at shapes k

-- Each node that was reached is answered or waits on the path, where no number is higher than one before it; loose ones are touched.
pub record IsWalk (shapes : List Shape) (m : Replacer) : Type 0 where
  pub marks : length m.marks.items ≡ length m.answers.items
  pub looses : length m.loose.items ≡ length m.answers.items
  pub within : length m.answers.items ≤ length shapes
  pub is : (k : ℕ) → IsAnswered m k → IsThere shapes k (answer_at m k)
  pub path : All (λ k. k < length m.answers.items) m.path.items
  pub falling : AllPairs (λ a b. b ≤ a) m.path.items
  pub touched : (k : ℕ) → IsTrue (is_loose m k) → Contains m.touched.items k
  pub below : All (λ k. k < length m.answers.items) m.touched.items

-- ---- what answers mean

-- What holds of all answers, or only of those that are not loose, holds of this one.
abbrev pub Counts : Bool → Bool → Type 0
Counts all loose = (all ≡ true) ⊎ (loose ≡ false)

-- Each answer has in one reading the value that its node has in another.
pub record HasValues (r s : Reading) (all : Bool) (shapes : List Shape) (m : Replacer) : Type 0 where
  pub value : (k : ℕ) → IsAnswered m k → Counts all (is_loose m k) → value_at r shapes (answer_at m k) ≡ value_at s shapes k

-- A test holds of each variable of an answer, where another holds of each of its node.
pub record HasTests (p q : VarName → ℕ → Bool) (all : Bool) (shapes : List Shape) (m : Replacer) : Type 0 where
  pub test : (k : ℕ) → IsAnswered m k → Counts all (is_loose m k) → IsTrue (each_variable q shapes k) → IsTrue (each_variable p shapes (answer_at m k))

-- a test holds of each variable of the nodes that wait
abbrev pub PathHas : (VarName → ℕ → Bool) → List Shape → Replacer → Type 0
PathHas q shapes m = All (λ k. IsTrue (each_variable q shapes k)) m.path.items

-- what is marked stays so
abbrev pub Keeps : List Bool → List Bool → Type 0
Keeps old new = (k : ℕ) → IsMarked old k → IsMarked new k

-- a walk that goes on keeps what its answers mean
pub record GoesOn (old : List Shape) (m : Replacer) (new : List Shape) (m2 : Replacer) : Type 0 where
  pub values : (r s : Reading) (all : Bool) → HasWidths r → HasValues r s all old m → HasValues r s all new m2
  pub tests : (p q : VarName → ℕ → Bool) (all : Bool) → HasTests p q all old m → HasTests p q all new m2
  pub path : (q : VarName → ℕ → Bool) → PathHas q old m → PathHas q new m2
  pub kept : Keeps m.marks.items m2.marks.items
  pub size : length m2.answers.items ≡ length m.answers.items

-- a walk that is given an answer keeps what holds of it, too
pub record IsGiven (shapes : List Shape) (m : Replacer) (k node : ℕ) (loose : Bool) (m2 : Replacer) : Type 0 where
  pub values : (r s : Reading) (all : Bool) → (Counts all loose → value_at r shapes node ≡ value_at s shapes k) → HasValues r s all shapes m → HasValues r s all shapes m2
  pub tests : (p q : VarName → ℕ → Bool) (all : Bool) → (Counts all loose → IsTrue (each_variable q shapes k) → IsTrue (each_variable p shapes node)) → HasTests p q all shapes m → HasTests p q all shapes m2
  pub path : (q : VarName → ℕ → Bool) → PathHas q shapes m → PathHas q shapes m2
  pub kept : Keeps m.marks.items m2.marks.items
  pub size : length m2.answers.items ≡ length m.answers.items

-- a walk that begins at a node reaches it
pub record Begins (shapes : List Shape) (m : Replacer) (root : ℕ) (m2 : Replacer) : Type 0 where
  pub values : (r s : Reading) (all : Bool) → HasValues r s all shapes m → HasValues r s all shapes m2
  pub tests : (p q : VarName → ℕ → Bool) (all : Bool) → HasTests p q all shapes m → HasTests p q all shapes m2
  pub path : (q : VarName → ℕ → Bool) → IsTrue (each_variable q shapes root) → PathHas q shapes m → PathHas q shapes m2
  pub kept : Keeps m.marks.items m2.marks.items
  pub has : IsMarked m2.marks.items root
  pub size : length m2.answers.items ≡ length m.answers.items

-- the node is the last of the path
pub record Waits (m : Replacer) (k : ℕ) : Type 0 where
  pub some : 0 < length m.path.items
  pub last : slice_index m.path.items (length m.path.items - 1) ≡ k

abbrev pub is_variable : Shape → Bool
is_variable (Var name width) = true
is_variable s = false

-- over n nodes, and without answers
pub record IsNew (n : ℕ) (m : Replacer) : Type 0 where
  pub answers : length m.answers.items ≡ n
  pub marks : length m.marks.items ≡ n
  pub looses : length m.loose.items ≡ n
  pub unmarked : (k : ℕ) → slice_index_or m.marks.items k false ≡ false
  pub fixed : (k : ℕ) → slice_index_or m.loose.items k false ≡ false
  pub touched : m.touched.items ≡ []
  pub path : m.path.items ≡ []

-- ---- steps of a walk

abbrev pub open_marks : List Bool → ℕ
open_marks marks = count_by (λ b. not b) marks

-- a node may still come on the path and leave it, and one of the path may still leave it
abbrev pub work_left : Replacer → ℕ
work_left m = open_marks m.marks.items + open_marks m.marks.items + length m.path.items

-- a node is marked and put on the path
pub record Entered (m : Replacer) (k : ℕ) (m2 : Replacer) : Type 0 where
  pub marks : m2.marks.items ≡ slice_set m.marks.items k true
  pub path : m2.path.items ≡ m.path.items ++ k ∷ []
  pub answers : m2.answers ≡ m.answers
  pub loose : m2.loose ≡ m.loose
  pub touched : m2.touched ≡ m.touched

-- what is loose is touched
abbrev pub touched_by : Bool → ℕ → List ℕ → List ℕ
touched_by loose k touched = if loose then touched ++ k ∷ [] else touched

-- the last node of the path leaves it with its answer
pub record Left (m : Replacer) (k node : ℕ) (loose : Bool) (m2 : Replacer) : Type 0 where
  pub marks : m2.marks ≡ m.marks
  pub path : m2.path.items ≡ take (length m.path.items - 1) m.path.items
  pub answers : m2.answers.items ≡ slice_set m.answers.items k node
  pub loosened : m2.loose.items ≡ slice_set m.loose.items k loose
  pub touched : m2.touched.items ≡ touched_by loose k m.touched.items

-- marks are taken away from nodes, and no mark comes
pub record IsCleared (nodes : List ℕ) (old new : List Bool) : Type 0 where
  pub size : length new ≡ length old
  pub none : (k : ℕ) → Contains nodes k → slice_index_or new k false ≡ false
  pub was : (k : ℕ) → IsMarked new k → IsMarked old k

-- the loose answers are taken back
pub record IsForgotten (m m2 : Replacer) : Type 0 where
  pub marks : IsCleared m.touched.items m.marks.items m2.marks.items
  pub loose : IsCleared m.touched.items m.loose.items m2.loose.items
  pub touched : m2.touched.items ≡ []
  pub path : m2.path ≡ m.path
  pub answers : m2.answers ≡ m.answers

-- ---- children

-- there is a child, which has no mark
abbrev pub is_open : List Bool → Option ℕ → Bool
is_open marks None = false
is_open marks (Some k) = not (slice_index_or marks k false)

-- there is a child, which has a mark
abbrev pub is_marked : List Bool → Option ℕ → Bool
is_marked marks None = false
is_marked marks (Some k) = slice_index_or marks k false

-- the answer of a child is loose
abbrev pub any_loose : List Bool → Shape → Bool
any_loose loose s = is_marked loose (children_of s).first || (is_marked loose (children_of s).second || is_marked loose (children_of s).third)
