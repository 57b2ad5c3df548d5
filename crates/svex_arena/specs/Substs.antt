-- Replacing variables by nodes.
use Rattle.std.specs.Prelude.{◌≡◌, ℕ, ◌<◌, ◌≤◌, ◌==◌, ◌&&◌, nat_lt, Bool, true, List, length, slice_index, slice_index_or, Option, None, Some, if◌then◌else◌, IsTrue}
use Rattle.svex_shape.specs.declared.shape.VarName.{VarName}
use Rattle.svex_shape.specs.declared.shape.VarName.TheVariants.{Now, Prev, Stim, Chosen, Sampled}
use Rattle.svex_shape.specs.declared.shape.Shape.{Shape}
use Rattle.svex_shape.specs.declared.shape.Shape.TheVariants.{Const, Var, Unary, Binary, Cond, Pick, Slice, Zext, Sext, DynSlice, DynPut}
use Rattle.svex_shape.specs.Shapes.{shape_at, width_at}
use Rattle.svex_shape.specs.Values.{Reading, value_at, each_variable}
use Rattle.svex_arena.specs.Arenas.{IsArena}
use Rattle.svex_arena.specs.Marks.{IsReached, IsMarked, IsClosed, HasRoots}

-- ---- replacements

-- the nodes that replace variables, a list for each kind
pub record Replacements : Type 0 where
  pub present : List (Option ℕ)
  pub previous : List (Option ℕ)
  pub stim : List (Option ℕ)
  pub chosen : List (Option ℕ)
  pub sampled : List (Option ℕ)

-- none past the end of the list
abbrev pub entry_at : List (Option ℕ) → ℕ → Option ℕ
entry_at list at = slice_index_or list at None

-- the node that is named for a variable
abbrev pub replacement_of : Replacements → VarName → Option ℕ
replacement_of by (Now at) = entry_at by.present at
replacement_of by (Prev at) = entry_at by.previous at
replacement_of by (Stim at) = entry_at by.stim at
replacement_of by (Chosen at) = entry_at by.chosen at
replacement_of by (Sampled at) = entry_at by.sampled at

-- a node is one of the first `len`, and has the width
abbrev pub is_fitting : ℕ → (ℕ → ℕ) → ℕ → ℕ → Bool
is_fitting len w node width = nat_lt node len && (w node == width)

-- what replaces a variable of a width: a node that does not fit replaces nothing
unfoldable pub fitting : ℕ → (ℕ → ℕ) → Option ℕ → ℕ → Option ℕ
fitting len w None width = None
fitting len w (Some node) width = if is_fitting len w node width then Some node else None

-- what a node gives where there is one
abbrev pub given_or : {A : Type 0} → (ℕ → A) → A → Option ℕ → A
given_or f a None = a
given_or f a (Some node) = f node

-- the node that is named for a variable, if any, fits it
unfoldable pub fits_variable : Replacements → List Shape → VarName → ℕ → Bool
fits_variable by shapes name width = given_or (λ node. is_fitting (length shapes) (width_at shapes) node width) true (replacement_of by name)

-- ---- what variables have once they are replaced

-- the value of a variable, or that of the node that replaces it
abbrev pub replaced : Reading → Replacements → List Shape → Reading
replaced r by shapes name width =
    given_or (value_at r shapes) (r name width) (fitting (length shapes) (width_at shapes) (replacement_of by name) width)

-- a test of a variable, or of each variable of the node that replaces it
abbrev pub test_replaced : (VarName → ℕ → Bool) → Replacements → List Shape → VarName → ℕ → Bool
test_replaced p by shapes name width =
    given_or (each_variable p shapes) (p name width) (fitting (length shapes) (width_at shapes) (replacement_of by name) width)

-- the value of a variable, or that of the node that is named for it
abbrev pub replaced_by_named : Reading → Replacements → List Shape → Reading
replaced_by_named r by shapes name width = given_or (value_at r shapes) (r name width) (replacement_of by name)

-- ---- answers

-- the node that replaces a shape, where that is a variable
unfoldable pub replacement_at : Replacements → ℕ → (ℕ → ℕ) → Shape → Option ℕ
replacement_at by len w (Var name width) = fitting len w (replacement_of by name) width
replacement_at by len w s = None

-- a shape over other children
abbrev pub renamed : (ℕ → ℕ) → Shape → Shape
renamed f (Const v) = Const v
renamed f (Var name width) = Var name width
renamed f (Unary op a) = Unary op (f a)
renamed f (Binary op a b) = Binary op (f a) (f b)
renamed f (Cond c a b) = Cond (f c) (f a) (f b)
renamed f (Pick c a b) = Pick (f c) (f a) (f b)
renamed f (Slice a lo width) = Slice (f a) lo width
renamed f (Zext a width) = Zext (f a) width
renamed f (Sext a width) = Sext (f a) width
renamed f (DynSlice a at spot) = DynSlice (f a) (f at) spot
renamed f (DynPut a at spot put) = DynPut (f a) (f at) spot (f put)

-- the answer for a shape: what replaces it, or the node of this shape over the answers for its children
abbrev pub AnswersBy : Option ℕ → List Shape → (ℕ → ℕ) → Shape → ℕ → Type 0
AnswersBy None shapes f s node = shape_at shapes node ≡ renamed f s
AnswersBy (Some other) shapes f s node = node ≡ other

-- `answer` gives for each node its answer in a later arena; node is that of k
pub record IsAnswered (old : List Shape) (by : Replacements) (new : List Shape) (answer : ℕ → ℕ) (k node : ℕ) : Type 0 where
  pub within : node < length new
  pub answers : AnswersBy (replacement_at by (length old) (width_at old) (shape_at old k)) new answer (shape_at old k) node

-- the answers for some roots: each node that a root reaches is answered, and the roots by their nodes' answers
pub record AreAnswers (old : List Shape) (by : Replacements) (new : List Shape) (roots answers : List ℕ) : Type 0 where
  pub answer : ℕ → ℕ
  pub answered : (k : ℕ) → IsReached old roots k → IsAnswered old by new answer k (answer k)
  pub size : length answers ≡ length roots
  pub at : (i : ℕ) → i < length roots → slice_index answers i ≡ answer (slice_index roots i)

-- the answers have the roots' widths, and the values and the variables that the roots have once their variables are replaced
pub record IsReplaced (old : List Shape) (by : Replacements) (new : List Shape) (roots answers : List ℕ) : Type 0 where
  pub within : (i : ℕ) → i < length roots → slice_index answers i < length new
  pub widths : (i : ℕ) → i < length roots → width_at new (slice_index answers i) ≡ width_at old (slice_index roots i)
  pub values : (r : Reading) (i : ℕ) → i < length roots → value_at r new (slice_index answers i) ≡ value_at (replaced r by old) old (slice_index roots i)
  pub variables : (p : VarName → ℕ → Bool) (i : ℕ) → i < length roots → each_variable p new (slice_index answers i) ≡ each_variable (test_replaced p by old) old (slice_index roots i)

-- where each node that is named fits the variables that a root mentions, it is what replaces them
pub record IsReplacedByNamed (old : List Shape) (by : Replacements) (new : List Shape) (roots answers : List ℕ) : Type 0 where
  pub values : (r : Reading) (i : ℕ) → i < length roots → IsTrue (each_variable (fits_variable by old) old (slice_index roots i)) → value_at r new (slice_index answers i) ≡ value_at (replaced_by_named r by old) old (slice_index roots i)

-- ---- words of the pass itself, over the arena as it grows: the first `len` nodes are those that it had

pub record IsAnsweredSoFar (len : ℕ) (by : Replacements) (shapes : List Shape) (f : ℕ → ℕ) (k node : ℕ) : Type 0 where
  pub within : node < length shapes
  pub answers : AnswersBy (replacement_at by len (width_at shapes) (shape_at shapes k)) shapes f (shape_at shapes k) node

-- each of the first nodes that is marked is answered
pub record IsSubstituted (len : ℕ) (by : Replacements) (shapes : List Shape) (marks : List Bool) (done : List ℕ) : Type 0 where
  pub arena : IsArena shapes
  pub long : len ≤ length shapes
  pub size : length marks ≡ len
  pub closed : IsClosed shapes marks 0
  pub is : (k : ℕ) → k < length done → k < len → IsMarked marks k → IsAnsweredSoFar len by shapes (λ j. slice_index done j) k (slice_index done k)

-- the first n of the roots' answers
pub record IsPicked (done roots picked : List ℕ) (n : ℕ) : Type 0 where
  pub size : length picked ≡ n
  pub at : (i : ℕ) → i < n → slice_index picked i ≡ slice_index done (slice_index roots i)

-- the marked nodes are answered, and the roots are among them
pub record HasAnswers (len : ℕ) (by : Replacements) (shapes : List Shape) (roots answers : List ℕ) : Type 0 where
  pub marks : List Bool
  pub done : List ℕ
  pub substituted : IsSubstituted len by shapes marks done
  pub full : length done ≡ len
  pub rooted : HasRoots roots marks (length roots)
  pub picked : IsPicked done roots answers (length roots)
