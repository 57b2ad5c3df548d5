-- How deep each token of a tree lies in the parts of the tree: a list with an entry for each token, in the order of the
-- tokens. There are four kinds of parts, and each is counted by itself (this project's rule).
use Rattle.std.specs.Prelude.{◌≡◌, ◌⊎◌, ℕ, ◌+◌, ◌<◌, ◌≤◌, List, [], ◌∷◌, ◌++◌, length, map, take, slice_get, Option, Some, None}
use mathlib.Core.Former.{Count}
use Rattle.sv_outside.specs.declared.text.Token.{Token}
use Rattle.sv_tree.specs.declared.word.Word.{Word}
use Rattle.sv_tree.specs.declared.exprs.Expr.{Expr, Literal, Name', Paren', Concat', Repeat', CastLiteral', CastName', CastParen', CastSign', System', Unary', Binary', Choose', Row_of-Expr, end_of-Expr, more_of-Expr, Row_of-Select, end_of-Select, more_of-Select}
use Rattle.sv_tree.specs.declared.exprs.Select.{Select, Member, Index', Range'}

-- the number of parts of each kind that hold a token
pub record Nesting : Type 0 where
  pub exprs : ℕ
  pub stmts : ℕ
  pub generates : ℕ
  pub types : ℕ

abbrev pub Depths : Type 0
Depths = List Nesting

-- one token that lies in no part
abbrev pub one : Depths
one = record { exprs = 0; stmts = 0; generates = 0; types = 0 } ∷ []

abbrev pub two : Depths
two = one ++ one

abbrev pub three : Depths
three = two ++ one

-- one part more holds all of the tokens
unfoldable pub in_expr : Depths → Depths
in_expr = map {A = Nesting} {B = Nesting} (λ n. record n { exprs = n.exprs + 1 })

unfoldable pub in_stmt : Depths → Depths
in_stmt = map {A = Nesting} {B = Nesting} (λ n. record n { stmts = n.stmts + 1 })

unfoldable pub in_generate : Depths → Depths
in_generate = map {A = Nesting} {B = Nesting} (λ n. record n { generates = n.generates + 1 })

unfoldable pub in_type : Depths → Depths
in_type = map {A = Nesting} {B = Nesting} (λ n. record n { types = n.types + 1 })

-- ---- lists, as the grammar has them

abbrev pub if_given : {A : Type 0} → (A → Depths) → Option A → Depths
if_given depths None = []
if_given depths (Some x) = depths x

abbrev pub each_depths : {A : Type 0} → (A → Depths) → List A → Depths
each_depths depths [] = []
each_depths depths (x ∷ more) = depths x ++ each_depths depths more

-- each after a comma
abbrev pub after_commas_depths : {A : Type 0} → (A → Depths) → List A → Depths
after_commas_depths depths [] = []
after_commas_depths depths (x ∷ more) = one ++ depths x ++ after_commas_depths depths more

-- commas between them
abbrev pub commas_depths : {A : Type 0} → (A → Depths) → List A → Depths
commas_depths depths [] = []
commas_depths depths (x ∷ more) = depths x ++ after_commas_depths depths more

-- a word, and names with commas between them
abbrev pub word_depths : {A : Type 0} → A → Depths
word_depths x = one

-- a colon and a name
abbrev pub label_depths : Word → Depths
label_depths w = two

-- ---- expressions

-- Each expression is one part, but a literal or a name alone is none.
unfoldable mutual
  pub expr_depths : Expr → Depths
  expr_depths (Literal w) = one
  expr_depths (Name' w s all) = name_depths all
  expr_depths (Paren' p s (more_of-Expr x end_of-Expr)) = in_expr (one ++ expr_depths x ++ one)
  expr_depths (Concat' p s all) = in_expr (one ++ exprs_depths all ++ one)
  expr_depths (Repeat' p r (more_of-Expr x end_of-Expr) s all) = in_expr (one ++ expr_depths x ++ one ++ exprs_depths all ++ two)
  expr_depths (CastLiteral' w s (more_of-Expr x end_of-Expr)) = in_expr (three ++ expr_depths x ++ one)
  expr_depths (CastName' w s (more_of-Expr x end_of-Expr)) = in_expr (three ++ expr_depths x ++ one)
  expr_depths (CastParen' p r (more_of-Expr y end_of-Expr) s (more_of-Expr x end_of-Expr)) =
      in_expr (one ++ expr_depths y ++ three ++ expr_depths x ++ one)
  expr_depths (CastSign' g p s (more_of-Expr x end_of-Expr)) = in_expr (three ++ expr_depths x ++ one)
  expr_depths (System' f p s (more_of-Expr x end_of-Expr)) = in_expr (two ++ expr_depths x ++ one)
  expr_depths (Unary' op p s (more_of-Expr x end_of-Expr)) = in_expr (one ++ expr_depths x)
  expr_depths (Binary' s (more_of-Expr x end_of-Expr) op p r (more_of-Expr y end_of-Expr)) = in_expr (expr_depths x ++ one ++ expr_depths y)
  expr_depths (Choose' s (more_of-Expr x end_of-Expr) r (more_of-Expr y end_of-Expr) q (more_of-Expr z end_of-Expr)) =
      in_expr (expr_depths x ++ one ++ expr_depths y ++ one ++ expr_depths z)

  -- a name, and its selects
  pub name_depths : {m : Count} → Row_of-Select m → Depths
  name_depths end_of-Select = one
  name_depths (more_of-Select x all) = in_expr (one ++ select_depths x ++ selects_depths all)

  -- commas between them
  pub exprs_depths : {m : Count} → Row_of-Expr m → Depths
  exprs_depths end_of-Expr = []
  exprs_depths (more_of-Expr x all) = expr_depths x ++ more_depths all

  pub more_depths : {m : Count} → Row_of-Expr m → Depths
  more_depths end_of-Expr = []
  more_depths (more_of-Expr x all) = one ++ expr_depths x ++ more_depths all

  pub select_depths : Select → Depths
  select_depths (Member p w) = two
  select_depths (Index' p s (more_of-Expr x end_of-Expr)) = one ++ expr_depths x ++ one
  select_depths (Range' p s (more_of-Expr x end_of-Expr) m r (more_of-Expr y end_of-Expr)) = one ++ expr_depths x ++ one ++ expr_depths y ++ one

  pub selects_depths : {m : Count} → Row_of-Select m → Depths
  selects_depths end_of-Select = []
  selects_depths (more_of-Select x all) = select_depths x ++ selects_depths all

-- ---- too deep

-- the most parts of one kind that may hold a token
abbrev pub most_nesting : ℕ
most_nesting = 200

-- more parts of some kind hold the token
abbrev pub IsOver : ℕ → Nesting → Type 0
IsOver most n = (most < n.exprs) ⊎ (most < n.stmts) ⊎ (most < n.generates) ⊎ (most < n.types)

-- The token with that number, counted from 0, lies too deep in the tree of these depths.
abbrev pub IsOverAt : Depths → ℕ → Type 0
IsOverAt depths k = (n : Nesting) × (slice_get depths k ≡ Some n) × IsOver most_nesting n

-- The token with that number lies too deep: over 200 tokens stand up to some place at or after it, and it lies too deep in
-- every tree whose spelling begins with the tokens up to that place.
abbrev pub IsTooDeep : {A : Type 0} → (A → List Token → Type 0) → (A → Depths) → List Token → ℕ → Type 0
IsTooDeep {A} IsSpelled depths tokens k =
    (q : ℕ) × (k ≤ q) × (200 < q + 1) × (q < length tokens)
    × ((y : A) (spelling : List Token) → IsSpelled y spelling → take (q + 1) spelling ≡ take (q + 1) tokens → IsOverAt (depths y) k)
