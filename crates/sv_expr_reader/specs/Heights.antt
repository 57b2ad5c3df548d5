-- Heights that stop at 255.
use Rattle.std.specs.Prelude.{ℕ, ◌+◌, max, min, List, [], ◌∷◌}
use Rattle.sv_tree.specs.declared.exprs.Expr.{Expr, Binary', Choose', end_of-Expr, more_of-Expr}
use Rattle.sv_tree.specs.declared.exprs.Select.{Select}
use Rattle.sv_tree.specs.Nesting.{select_depths}
use Rattle.sv_expr_reader.specs.Reading.{peak, height}

abbrev pub height_all : List Expr → ℕ
height_all [] = 0
height_all (x ∷ all) = max (height x) (height_all all)

-- A select lies in the expression of its name.
abbrev pub height_select : Select → ℕ
height_select x = peak (select_depths x) + 1

abbrev pub height_chain : List Select → ℕ
height_chain [] = 0
height_chain (x ∷ all) = max (height_select x) (height_chain all)

unfoldable pub capped : Expr → ℕ
capped x = min (height x) 255

-- the height of the parts behind the first operator
abbrev pub last : Expr → ℕ
last (Binary' s x op p r (more_of-Expr y end_of-Expr)) = capped y
last (Choose' s x r (more_of-Expr y end_of-Expr) q (more_of-Expr z end_of-Expr)) = max (capped y) (capped z)
last _ = 0

unfoldable pub capped_all : List Expr → ℕ
capped_all all = min (height_all all) 255

unfoldable pub capped_select : Select → ℕ
capped_select x = min (height_select x) 255

unfoldable pub capped_chain : List Select → ℕ
capped_chain all = min (height_chain all) 255
