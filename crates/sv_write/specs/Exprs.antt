-- Expressions as they are written: the kinds and texts of their tokens.
use Rattle.std.specs.Prelude.{List, codes}
use mathlib.Core.Former.{Count}
use Rattle.sv_tree.specs.declared.exprs.Expr.{Expr, Literal, Name', Paren', Concat', Repeat', CastLiteral', CastName', CastParen', CastSign', System', Unary', Binary', Choose', Row_of-Expr, end_of-Expr, more_of-Expr, Row_of-Select, end_of-Select, more_of-Select}
use Rattle.sv_tree.specs.declared.exprs.Select.{Select, Member, Index', Range'}
use Rattle.sv_tree.specs.Spelling.{Text}
use Rattle.sv_write.specs.Writing.{Write, ◌⨾◌, nothing, mark, key, system, literal, name, commas}
use Rattle.sv_tree.specs.GrammarExprs.{sign_word, system_word, unary_mark, binary_mark, range_text}

unfoldable mutual
  pub write_expr : Expr → Write
  write_expr (Literal w) = literal w
  write_expr (Name' w s all) = name w ⨾ write_select_row all
  write_expr (Paren' p s (more_of-Expr x end_of-Expr)) = mark (codes "(") ⨾ write_expr x ⨾ mark (codes ")")
  write_expr (Concat' p s all) = mark (codes "{") ⨾ write_exprs all ⨾ mark (codes "}")
  write_expr (Repeat' p r (more_of-Expr x end_of-Expr) s all) = mark (codes "{") ⨾ write_expr x ⨾ mark (codes "{") ⨾ write_exprs all ⨾ mark (codes "}") ⨾ mark (codes "}")
  write_expr (CastLiteral' w s (more_of-Expr x end_of-Expr)) = literal w ⨾ mark (codes "'") ⨾ mark (codes "(") ⨾ write_expr x ⨾ mark (codes ")")
  write_expr (CastName' w s (more_of-Expr x end_of-Expr)) = name w ⨾ mark (codes "'") ⨾ mark (codes "(") ⨾ write_expr x ⨾ mark (codes ")")
  write_expr (CastParen' p r (more_of-Expr y end_of-Expr) s (more_of-Expr x end_of-Expr)) = mark (codes "(") ⨾ write_expr y ⨾ mark (codes ")") ⨾ mark (codes "'") ⨾ mark (codes "(") ⨾ write_expr x ⨾ mark (codes ")")
  write_expr (CastSign' g p s (more_of-Expr x end_of-Expr)) = key (sign_word g) ⨾ mark (codes "'") ⨾ mark (codes "(") ⨾ write_expr x ⨾ mark (codes ")")
  write_expr (System' f p s (more_of-Expr x end_of-Expr)) = system (system_word f) ⨾ mark (codes "(") ⨾ write_expr x ⨾ mark (codes ")")
  write_expr (Unary' op p s (more_of-Expr x end_of-Expr)) = mark (unary_mark op) ⨾ write_expr x
  write_expr (Binary' s (more_of-Expr x end_of-Expr) op p r (more_of-Expr y end_of-Expr)) = write_expr x ⨾ mark (binary_mark op) ⨾ write_expr y
  write_expr (Choose' s (more_of-Expr x end_of-Expr) r (more_of-Expr y end_of-Expr) q (more_of-Expr z end_of-Expr)) = write_expr x ⨾ mark (codes "?") ⨾ write_expr y ⨾ mark (codes ":") ⨾ write_expr z

  pub write_exprs : {m : Count} → Row_of-Expr m → Write
  write_exprs end_of-Expr = nothing
  write_exprs (more_of-Expr x all) = write_expr x ⨾ write_more_exprs all

  pub write_more_exprs : {m : Count} → Row_of-Expr m → Write
  write_more_exprs end_of-Expr = nothing
  write_more_exprs (more_of-Expr x all) = mark (codes ",") ⨾ write_expr x ⨾ write_more_exprs all

  pub write_select : Select → Write
  write_select (Member p w) = mark (codes ".") ⨾ name w
  write_select (Index' p s (more_of-Expr x end_of-Expr)) = mark (codes "[") ⨾ write_expr x ⨾ mark (codes "]")
  write_select (Range' p s (more_of-Expr x end_of-Expr) m r (more_of-Expr y end_of-Expr)) = mark (codes "[") ⨾ write_expr x ⨾ mark (range_text m) ⨾ write_expr y ⨾ mark (codes "]")

  pub write_select_row : {m : Count} → Row_of-Select m → Write
  write_select_row end_of-Select = nothing
  write_select_row (more_of-Select x end_of-Select) = write_select x
  write_select_row (more_of-Select x (more_of-Select y all)) = write_select x ⨾ write_select_row (more_of-Select y all)

-- ---- what is written for parts of expressions

-- an expression and the mark behind it
abbrev pub before : Expr → Text → Write
before x text = write_expr x ⨾ mark text

abbrev pub in_parens : Expr → Write
in_parens x = mark (codes "(") ⨾ write_expr x ⨾ mark (codes ")")

abbrev pub cast_to : Expr → Write
cast_to x = mark (codes "'") ⨾ in_parens x

abbrev pub in_braces : List Expr → Write
in_braces all = mark (codes "{") ⨾ commas write_expr all ⨾ mark (codes "}")
