-- Expressions: what is written are the kinds and texts of whatever tokens spell them.
use Rattle.std.specs.Prelude.{ℕ, codes}
use mathlib.Core.Former.{Count}
use Rattle.sv_tree.specs.declared.exprs.Expr.{Expr, Literal, Name', Paren', Concat', Repeat', CastLiteral', CastName', CastParen', CastSign', System', Unary', Binary', Choose', Row_of-Expr, end_of-Expr, more_of-Expr, Row_of-Select, end_of-Select, more_of-Select}
use Rattle.sv_tree.specs.declared.exprs.Select.{Select, Member, Index', Range'}
use Rattle.sv_tree.specs.GrammarExprs.{Spells, SpellsCommas, SpellsMore, SpellsSelect, SpellsSelects, sign_word, system_word, unary_mark, binary_mark, range_text, left_level, right_level}
use Rattle.sv_write.specs.Exprs.{write_expr, write_exprs, write_more_exprs, write_select, write_select_row}
use Rattle.sv_write.specs.Writing as w
use Rattle.sv_write.proofs.Lawful.{Law, ◌▹◌, law_mark, law_mark_at, law_key_at, law_system_at, law_literal, law_name, law_nothing, law_never, law_when}

mutual
  unfolding write_expr write_exprs write_more_exprs write_select write_select_row

  pub law_expr : (x : ℕ) (y : Expr) → Law (Spells x y) (write_expr y)
  law_expr n (Literal w) = law_literal w
  law_expr n (Name' w s all) = law_name w ▹ law_select_row all
  law_expr n (Paren' p s (more_of-Expr x end_of-Expr)) = law_mark_at (codes "(") p ▹ law_expr 0 x ▹ law_mark (codes ")")
  law_expr n (Concat' p s all) = law_mark_at (codes "{") p ▹ law_exprs all ▹ law_mark (codes "}")
  law_expr n (Repeat' p r (more_of-Expr x end_of-Expr) s all) = law_mark_at (codes "{") p ▹ law_expr 0 x ▹ law_mark (codes "{") ▹ law_exprs all ▹ law_mark (codes "}") ▹ law_mark (codes "}")
  law_expr n (CastLiteral' w s (more_of-Expr x end_of-Expr)) = law_literal w ▹ law_mark (codes "'") ▹ law_mark (codes "(") ▹ law_expr 0 x ▹ law_mark (codes ")")
  law_expr n (CastName' w s (more_of-Expr x end_of-Expr)) = law_name w ▹ law_mark (codes "'") ▹ law_mark (codes "(") ▹ law_expr 0 x ▹ law_mark (codes ")")
  law_expr n (CastParen' p r (more_of-Expr y end_of-Expr) s (more_of-Expr x end_of-Expr)) = law_mark_at (codes "(") p ▹ law_expr 0 y ▹ law_mark (codes ")") ▹ law_mark (codes "'") ▹ law_mark (codes "(") ▹ law_expr 0 x ▹ law_mark (codes ")")
  law_expr n (CastSign' g p s (more_of-Expr x end_of-Expr)) = law_key_at (sign_word g) p ▹ law_mark (codes "'") ▹ law_mark (codes "(") ▹ law_expr 0 x ▹ law_mark (codes ")")
  law_expr n (System' f p s (more_of-Expr x end_of-Expr)) = law_system_at (system_word f) p ▹ law_mark (codes "(") ▹ law_expr 0 x ▹ law_mark (codes ")")
  law_expr n (Unary' op p s (more_of-Expr x end_of-Expr)) = law_mark_at (unary_mark op) p ▹ law_expr 13 x
  law_expr n (Binary' s (more_of-Expr x end_of-Expr) op p r (more_of-Expr y end_of-Expr)) = law_when (law_expr (left_level op) x ▹ law_mark_at (binary_mark op) p ▹ law_expr (right_level op) y)
  law_expr n (Choose' s (more_of-Expr x end_of-Expr) r (more_of-Expr y end_of-Expr) q (more_of-Expr z end_of-Expr)) = law_when (law_expr 2 x ▹ law_mark (codes "?") ▹ law_expr 0 y ▹ law_mark (codes ":") ▹ law_expr 1 z)

  pub law_exprs : {m : Count} (x : Row_of-Expr m) → Law (SpellsCommas x) (write_exprs x)
  law_exprs end_of-Expr = law_never w.nothing
  law_exprs (more_of-Expr x all) = law_expr 0 x ▹ law_more_exprs all

  pub law_more_exprs : {m : Count} (x : Row_of-Expr m) → Law (SpellsMore x) (write_more_exprs x)
  law_more_exprs end_of-Expr = law_nothing
  law_more_exprs (more_of-Expr x all) = law_mark (codes ",") ▹ law_expr 0 x ▹ law_more_exprs all

  pub law_select : (x : Select) → Law (SpellsSelect x) (write_select x)
  law_select (Member p w) = law_mark_at (codes ".") p ▹ law_name w
  law_select (Index' p s (more_of-Expr x end_of-Expr)) = law_mark_at (codes "[") p ▹ law_expr 0 x ▹ law_mark (codes "]")
  law_select (Range' p s (more_of-Expr x end_of-Expr) m r (more_of-Expr y end_of-Expr)) = law_mark_at (codes "[") p ▹ law_expr 0 x ▹ law_mark (range_text m) ▹ law_expr 0 y ▹ law_mark (codes "]")

  pub law_select_row : {m : Count} (x : Row_of-Select m) → Law (SpellsSelects x) (write_select_row x)
  law_select_row end_of-Select = law_nothing
  law_select_row (more_of-Select x end_of-Select) = law_select x
  law_select_row (more_of-Select x (more_of-Select y all)) = law_when (law_select x ▹ law_select_row (more_of-Select y all))
