-- No more expressions hold a token than the tree has tokens.
use Rattle.std.proofs.Common.{◌<◌, ◌≤◌, ◌++◌, length, length-append, arith}
use Rattle.sv_tree.specs.declared.exprs.Expr.{Expr, Literal, Name', Paren', Concat', Repeat', CastLiteral', CastName', CastParen', CastSign', System', Unary', Binary', Choose', Row_of-Expr, end_of-Expr, more_of-Expr, Row_of-Select, end_of-Select, more_of-Select}
use Rattle.sv_tree.specs.declared.exprs.Select.{Select, Member, Index', Range'}
use Rattle.sv_tree.specs.Nesting.{one, two, three, expr_depths, name_depths, exprs_depths, more_depths, select_depths, selects_depths}
use Rattle.sv_tree.proofs.Framed.{length_in}
use Rattle.sv_expr_reader.specs.Reading.{peak, height}
use Rattle.sv_expr_reader.proofs.Peaks.{nil_peak, one_peak, two_peak, three_peak, peak_append, peak_in}

mutual
  unfolding expr_depths select_depths

  pub short : (x : Expr) → height x < length (expr_depths x)
  short (Literal w) = omega (arith, one_peak)
  short (Name' w s all) = short_name all
  short (Paren' p s (more_of-Expr x end_of-Expr)) = omega (arith, length_in (one ++ expr_depths x ++ one), peak_in (one ++ expr_depths x ++ one), length-append (one) (expr_depths x), peak_append (one) (expr_depths x), length-append (one ++ expr_depths x) (one), peak_append (one ++ expr_depths x) (one), one_peak, two_peak, three_peak, short x)
  short (Concat' p s all) = omega (arith, length_in (one ++ exprs_depths all ++ one), peak_in (one ++ exprs_depths all ++ one), length-append (one) (exprs_depths all), peak_append (one) (exprs_depths all), length-append (one ++ exprs_depths all) (one), peak_append (one ++ exprs_depths all) (one), one_peak, two_peak, three_peak, low_exprs all)
  short (Repeat' p r (more_of-Expr x end_of-Expr) s all) = omega (arith, length_in (one ++ expr_depths x ++ one ++ exprs_depths all ++ two), peak_in (one ++ expr_depths x ++ one ++ exprs_depths all ++ two), length-append (one) (expr_depths x), peak_append (one) (expr_depths x), length-append (one ++ expr_depths x) (one), peak_append (one ++ expr_depths x) (one), length-append (one ++ expr_depths x ++ one) (exprs_depths all), peak_append (one ++ expr_depths x ++ one) (exprs_depths all), length-append (one ++ expr_depths x ++ one ++ exprs_depths all) (two), peak_append (one ++ expr_depths x ++ one ++ exprs_depths all) (two), one_peak, two_peak, three_peak, short x, low_exprs all)
  short (CastLiteral' w s (more_of-Expr x end_of-Expr)) = omega (arith, length_in (three ++ expr_depths x ++ one), peak_in (three ++ expr_depths x ++ one), length-append (three) (expr_depths x), peak_append (three) (expr_depths x), length-append (three ++ expr_depths x) (one), peak_append (three ++ expr_depths x) (one), one_peak, two_peak, three_peak, short x)
  short (CastName' w s (more_of-Expr x end_of-Expr)) = omega (arith, length_in (three ++ expr_depths x ++ one), peak_in (three ++ expr_depths x ++ one), length-append (three) (expr_depths x), peak_append (three) (expr_depths x), length-append (three ++ expr_depths x) (one), peak_append (three ++ expr_depths x) (one), one_peak, two_peak, three_peak, short x)
  short (CastParen' p r (more_of-Expr y end_of-Expr) s (more_of-Expr x end_of-Expr)) = omega (arith, length_in (one ++ expr_depths y ++ three ++ expr_depths x ++ one), peak_in (one ++ expr_depths y ++ three ++ expr_depths x ++ one), length-append (one) (expr_depths y), peak_append (one) (expr_depths y), length-append (one ++ expr_depths y) (three), peak_append (one ++ expr_depths y) (three), length-append (one ++ expr_depths y ++ three) (expr_depths x), peak_append (one ++ expr_depths y ++ three) (expr_depths x), length-append (one ++ expr_depths y ++ three ++ expr_depths x) (one), peak_append (one ++ expr_depths y ++ three ++ expr_depths x) (one), one_peak, two_peak, three_peak, short y, short x)
  short (CastSign' g p s (more_of-Expr x end_of-Expr)) = omega (arith, length_in (three ++ expr_depths x ++ one), peak_in (three ++ expr_depths x ++ one), length-append (three) (expr_depths x), peak_append (three) (expr_depths x), length-append (three ++ expr_depths x) (one), peak_append (three ++ expr_depths x) (one), one_peak, two_peak, three_peak, short x)
  short (System' f p s (more_of-Expr x end_of-Expr)) = omega (arith, length_in (two ++ expr_depths x ++ one), peak_in (two ++ expr_depths x ++ one), length-append (two) (expr_depths x), peak_append (two) (expr_depths x), length-append (two ++ expr_depths x) (one), peak_append (two ++ expr_depths x) (one), one_peak, two_peak, three_peak, short x)
  short (Unary' op p s (more_of-Expr x end_of-Expr)) = omega (arith, length_in (one ++ expr_depths x), peak_in (one ++ expr_depths x), length-append (one) (expr_depths x), peak_append (one) (expr_depths x), one_peak, two_peak, three_peak, short x)
  short (Binary' s (more_of-Expr x end_of-Expr) op p r (more_of-Expr y end_of-Expr)) = omega (arith, length_in (expr_depths x ++ one ++ expr_depths y), peak_in (expr_depths x ++ one ++ expr_depths y), length-append (expr_depths x) (one), peak_append (expr_depths x) (one), length-append (expr_depths x ++ one) (expr_depths y), peak_append (expr_depths x ++ one) (expr_depths y), one_peak, two_peak, three_peak, short x, short y)
  short (Choose' s (more_of-Expr x end_of-Expr) r (more_of-Expr y end_of-Expr) q (more_of-Expr z end_of-Expr)) = omega (arith, length_in (expr_depths x ++ one ++ expr_depths y ++ one ++ expr_depths z), peak_in (expr_depths x ++ one ++ expr_depths y ++ one ++ expr_depths z), length-append (expr_depths x) (one), peak_append (expr_depths x) (one), length-append (expr_depths x ++ one) (expr_depths y), peak_append (expr_depths x ++ one) (expr_depths y), length-append (expr_depths x ++ one ++ expr_depths y) (one), peak_append (expr_depths x ++ one ++ expr_depths y) (one), length-append (expr_depths x ++ one ++ expr_depths y ++ one) (expr_depths z), peak_append (expr_depths x ++ one ++ expr_depths y ++ one) (expr_depths z), one_peak, two_peak, three_peak, short x, short y, short z)

  short_name : {m : _} (all : Row_of-Select m) → peak (name_depths all) < length (name_depths all)
  short_name end_of-Select = omega (arith, one_peak)
  short_name (more_of-Select x all) = omega (arith, length_in (one ++ select_depths x ++ selects_depths all), peak_in (one ++ select_depths x ++ selects_depths all), length-append (one) (select_depths x), peak_append (one) (select_depths x), length-append (one ++ select_depths x) (selects_depths all), peak_append (one ++ select_depths x) (selects_depths all), one_peak, two_peak, three_peak, short_select x, low_selects all)

  low_exprs : {m : _} (all : Row_of-Expr m) → peak (exprs_depths all) ≤ length (exprs_depths all)
  low_exprs end_of-Expr = omega (arith, nil_peak)
  low_exprs (more_of-Expr x all) = omega (arith, length-append (expr_depths x) (more_depths all), peak_append (expr_depths x) (more_depths all), short x, low_more all)

  low_more : {m : _} (all : Row_of-Expr m) → peak (more_depths all) ≤ length (more_depths all)
  low_more end_of-Expr = omega (arith, nil_peak)
  low_more (more_of-Expr x all) = omega (arith, length-append (one) (expr_depths x), peak_append (one) (expr_depths x), length-append (one ++ expr_depths x) (more_depths all), peak_append (one ++ expr_depths x) (more_depths all), one_peak, two_peak, three_peak, short x, low_more all)

  short_select : (x : Select) → peak (select_depths x) < length (select_depths x)
  short_select (Member p w) = omega (arith, two_peak)
  short_select (Index' p s (more_of-Expr x end_of-Expr)) = omega (arith, length-append (one) (expr_depths x), peak_append (one) (expr_depths x), length-append (one ++ expr_depths x) (one), peak_append (one ++ expr_depths x) (one), one_peak, two_peak, three_peak, short x)
  short_select (Range' p s (more_of-Expr x end_of-Expr) m r (more_of-Expr y end_of-Expr)) = omega (arith, length-append (one) (expr_depths x), peak_append (one) (expr_depths x), length-append (one ++ expr_depths x) (one), peak_append (one ++ expr_depths x) (one), length-append (one ++ expr_depths x ++ one) (expr_depths y), peak_append (one ++ expr_depths x ++ one) (expr_depths y), length-append (one ++ expr_depths x ++ one ++ expr_depths y) (one), peak_append (one ++ expr_depths x ++ one ++ expr_depths y) (one), one_peak, two_peak, three_peak, short x, short y)

  low_selects : {m : _} (all : Row_of-Select m) → peak (selects_depths all) ≤ length (selects_depths all)
  low_selects end_of-Select = omega (arith, nil_peak)
  low_selects (more_of-Select x all) = omega (arith, length-append (select_depths x) (selects_depths all), peak_append (select_depths x) (selects_depths all), short_select x, low_selects all)
