-- Operators that go on with an expression of a level.
use Rattle.std.specs.Prelude.{◌≡◌, ℕ, if◌then◌else◌, nat_le, List, length, Option, Some, None}
use Rattle.sv_outside.specs.declared.text.Token.{Token}
use Rattle.sv_tree.specs.declared.exprs.Expr.{Expr, Binary', Choose', end_of-Expr, more_of-Expr}
use Rattle.sv_expr_reader.specs.Heights.{capped}
use Rattle.sv_expr_words.specs.declared.openers.Joiner.{Joiner}
use Rattle.sv_expr_words.specs.Signs.{strength_of}

-- The tree has an operator between two of its parts, and the number is the height of the first.
abbrev pub BeginsWith : ℕ → Expr → Type 0
BeginsWith n (Binary' s (more_of-Expr x end_of-Expr) op p r y) = n ≡ capped x
BeginsWith n (Choose' s (more_of-Expr x end_of-Expr) r y q z) = n ≡ capped x
BeginsWith n _ = ⊥

abbrev pub IsFirstHeight : Option ℕ → Expr → Type 0
IsFirstHeight None x = Unit {0}
IsFirstHeight (Some n) x = BeginsWith n x

abbrev pub stronger : ℕ → Joiner → Option Joiner
stronger least j = if nat_le (strength_of (Some j)) least then None else Some j

abbrev pub goes_on : ℕ → Option Joiner → Option Joiner
goes_on least None = None
goes_on least (Some j) = stronger least j

abbrev pub turns : List Token → ℕ
turns from = length from
