-- What an answer says of the expressions that begin with the tokens.
use Rattle.std.specs.Prelude.{◌≡◌, ◌-◌, ◌≤◌, List, [], length, Ok, Err}
use Rattle.sv_outside.specs.declared.text.Token.{Token}
use Rattle.sv_tree.specs.declared.exprs.Expr.{Expr}
use Rattle.sv_tree.specs.GrammarExprs.{Spells}
use Rattle.sv_tree.specs.Nesting.{expr_depths, IsTooDeep}
use Rattle.sv_cursor.specs.declared.error.ParseErr.TheVariants.{Memory, Syntax, TooDeep}
use Rattle.sv_cursor.specs.Parsers.{Outcome}

-- all of the tokens spell the expression
abbrev pub IsSpelled : Expr → List Token → Type 0
IsSpelled x tokens = Spells 0 x tokens []

-- An answer at a cursor: the expression that stands from i up to j, the only one there, and no expression from i is longer. Where the
-- syntax is refused, no expression from i reaches beyond the token at which reading stops. Where nesting is refused, it exceeds the limit.
abbrev pub Decides : List Token → Outcome Expr → Type 0
Decides i (Ok p) =
    Spells 0 p.0 i p.1 × ((y : Expr) → Spells 0 y i p.1 → y ≡ p.0) × ((y : Expr) (o : List Token) → Spells 0 y i o → length p.1 ≤ length o)
Decides i (Err (Syntax left)) = (left ≤ length i) × ((y : Expr) (o : List Token) → Spells 0 y i o → left ≤ length o)
Decides i (Err (TooDeep deep left)) = IsTooDeep IsSpelled expr_depths i (length i - deep)
Decides i (Err Memory) = ⊥
