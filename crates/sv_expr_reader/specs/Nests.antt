-- A function value that reads expressions to a depth.
use Rattle.std.specs.Prelude.{ℕ, Result, List}
use Rattle.std.specs.declared.alloc.Global.{Global}
use denote.Ref.{MutBor}
use Rattle.sv_outside.specs.declared.text.Token.{Token}
use Rattle.sv_tree.specs.declared.exprs.Expr.{Expr}
use Rattle.sv_cursor.specs.declared.error.ParseErr.{ParseErr}
use Rattle.sv_cursor.specs.Parsers.{Reads}
use Rattle.sv_expr_reader.specs.Reading.{expr}

pub record Nests (depth : ℕ) (pre : Global → MutBor (List Token) → ℕ → ℕ → Type 0)
    (post : Global → MutBor (List Token) → ℕ → ℕ → Result Expr ParseErr → MutBor (List Token) → Type 0) : Type 0 where
  pub callable : (alloc : Global) (old : MutBor (List Token)) (least : ℕ) → pre alloc old depth least
  pub reads : (alloc : Global) (old new : MutBor (List Token)) (least : ℕ) (r : Result Expr ParseErr) → post alloc old depth least r new
      → Reads (expr depth least old.now) r new.now
