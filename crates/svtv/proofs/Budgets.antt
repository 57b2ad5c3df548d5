-- A budget is no less than 1.
use Rattle.std.proofs.Common.{ℕ, ◌<◌, Option, Some, None, arith}
use Rattle.std.specs.Prelude.{IfSome}
use Rattle.svtv_words.specs.Commands.{IsBudgetInBounds}

pub positive : (o : Option ℕ) → IsBudgetInBounds o → IfSome o (λ n. 0 < n)
positive None h = tt
positive (Some n) h = omega (arith, h.0)
