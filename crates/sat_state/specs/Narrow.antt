-- Literals that have a number among all that fits a word.
use Rattle.std.specs.Prelude.{ℕ, ◌+◌, ◌*◌, ◌<◌, ◌^◌, List}
use Rattle.std.specs.List.{All}
use Rattle.cnf.specs.declared.Dim.{Dim}

abbrev pub AreNarrow : List Dim → Type 0
AreNarrow clause = All (λ d. 2 * d.var + 1 < 2 ^ 64) clause
