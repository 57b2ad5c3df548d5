use Rattle.std.proofs.Common.{ℕ, List, [], ◌∷◌, ◌++◌, arith, sym, ap}
use Rattle.std.proofs.lemmas.Bool.Decides.{nat_tests}
use Rattle.sv_outside.proofs.Reserved.{row, no_row}
use Rattle.sv_outside.proofs.words.reserved_from.Goals as goal

pub returns-then-is_ascii_lowercase : goal.returns-then-is_ascii_lowercase
returns-then-is_ascii_lowercase c = row c.args.table.now c.from.result c.args.first _ c.requires (grind (arith, nat_tests)) (grind (arith, nat_tests))

pub returns-else-is_ascii_lowercase : goal.returns-else-is_ascii_lowercase
returns-else-is_ascii_lowercase c = sym (ap (λ (ws : List (List ℕ)). ws ++ [] ∷ []) (no_row c.args.first (grind (arith, nat_tests))))
