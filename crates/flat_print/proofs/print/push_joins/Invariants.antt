use Rattle.std.proofs.Common.{◌≡◌, ◌++◌, take}
use Rattle.std.specs.List.{flat_map}
use Rattle.flat_text.specs.Lines.{ended, join_line}
use Rattle.flat_print.proofs.print.push_joins.Given as goal

abbrev pub invariant-joins : goal.invariant-joins
invariant-joins l = l.text.items ≡ l.fn.text.items ++ flat_map (λ j. ended (join_line j)) (take l.join-index l.joins)
