use Rattle.std.proofs.Common.{◌≡◌, take}
use Rattle.sv_expr_reader.specs.Heights.{capped_all, capped_chain}
use Rattle.sv_expr_reader.proofs.nesting.+height.Given as goal

abbrev pub invariant-all_height-loop-x : goal.invariant-all_height-loop-x
invariant-all_height-loop-x l = l.most ≡ capped_all (take l.x-index l.all)

abbrev pub invariant-selects_height-loop-x : goal.invariant-selects_height-loop-x
invariant-selects_height-loop-x l = l.most ≡ capped_chain (take l.x-index l.all)
