use Rattle.std.proofs.Common.{◌≡◌, take}
use Rattle.sv_tree.specs.Nesting.{expr_depths, select_depths, after_commas_depths, each_depths}
use Rattle.sv_expr_reader.specs.Seeking.{seek}
use Rattle.sv_expr_reader.proofs.seeking.+walk.Given as goal

abbrev pub invariant-name-loop-x : goal.invariant-name-loop-x
invariant-name-loop-x l = l.behind ≡ seek l.inside (each_depths select_depths (take l.x-index l.all)) l.initial.behind

abbrev pub invariant-parts-loop-x : goal.invariant-parts-loop-x
invariant-parts-loop-x l = l.behind ≡ seek l.depth (after_commas_depths expr_depths (take l.x-index l.more)) l.initial.behind
