use Rattle.std.proofs.Common.{◌∷◌, take}
use Rattle.sv_names.specs.Names.{names_are}
use Rattle.sv_stmt.specs.Blocks.{AreEdgesOf}
use Rattle.sv_stmt.proofs.Judging.{nexts}
use Rattle.sv_stmt.proofs.block.edges_of.Given as goal

abbrev pub invariant-more : goal.invariant-more
invariant-more l = AreEdgesOf (names_are l.names) (l.events.first ∷ nexts (take l.next-index l.events.more)) l.edges
