use Rattle.sv_write.specs.Writing.{each}
use Rattle.sv_write.proofs.Loops.{Left}
use Rattle.sv_write.proofs.part.each.Given as goal

abbrev pub invariant-parts : goal.invariant-parts
invariant-parts g l = Left g.T.Part.text l.all l.part-index (each g.T.Part.text l.all) l.fn.out l.out
