use Rattle.sv_write.specs.Design.{write_item}
use Rattle.sv_write.specs.Writing.{each}
use Rattle.sv_write.proofs.Loops.{Left}
use Rattle.sv_write.proofs.design.+item.Given as goal

abbrev pub invariant-items-parts : goal.invariant-items-parts
invariant-items-parts l = Left write_item l.all l.part-index (each write_item l.all) l.fn.out l.out
