use Rattle.sv_write.specs.Modules.{write_part}
use Rattle.sv_write.specs.Writing.{each}
use Rattle.sv_write.proofs.Loops.{Left}
use Rattle.sv_write.proofs.modules.parts.Given as goal

abbrev pub invariant-parts : goal.invariant-parts
invariant-parts l = Left write_part l.all l.part-index (each write_part l.all) l.fn.out l.out
