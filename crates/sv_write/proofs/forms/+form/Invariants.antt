use Rattle.sv_write.specs.Forms.{write_member}
use Rattle.sv_write.specs.Writing.{each}
use Rattle.sv_write.proofs.Loops.{Left}
use Rattle.sv_write.proofs.forms.+form.Given as goal

abbrev pub invariant-all_members-parts : goal.invariant-all_members-parts
invariant-all_members-parts l = Left write_member l.all l.part-index (each write_member l.all) l.fn.out l.out
