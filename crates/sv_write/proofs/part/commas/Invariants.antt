use Rattle.sv_write.specs.Writing.{behind_comma, commas}
use Rattle.sv_write.proofs.Loops.{Left}
use Rattle.sv_write.proofs.part.commas.Given as goal

abbrev pub invariant-parts : goal.invariant-parts
invariant-parts g l = Left (behind_comma g.T.Part.text) l.more l.part-index (commas g.T.Part.text l.all) l.fn.out l.out
