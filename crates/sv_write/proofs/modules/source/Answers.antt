use Rattle.sv_write.specs.Writing.{each}
use Rattle.sv_write.specs.Modules.{write_part, write_source}
use Rattle.sv_write.proofs.Adding.{under}
use Rattle.sv_write.proofs.modules.source.Goals as goal

pub returns : goal.returns
unfolding write_source
returns c = under (each write_part) c.as_slice.ensures c.parts.ensures
