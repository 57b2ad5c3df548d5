use Rattle.sv_write.specs.Design.{write_item}
use Rattle.sv_write.specs.Writing.{each}
use Rattle.sv_write.specs.Modules.{write_module}
use Rattle.sv_write.proofs.Adding.{◌▷◌, under}
use Rattle.sv_write.proofs.modules.module.Goals as goal

pub returns : goal.returns
unfolding write_module
returns c = c.head.ensures ▷ under (each write_item) c.as_slice.ensures c.items.ensures ▷ c.end.ensures
