use Rattle.sv_write.specs.Modules.{write_params}
use Rattle.sv_write.proofs.Adding.{◌▷◌, under}
use Rattle.sv_write.proofs.modules.head.Goals as goal

pub returns : goal.returns
returns c = c.key.ensures ▷ c.name.ensures ▷ under write_params c.as_slice.ensures c.params.ensures ▷ c.maybe_header.ensures ▷ c.mark.ensures
