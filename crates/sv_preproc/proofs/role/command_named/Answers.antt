use Rattle.sv_preproc.specs.Roles.{command}
use Rattle.sv_preproc.proofs.role.command_named.Goals as goal

pub returns : goal.returns
unfolding command
returns c = c.listed.ensures
