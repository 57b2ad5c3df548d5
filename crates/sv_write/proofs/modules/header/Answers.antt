use Rattle.sv_write.specs.Modules.{write_ports}
use Rattle.sv_write.proofs.Heads.{ports_are}
use Rattle.sv_write.proofs.Adding.{◌▷◌, turned}
use Rattle.sv_write.proofs.modules.header.Goals as goal

pub returns : goal.returns
unfolding write_ports
returns c = c.mark.ensures ▷ turned (ports_are c.args.all.now) c.commas.ensures ▷ c.mark-2.ensures
