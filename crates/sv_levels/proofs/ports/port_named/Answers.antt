use Rattle.std.proofs.Common.{◌∙◌, sym}
use Rattle.std.specs.Option.{option_copied}
use Rattle.sv_levels.proofs.PortsLists.{got, no_port, port_at, sound_got}
use Rattle.sv_levels.proofs.ports.port_named.Goals as goal

pub returns-in-Some-clause-is : goal.returns-in-Some-clause-is
returns-in-Some-clause-is c =
    port_at c.args.index.now c.args.name.now c.args.ports.now c.in-Some.number (option_copied c.get.result) c.requires.indexed (sym c.in-Some.is ∙ c.number.ensures)
    (got c.args.ports.now c.in-Some.number c.get.result c.get.ensures.lookup)

pub returns-in-Some-clause-sound : goal.returns-in-Some-clause-sound
returns-in-Some-clause-sound c = sound_got c.args.ports.now c.in-Some.number c.get.result c.get.ensures.lookup c.requires.sound

pub returns-in-None-clause-is : goal.returns-in-None-clause-is
returns-in-None-clause-is c = no_port c.args.index.now c.args.name.now c.args.ports.now c.requires.indexed (sym c.in-None.is ∙ c.number.ensures)
