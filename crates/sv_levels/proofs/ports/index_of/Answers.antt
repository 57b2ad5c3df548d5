use Rattle.sv_levels.proofs.PortsIndexed.{noted_next, noted_all}
use Rattle.sv_levels.specs.Ports.{port_name}
use Rattle.sv_levels.proofs.ports.index_of.Goals as goal

pub ports-init : goal.ports-init
ports-init c = c.new-index.ensures

pub ports-preserved : goal.ports-preserved
ports-preserved c =
    noted_next port_name c.ports.index c.note.new.self c.args.ports.now c.ports.number c.index-ports-number.result c.bytes.result.now c.ports-test.true c.index-ports-number.is c.bytes.ensures c.ports.invariant c.in_ok-note.ensures

pub returns : goal.returns
returns c = noted_all port_name c.ports.index c.args.ports.now c.ports.number c.ports-test.false c.ports.invariant
