use Rattle.sv_levels.proofs.PortsIndexed.{noted_next, noted_all}
use Rattle.sv_levels.specs.Overriding.{given_name}
use Rattle.sv_levels.proofs.params.index_of.Goals as goal

pub list-init : goal.list-init
list-init c = c.new-index.ensures

pub list-preserved : goal.list-preserved
list-preserved c =
    noted_next given_name c.list.index c.note.new.self c.args.list.now c.list.number c.index-list-number.result c.bytes.result.now c.list-test.true c.index-list-number.is c.bytes.ensures c.list.invariant c.in_ok-note.ensures

pub returns : goal.returns
returns c = noted_all given_name c.list.index c.args.list.now c.list.number c.list-test.false c.list.invariant
