use Rattle.std.proofs.lemmas.Result.{IfOk-from_err}
use Rattle.std.proofs.Common.{◌∙◌, map, ap}
use Rattle.sv_meaning.specs.Layouts.{Name}
use Rattle.sv_hierarchy.specs.Scopes.{port_named}
use Rattle.sv_levels.specs.Levels.{front_is}
use Rattle.sv_levels.specs.Ports.{port_is}
use Rattle.sv_levels.specs.Tasks.{actual_is, work_is}
use Rattle.sv_levels.proofs.PortsLists.{connected_push, no_port_works}
use Rattle.sv_levels.proofs.ports.add_connected.Goals as goal

pub returns-in_ok-push : goal.returns-in_ok-push
returns-in_ok-push c =
    connected_push c.args.at (port_named c.args.name.now.text (map port_is c.args.ports.now)) c.in-Some.port.now c.in_ok-layout.layout c.args.actual c.args.works.now.items c.push.new.self.items
    (c.in-Some.ensures.is ∙ ap (λ (n : Name). port_named n (map port_is c.args.ports.now)) c.bytes.ensures) c.in_ok-layout.ensures c.in_ok-push.ensures.items

pub returns-in_default : goal.returns-in_default
returns-in_default c =
    no_port_works (front_is c.args.at) (port_named c.args.name.now.text (map port_is c.args.ports.now)) (actual_is c.args.actual) (map work_is c.args.works.now.items)
    (c.in_default.ensures.is ∙ ap (λ (n : Name). port_named n (map port_is c.args.ports.now)) c.bytes.ensures)

pub returns-in_err-layout : goal.returns-in_err-layout
returns-in_err-layout c = IfOk-from_err _ _ c.from_residual.ensures.0

pub returns-in_err-push : goal.returns-in_err-push
returns-in_err-push c = IfOk-from_err _ _ c.from_residual-in_err-push.ensures.0
