use Rattle.std.proofs.lemmas.Result.{IfOk-from_err}
use Rattle.std.proofs.Common.{◌∙◌}
use Rattle.sv_names.specs.Kinds.{layout_is}
use Rattle.sv_hierarchy.specs.Scopes.{add_wire}
use Rattle.sv_walk.specs.Walks.{state_of}
use Rattle.sv_walk.proofs.Walking.{ended}
use Rattle.sv_walk.proofs.HeaderPorts.{form_refused, port_opened, unwrapped, wire_refused}
use Rattle.sv_walk.proofs.walker.Walker.open_port.Goals as goal

pub returns-in_err-layout-clause-is : goal.returns-in_err-layout-clause-is
returns-in_err-layout-clause-is c =
    let t = state_of c.port_form.new.self c.port_form.new.current in
    form_refused c.args.top c.args.way (layout_is c.args.before.now) c.args.port.now (state_of c.args.self.now c.args.current.now) t t c.port_form.result c.in_err-layout.field-0.0 c.from_residual.result c.in_err-layout.was
    c.port_form.ensures.is c.from_residual.ensures.1

pub returns-in_err-add_wire-clause-is : goal.returns-in_err-add_wire-clause-is
returns-in_err-add_wire-clause-is c =
    let t = state_of c.port_form.new.self c.port_form.new.current in
    let u = state_of c.add_wire.new.self c.add_wire.new.current in
    wire_refused c.args.top c.is_read.result c.args.way c.unwrap_or-way.result (layout_is c.args.before.now) c.in_ok-layout.layout c.args.port.now (state_of c.args.self.now c.args.current.now) t u u c.add_wire.result c.in_err-add_wire.field-0.0
    c.from_residual-in_err-add_wire.result c.in_ok-layout.ensures.is (c.unwrap_or-way.ensures ∙ unwrapped c.args.port.now.way c.args.way) c.is_read.ensures c.in_err-add_wire.was c.add_wire.ensures c.from_residual-in_err-add_wire.ensures.1

pub returns-clause-is : goal.returns-clause-is
returns-clause-is c =
    let t = state_of c.port_form.new.self c.port_form.new.current in
    let u = state_of c.add_wire.new.self c.add_wire.new.current in
    port_opened c.args.top c.is_read.result c.args.way c.unwrap_or-way.result (layout_is c.args.before.now) c.in_ok-layout.layout c.args.port.now (state_of c.args.self.now c.args.current.now) t u _
    c.in_ok-layout.ensures.is (c.unwrap_or-way.ensures ∙ unwrapped c.args.port.now.way c.args.way) c.is_read.ensures
    (ended u (add_wire c.is_read.result (layout_is c.in_ok-layout.layout) c.args.port.now.name t) (tt {0}) c.in_ok-add_wire.ensures) (λ i. record { name = c.args.port.now.name.text; way = c.unwrap_or-way.result; wire = c.len-wire.ensures i; layout = layout_is c.in_ok-layout.layout })

pub returns-in_err-add_wire-clause-sound : goal.returns-in_err-add_wire-clause-sound
returns-in_err-add_wire-clause-sound c = IfOk-from_err _ _ c.from_residual-in_err-add_wire.ensures.0

pub returns-in_err-layout-clause-sound : goal.returns-in_err-layout-clause-sound
returns-in_err-layout-clause-sound c = IfOk-from_err _ _ c.from_residual.ensures.0
