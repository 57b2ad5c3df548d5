use Rattle.std.proofs.lemmas.Result.{IfOk-from_err}
use Rattle.std.proofs.Common.{◌≡◌, ◌∙◌, ◌+◌, ◌∷◌, [], drop, map, false, sym, ap, subst}
use Rattle.std.specs.Global.{Vec}
use Rattle.std.proofs.lemmas.List.{map-append}
use Rattle.std.proofs.lemmas.List.Elements.{All-from_recursion, All-push}
use Rattle.sv_tree.specs.declared.design.Way.TheVariants as way
use Rattle.sv_names.specs.declared.layout.Layout.{Layout as Coded}
use Rattle.sv_names.specs.Kinds.{IsSound, layout_is}
use Rattle.sv_meaning.specs.Layouts.{scalar}
use Rattle.sv_hierarchy.specs.Scopes.{header_ports}
use Rattle.sv_levels.specs.declared.ports.OpenPort.{OpenPort}
use Rattle.sv_levels.specs.Ports.{PortsAreSound, one_port, port_is}
use Rattle.sv_walk.specs.Walks.{state_of}
use Rattle.sv_walk.proofs.HeaderPorts.{behind, behind_none, found_is, finds, one_refused, ports_next, ports_none}
use Rattle.sv_walk.proofs.walker.Walker.header_ports.Goals as goal

pub list-init : goal.list-init
list-init c =
    record {
      rest = behind_none (header_ports c.args.top way.Input (scalar false) c.args.list.now (state_of c.args.self.now c.args.current.now))
          ∙ λ i. behind (map port_is (sym c.new-ports.ensures.items i)) (header_ports c.args.top way.Input (sym c.scalar-before.ensures.is i) c.args.list.now (state_of c.args.self.now c.args.current.now));
      before = c.scalar-before.ensures.sound;
      sound = subst PortsAreSound (sym c.new-ports.ensures.items) (All-from_recursion (λ (p : OpenPort). IsSound p.layout) [] tt);
    }

pub returns-in_err-one-clause-is : goal.returns-in_err-one-clause-is
returns-in_err-one-clause-is c =
    let t = state_of c.open_port.new.self c.open_port.new.current in
    one_refused (λ found ports. (found.0 ≡ map port_is ports.items) × (found.1 ≡ t)) c.args.top c.list.way (layout_is c.list.before) c.args.list.now c.list.port-index c.port-item.result (map port_is c.list.ports.items) (state_of c.list.self c.list.current) t
    (header_ports c.args.top way.Input (scalar false) c.args.list.now (state_of c.args.self.now c.args.current.now)) c.open_port.result c.in_err-one.field-0.0 c.from_residual.result c.list-test.true c.port-item.is c.list.invariant.rest c.in_err-one.was
    c.open_port.ensures.is c.from_residual.ensures.1

pub list-preserved : goal.list-preserved
list-preserved c =
    let t = state_of c.open_port.new.self c.open_port.new.current in
    record {
      rest = ports_next c.args.top c.list.way (layout_is c.list.before) c.args.list.now c.list.port-index c.port-item.result (map port_is c.list.ports.items) (state_of c.list.self c.list.current)
          (header_ports c.args.top way.Input (scalar false) c.args.list.now (state_of c.args.self.now c.args.current.now)) (port_is c.in_ok-one.one) t c.list-test.true c.port-item.is c.list.invariant.rest
          (found_is port_is t (one_port c.args.top c.list.way (layout_is c.list.before) c.port-item.result (state_of c.list.self c.list.current)) c.in_ok-one.one c.in_ok-one.ensures.is)
          ∙ λ i. behind (sym (ap (map port_is) c.in_ok-before.ensures.ports ∙ map-append port_is c.list.ports.items (c.in_ok-one.one ∷ [])) i)
          (header_ports c.args.top c.in_ok-one.one.way (layout_is (sym c.in_ok-before.ensures.layout i)) (drop (c.list.port-index + 1) c.args.list.now) t);
      before = subst (λ (l : Coded). IsSound l) (sym c.in_ok-before.ensures.layout) c.in_ok-one.ensures.sound;
      sound = subst PortsAreSound (sym c.in_ok-before.ensures.ports) (All-push (λ (p : OpenPort). IsSound p.layout) c.list.ports.items c.in_ok-one.one c.list.invariant.sound c.in_ok-one.ensures.sound);
    }

pub returns-clause-is : goal.returns-clause-is
returns-clause-is c =
    let s = state_of c.list.self c.list.current in
    finds (λ (v : Vec OpenPort). map port_is v.items) s (header_ports c.args.top way.Input (scalar false) c.args.list.now (state_of c.args.self.now c.args.current.now)) c.list.ports
    (ports_none c.args.top c.list.way (layout_is c.list.before) c.args.list.now c.list.port-index (map port_is c.list.ports.items) s (header_ports c.args.top way.Input (scalar false) c.args.list.now (state_of c.args.self.now c.args.current.now))
    c.list-test.false c.list.invariant.rest)

pub returns-clause-sound : goal.returns-clause-sound
returns-clause-sound c = c.list.invariant.sound

pub returns-in_err-before-clause-sound : goal.returns-in_err-before-clause-sound
returns-in_err-before-clause-sound c = IfOk-from_err _ _ c.from_residual-in_err-before.ensures.0

pub returns-in_err-one-clause-sound : goal.returns-in_err-one-clause-sound
returns-in_err-one-clause-sound c = IfOk-from_err _ _ c.from_residual.ensures.0
