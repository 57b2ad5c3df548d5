use Rattle.std.proofs.Common.{◌≡◌, drop, map, false}
use Rattle.sv_tree.specs.declared.design.Way.TheVariants as way
use Rattle.sv_names.specs.Kinds.{IsSound, layout_is}
use Rattle.sv_meaning.specs.Layouts as layouts
use Rattle.sv_hierarchy.specs.Scopes.{header_ports}
use Rattle.sv_levels.specs.Ports.{PortsAreSound, port_is}
use Rattle.sv_walk.proofs.HeaderPorts.{behind}
use Rattle.sv_walk.specs.Walks.{state_of}
use Rattle.sv_walk.proofs.walker.Walker.header_ports.Given as goal

abbrev pub invariant-list : goal.invariant-list
invariant-list l = record {
  rest : header_ports l.top way.Input (layouts.scalar false) l.list (state_of l.fn.self l.fn.current) ≡ behind (map port_is l.ports.items) (header_ports l.top l.way (layout_is l.before) (drop l.port-index l.list) (state_of l.self l.current));
  before : IsSound l.before;
  sound : PortsAreSound l.ports.items;
}
