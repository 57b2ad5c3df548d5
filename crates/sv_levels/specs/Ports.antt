-- The ports of an instance as code holds them.
use Rattle.std.specs.Prelude.{Bool, List}
use Rattle.std.specs.List.{All}
use Rattle.sv_tree.specs.declared.design.Port.{Port}
use Rattle.sv_tree.specs.declared.design.Way.{Way}
use Rattle.sv_meaning.specs.Faults.{Judged, ◌>>=◌}
use Rattle.sv_meaning.specs.Layouts.{Name, Layout}
use Rattle.sv_names.specs.Kinds.{IsSound, layout_is}
use Rattle.sv_hierarchy.specs.Scopes as m
use Rattle.sv_levels.specs.declared.ports.OpenPort.{OpenPort}

abbrev pub port_is : OpenPort → m.OpenPort
port_is p = record { name = p.name.now.text; way = p.way; wire = p.wire; layout = layout_is p.layout }

abbrev pub port_name : OpenPort → Name
port_name p = p.name.now.text

abbrev pub PortsAreSound : List OpenPort → Type 0
PortsAreSound all = All (λ (p : OpenPort). IsSound p.layout) all

-- a port behind one of such a direction and layout
abbrev pub one_port : Bool → Way → Layout → Port → m.State → Judged (m.OpenPort × m.State)
one_port top way x p st = m.port_form p x st >>= λ found. m.add_port top (m.or_way p.way way) found.0 p.name found.1
