use Rattle.std.proofs.Common.{◌≡◌, [], map, take, drop}
use Rattle.sv_meaning.specs.Params.{by_name}
use Rattle.sv_modules.specs.Naming.{Holds, texts_of}
use Rattle.sv_modules.specs.Connections.{connection_is}
use Rattle.sv_modules.proofs.Pinned.{behind, pin_names}
use Rattle.sv_modules.proofs.connect.by_name.Given as goal

abbrev pub invariant-pins : goal.invariant-pins
invariant-pins l = record {
  used : Holds l.used (pin_names (take l.pin-index l.pins));
  rest : by_name (texts_of l.names) [] l.pins ≡ behind (map connection_is l.list.items) (by_name (texts_of l.names) (pin_names (take l.pin-index l.pins)) (drop l.pin-index l.pins));
}
