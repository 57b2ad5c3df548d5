-- The modules of a text as code holds them.
use Rattle.std.specs.Prelude.{◌≡◌, ℕ, false, List, map, slice_get, Option, option_map, Ok}
use Rattle.std.specs.Global.{Vec}
use Rattle.sv_tree.specs.declared.design.Module.{Module}
use Rattle.sv_meaning.specs.Faults.{Judged, ◌>>=◌}
use Rattle.sv_meaning.specs.Layouts.{Scope}
use Rattle.sv_meaning.specs.Params.{Connection, connections}
use Rattle.sv_modules.specs.Connections.{connection_is}
use Rattle.sv_modules.specs.declared.connect.Connection.{Connection as Listed}
use Rattle.sv_modules.specs.Listed.{modules_of}
use Rattle.sv_hierarchy.specs.Libraries.{IsLibraryOf}
use Rattle.sv_hierarchy.specs.Scopes as m
use Rattle.sv_levels.specs.declared.library.Library.{Library}
use Rattle.sv_levels.specs.declared.library.Known.{Known}
use Rattle.sv_levels.specs.declared.library.Wiring.{Wiring}

abbrev pub known_is : Known → m.Known
known_is k = record { tree = k.tree.now; number = k.number; above = k.above }

-- a library of the definitions has the same modules, with the same names above them
pub record IsLibrary (library : Library) (all : m.Library) : Type 0 where
  pub modules : IsLibraryOf (modules_of library.modules) all
  pub above : map (λ (k : m.Known). k.above) all ≡ library.above

-- the module of a number, if there is one
abbrev pub KnowsNumber : m.Library → ℕ → Option Known → Type 0
KnowsNumber all n found = option_map known_is found ≡ slice_get all n

-- connections as code lists them
abbrev pub IsListed : List Connection → Vec Listed → Type 0
IsListed all list = map connection_is list.items ≡ all

-- what is given to the parameters of a module, and what its ports are connected to
abbrev pub wiring : Scope → Module → m.Child → Judged (List Connection × List Connection)
wiring at t c = connections at (m.open_params t) c.params >>= λ a. connections at (m.port_texts (m.ports_of t)) c.pins >>= λ b. Ok (a, b)

abbrev pub IsWiring : List Connection × List Connection → Wiring → Type 0
IsWiring all w = IsListed all.0 w.params × IsListed all.1 w.pins

-- an instance below another, without its children
abbrev pub child_alone : m.Known → m.Child → m.State → Judged m.State
child_alone k c st = do
  params ← connections (m.seen_at st.levels c.at) (m.open_params k.tree) c.params
  pins ← connections (m.seen_at st.levels c.at) (m.port_texts (m.ports_of k.tree)) c.pins
  more ← m.count_instance c st
  m.instance_walk false k.tree c.at pins (m.begun k c.path c.at.level (m.given_by c.at params) more)
