-- Scopes as code holds them.
use Rattle.std.specs.Prelude.{ℕ, List, [], ◌∷◌, ◌++◌, length, map}
use Rattle.sv_names.specs.Kinds.{entries_are}
use Rattle.sv_meaning.specs.Layouts.{Entry, Name, Scope}
use Rattle.sv_hierarchy.specs.Scopes as m
use Rattle.sv_levels.specs.declared.fronts.Fronts.{Fronts, Outermost, Within', end_of-Fronts, more_of-Fronts}
use Rattle.sv_levels.specs.declared.levels.Front.{Front}
use Rattle.sv_levels.specs.declared.levels.Instance.{Instance}
use Rattle.sv_levels.specs.declared.levels.Level.{Level}
use Rattle.sv_levels.specs.declared.levels.Levels.{Levels}

abbrev pub front_is : Front → m.Front
front_is f = record { level = f.level; nets = f.nets; consts = f.consts }

-- places around one another, the outermost first
abbrev pub fronts_are : Fronts → List m.Front
fronts_are Outermost = []
fronts_are (Within' f t (more_of-Fronts rest end_of-Fronts)) = fronts_are rest ++ front_is f ∷ []

abbrev pub level_is : Level → m.Level
level_is x = record {
  path = x.path;
  module_number = x.module;
  parent = x.parent;
  around = fronts_are x.around;
  nets = entries_are x.nets;
  consts = entries_are x.consts;
}

abbrev pub levels_are : Levels → List m.Level
levels_are levels = map level_is levels.list.items

-- the place behind all that is declared in a scope
abbrev pub front_of : List m.Level → ℕ → m.Front
front_of all n = record { level = n; nets = length (m.level_at all n).nets; consts = length (m.level_at all n).consts }

-- a block of a name in a path, behind all that is declared in a scope
abbrev pub block_in : List m.Level → ℕ → Name → List Entry → m.Level
block_in all n part more = record {
  path = m.prefix_of (m.level_at all n).path ++ part;
  module_number = (m.level_at all n).module_number;
  parent = n;
  around = m.fronts_at all (front_of all n);
  nets = more;
  consts = [];
}

abbrev pub seen_frames : List m.Level → List Front → List Entry
seen_frames all fronts = m.seen_along all (map front_is fronts)

abbrev pub live_frames : List m.Level → List Front → List Entry
live_frames all fronts = m.live_along all (map front_is fronts)

-- with what a constant expression sees of them
abbrev pub live_scope : List m.Level → List Front → Scope
live_scope all fronts = record { all = live_frames all fronts; above = seen_frames all fronts }

-- an instance or block, with all names that it sees at its end
abbrev pub instance_is : List m.Level → Instance → m.Instance
instance_is all i = record { path = i.path.now; module_number = i.module; parent = i.parent; scope = m.live_at all (front_is i.at) }
