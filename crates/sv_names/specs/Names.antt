-- What names stand for at a place.
use Rattle.std.specs.Prelude.{List, [], ◌∷◌, ◌++◌, take}
use Rattle.sv_names.specs.declared.names.Frame.{Frame}
use Rattle.sv_names.specs.declared.names.Names.{Names}
use Rattle.sv_names.specs.Kinds.{Entry, entries_are}
use Rattle.sv_meaning.specs.Layouts as m

-- the fronts of scopes, one after the other
unfoldable pub fronts : List Frame → List Entry
fronts [] = []
fronts (f ∷ more) = take f.len f.scope.now ++ fronts more

-- the same, up to where the place stands in each
unfoldable pub fronts_above : List Frame → List Entry
fronts_above [] = []
fronts_above (f ∷ more) = take f.above f.scope.now ++ fronts_above more

abbrev pub stack_of : Names → List Frame
stack_of names = names.frames.items

abbrev pub frames_of : Names → List Entry
frames_of names = fronts (stack_of names)

abbrev pub above_of : Names → List Entry
above_of names = fronts_above (stack_of names)

abbrev pub loops_of : Names → List Entry
loops_of names = names.loops

-- the fronts of scopes, and the variables of loops above them
abbrev pub entries_of : Names → List Entry
entries_of names = frames_of names ++ loops_of names

-- what is declared above the place, and the variables of loops
abbrev pub entries_above : Names → List Entry
entries_above names = above_of names ++ loops_of names

abbrev pub names_are : Names → m.Scope
names_are names = record { all = entries_are (entries_of names); above = entries_are (entries_above names) }

-- what a constant expression sees
abbrev pub constants_are : Names → m.Scope
constants_are names = m.scope_of (entries_are (entries_above names))
