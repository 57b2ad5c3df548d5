-- Where an expression stands: whether it has to be constant, and what it sees of the names of its place.
use Rattle.std.specs.Prelude.{Bool, true, false, List}
use Rattle.sv_meaning.specs.Layouts.{Entry, Scope}
use Rattle.sv_typing.specs.declared.position.Position.{Position}
use Rattle.sv_typing.specs.declared.position.Position.TheVariants.{Free, Constant, Still}

abbrev pub is_constant : Position → Bool
is_constant Free = false
is_constant Constant = true
is_constant Still = true

-- a constant expression sees what is declared above it
abbrev pub names_seen : Position → Scope → List Entry
names_seen Free at = at.all
names_seen Constant at = at.above
names_seen Still at = at.all

abbrev pub seen_in : Position → Scope → Scope
seen_in p at = record { all = names_seen p at; above = at.above }
