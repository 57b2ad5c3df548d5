-- The names to which something is given.
use Rattle.sv_meaning.specs.Layouts.{Name}
use Rattle.sv_levels.specs.declared.tasks.Given.{Given}

abbrev pub given_name : Given → Name
given_name g = g.name.now.text
