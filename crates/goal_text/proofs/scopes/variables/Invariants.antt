use Rattle.std.proofs.Common.{◌≡◌, ◌++◌, drop, map}
use Rattle.sv_names.specs.Kinds.{entries_are}
use Rattle.sv_meaning.specs.Layouts.{of_choice}
use Rattle.goal_text.specs.Scopes.{var_vector, variable_entries, vectors_from}
use Rattle.goal_text.proofs.scopes.variables.Given as goal

abbrev pub invariant-vars : goal.invariant-vars
invariant-vars l = variable_entries l.vars ≡ entries_are l.scope ++ vectors_from of_choice l.number (map var_vector (drop l.number l.vars))
