use Rattle.std.proofs.Common.{◌≡◌, ◌++◌, drop, map}
use Rattle.sv_names.specs.Kinds.{entries_are}
use Rattle.sv_meaning.specs.Layouts.{of_samples}
use Rattle.goal_text.specs.Scopes.{sample_vector, sample_entries, vectors_from}
use Rattle.goal_text.proofs.scopes.sampled.Given as goal

abbrev pub invariant-samples : goal.invariant-samples
invariant-samples l = sample_entries l.samples ≡ entries_are l.scope ++ vectors_from of_samples l.number (map sample_vector (drop l.number l.samples))
