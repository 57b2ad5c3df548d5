use Rattle.std.proofs.Common.{◌≡◌, length, take}
use Rattle.sv_names.proofs.scope.Scope.truncate.Given as goal

abbrev pub invariant-declared : goal.invariant-declared
invariant-declared l = take l.count l.self ≡ take l.count l.fn.self

abbrev pub decreases-declared : goal.decreases-declared
decreases-declared l = length l.self
