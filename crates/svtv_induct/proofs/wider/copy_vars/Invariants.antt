use Rattle.std.proofs.Common.{◌≡◌, take}
use Rattle.svtv_induct.proofs.wider.copy_vars.Given as goal

abbrev pub invariant-vars : goal.invariant-vars
invariant-vars l = l.copies ≡ take l.at l.vars
