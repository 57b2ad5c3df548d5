use Rattle.std.proofs.Common.{◌≡◌, take}
use Rattle.svtv_invariants.proofs.halves.copy_firsts.Given as goal

abbrev pub invariant-firsts : goal.invariant-firsts
invariant-firsts l = l.copies ≡ take l.own-index l.firsts
