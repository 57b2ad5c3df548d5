use Rattle.std.proofs.Common.{◌≡◌, true}
use Rattle.sv_stores.specs.Scenes.{are_marked}
use Rattle.sv_blocks.proofs.shown.are_marked.Given as goal

abbrev pub invariant-bits : goal.invariant-bits
invariant-bits l = are_marked l.marks l.at l.bit ≡ true
