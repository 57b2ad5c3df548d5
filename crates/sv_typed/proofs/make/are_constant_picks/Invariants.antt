use Rattle.std.proofs.Common.{◌≡◌, drop}
use Rattle.sv_typed.specs.Typed.{are_constant_picks}
use Rattle.sv_typed.proofs.make.are_constant_picks.Given as goal

abbrev pub invariant-picks : goal.invariant-picks
invariant-picks l = are_constant_picks (drop l.pick-index l.picks) ≡ are_constant_picks l.picks
