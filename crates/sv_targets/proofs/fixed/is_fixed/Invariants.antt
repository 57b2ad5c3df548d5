use Rattle.std.proofs.Common.{◌≡◌, take, true}
use Rattle.sv_typing.specs.Picks.{are_fixed}
use Rattle.sv_targets.proofs.fixed.is_fixed.Given as goal

abbrev pub invariant-picks : goal.invariant-picks
invariant-picks l = are_fixed (take l.pick-index l.target.picks) ≡ true
