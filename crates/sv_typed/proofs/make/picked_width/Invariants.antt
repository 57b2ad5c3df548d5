use Rattle.std.proofs.Common.{◌≡◌, drop}
use Rattle.sv_typed.specs.Typed.{picked_width}
use Rattle.sv_typed.proofs.make.picked_width.Given as goal

abbrev pub invariant-picks : goal.invariant-picks
invariant-picks l = picked_width (drop l.pick-index l.picks) l.last ≡ picked_width l.picks l.width
