use Rattle.std.proofs.Common.{◌≡◌, drop}
use Rattle.sv_typing.specs.Judging.{any_loose}
use Rattle.sv_typing.proofs.sides.loose_in.Given as goal

abbrev pub invariant-parts : goal.invariant-parts
invariant-parts l = any_loose (drop l.i l.parts) ≡ any_loose l.parts
