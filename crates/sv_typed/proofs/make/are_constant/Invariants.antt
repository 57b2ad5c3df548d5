use Rattle.std.proofs.Common.{◌≡◌, drop}
use Rattle.sv_typed.specs.Typed.{are_constant}
use Rattle.sv_typed.proofs.make.are_constant.Given as goal

abbrev pub invariant-parts : goal.invariant-parts
invariant-parts l = are_constant (drop l.part-index l.parts) ≡ are_constant l.parts
