use Rattle.std.proofs.Common.{◌≡◌, ◌≤◌, ◌+◌, min, drop}
use Rattle.sv_typed.specs.Typed.{width_together}
use Rattle.sv_typed.proofs.make.width_together.Given as goal

abbrev pub invariant-parts : goal.invariant-parts
invariant-parts l = record {
  fits : l.width ≤ 255;
  total : min 255 (l.width + width_together (drop l.part-index l.parts)) ≡ min 255 (width_together l.parts);
}
