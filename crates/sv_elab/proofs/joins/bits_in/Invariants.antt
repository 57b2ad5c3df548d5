use Rattle.std.proofs.Common.{◌≡◌, ◌+◌, ◌≤◌, length, drop, min}
use Rattle.sv_elab.specs.Working.{parts_bits}
use Rattle.sv_elab.proofs.joins.bits_in.Given as goal

abbrev pub invariant-parts : goal.invariant-parts
invariant-parts l = record {
  fits : l.count ≤ 255;
  total : min 255 (l.count + length (parts_bits (drop l.part-index l.parts))) ≡ min 255 (length (parts_bits l.parts));
}
