use Rattle.std.proofs.Common.{◌≡◌, ◌+◌, length, drop}
use Rattle.vcd_text.specs.Said.{onto_bits, bits_said}
use Rattle.vcd_text.proofs.values.bits_below.Given as goal

abbrev pub invariant-bits : goal.invariant-bits
invariant-bits l = record {
  so_far : onto_bits l.value (bits_said (drop l.bit-index l.bits)) ≡ onto_bits l.fn.high (bits_said l.bits);
  long : length l.value ≡ length l.fn.high + l.bit-index;
}
