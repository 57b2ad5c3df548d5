use Rattle.std.proofs.Common.{◌≡◌, ◌+◌, length, drop}
use Rattle.flat_words.specs.Readers.{bits_onto}
use Rattle.flat_words.proofs.bits.bits_below.Given as goal

abbrev pub invariant-digits : goal.invariant-digits
invariant-digits l = record {
  so_far : bits_onto l.value (drop l.digit-index l.digits) ≡ bits_onto l.fn.high l.digits;
  long : length l.value ≡ length l.fn.high + l.digit-index;
}
