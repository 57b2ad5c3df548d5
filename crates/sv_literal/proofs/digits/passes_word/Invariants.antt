use Rattle.std.proofs.Common.{◌≡◌, take, drop, not}
use Rattle.fourvec.specs.declared.Bit.TheVariants.{Zero}
use Rattle.fourvec.specs.Bits.{all_zero}
use Rattle.sv_literal.specs.Value as value
use Rattle.sv_literal.proofs.digits.passes_word.Given as goal

abbrev pub invariant-loop-b : goal.invariant-loop-b
invariant-loop-b l = record {
  last : l.last ≡ value.fitted 32 Zero (value.given_bits l.each (take l.b-index l.digits));
  passed : l.passed ≡ not (all_zero (drop 32 (value.given_bits l.each (take l.b-index l.digits))));
}
