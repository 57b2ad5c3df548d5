use Rattle.std.proofs.Common.{◌≡◌, take}
use Rattle.sv_literal.specs.Value as value
use Rattle.sv_literal.proofs.digits.last_bits.Given as goal

abbrev pub invariant-loop-b : goal.invariant-loop-b
invariant-loop-b l = l.last ≡ value.fitted 128 l.fn.fill (value.given_bits l.each (take l.b-index l.digits))
