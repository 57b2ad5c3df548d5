use Rattle.std.proofs.Common.{◌≡◌, ◌-◌, ◌^◌, min, take}
use Rattle.sv_literal.specs.Value as value
use Rattle.sv_literal.proofs.digits.capped_decimal.Given as goal

abbrev pub invariant-loop-b : goal.invariant-loop-b
invariant-loop-b l = l.number ≡ min (value.decimal (take l.b-index l.digits)) (2 ^ 64 - 1)
