use Rattle.std.proofs.Common.{◌≡◌, ◌*◌, ◌^◌, ◌%◌}
use Rattle.sv_typed.proofs.bits.product.Given as goal

abbrev pub invariant-loop-rest : goal.invariant-loop-rest
invariant-loop-rest l = (l.all * l.square ^ l.rest) % 2 ^ 128 ≡ l.base ^ l.exponent % 2 ^ 128

abbrev pub decreases-loop-rest : goal.decreases-loop-rest
decreases-loop-rest l = l.rest
