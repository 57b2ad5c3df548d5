use Rattle.std.proofs.Common.{◌≡◌, ◌-◌}
use Rattle.sv_meaning.specs.Meanings.{log_from}
use Rattle.sv_typed.proofs.bits.log_up.Given as goal

abbrev pub invariant-loop-k : goal.invariant-loop-k
invariant-loop-k l = log_from (128 - l.k) l.k l.n ≡ log_from 128 0 l.n
