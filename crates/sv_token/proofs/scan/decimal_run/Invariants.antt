use Rattle.std.proofs.Common.{◌≡◌, ◌+◌, length}
use Rattle.sv_token.specs.Cut.{run}
use Rattle.sv_outside.specs.Literals.{goes_decimal}
use Rattle.sv_token.proofs.scan.decimal_run.Given as goal

abbrev pub invariant-loop-rest : goal.invariant-loop-rest
invariant-loop-rest l = record { counted : l.n + run goes_decimal l.rest ≡ run goes_decimal l.text; room : l.n + length l.rest ≡ length l.text }

abbrev pub decreases-loop-rest : goal.decreases-loop-rest
decreases-loop-rest l = length l.rest
