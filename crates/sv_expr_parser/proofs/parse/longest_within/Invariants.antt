use Rattle.std.proofs.Common.{◌≤◌, length}
use Rattle.sv_expr_parser.specs.Parsed.{NoneBeyond}
use Rattle.sv_expr_parser.proofs.parse.longest_within.Given as goal

abbrev pub invariant-loop-len : goal.invariant-loop-len
invariant-loop-len l = record { within : l.len ≤ length l.tokens; none : NoneBeyond l.tokens l.len }

abbrev pub decreases-loop-len : goal.decreases-loop-len
decreases-loop-len l = l.len
