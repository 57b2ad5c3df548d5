use Rattle.std.proofs.Common.{arith}
use Rattle.sv_expr_parser.proofs.Fronts.{none_at_all}
use Rattle.sv_expr_parser.proofs.parse.longest_within.Goals as goal

pub returns : goal.returns
returns c = none_at_all c.args.tokens.now c.loop-len.len c.args.left (omega arith) c.loop-len.invariant.none c.requires.stops
