use Rattle.std.proofs.Common.{rules}
use Rattle.sv_stmt_parser.specs.Stmts.{loop}
use Rattle.sv_stmt_parser.proofs.statements.Statements.counted.Goals as goal

pub returns : goal.returns
unfolding loop
returns g c = search rules

pub returns-in_err-place : goal.returns-in_err-place
unfolding loop
returns-in_err-place g c = search rules
