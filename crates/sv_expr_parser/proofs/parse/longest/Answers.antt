use Rattle.std.proofs.Common.{◌≡◌, Ok, arith}
use Rattle.sv_expr_reader.specs.Reading.{expr}
use Rattle.sv_expr_parser.proofs.Fronts.{read_longest, refuses, left_less}
use Rattle.sv_expr_parser.proofs.parse.longest.Goals as goal

pub overflow_sub-len : goal.overflow_sub-len
overflow_sub-len c =
    let e : expr 201 0 c.args.tokens.now ≡ Ok (c.in-Ok.found, c.start.new.tokens) = rw (← c.new-cursor.ensures) c.in-Ok.ensures in
    omega (arith, left_less c.in-Ok.found c.args.tokens.now c.start.new.tokens e)

pub returns-in-Ok : goal.returns-in-Ok
returns-in-Ok c =
    let e : expr 201 0 c.args.tokens.now ≡ Ok (c.in-Ok.found, c.start.new.tokens) = rw (← c.new-cursor.ensures) c.in-Ok.ensures in
    rw (c.left.ensures) (read_longest c.in-Ok.found c.args.tokens.now c.start.new.tokens e)

pub or_shorter-requires : goal.or_shorter-requires
or_shorter-requires c = refuses c.args.tokens.now c.in-Err.refusal c.start.new.tokens (rw (← c.new-cursor.ensures) c.in-Err.ensures)
