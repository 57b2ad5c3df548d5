use Rattle.std.proofs.Common.{◌≡◌, ◌<◌, length, take, Ok, sym, ◌∙◌, arith}
use Rattle.sv_expr_reader.specs.Reading.{expr}
use Rattle.sv_expr_parser.proofs.Fronts.{front_whole, front_part, refuses_front}
use Rattle.sv_expr_parser.proofs.parse.front.Goals as goal

pub returns-then-left-eq0 : goal.returns-then-left-eq0
returns-then-left-eq0 c =
    let e : expr 201 0 (take c.args.len c.args.tokens.now) ≡ Ok (c.in-Ok.x, c.start.new.tokens) = rw (← c.new-cursor.ensures) c.in-Ok.ensures in
    front_whole c.args.tokens.now c.args.len c.requires c.in-Ok.x c.start.new.tokens e (sym c.left.ensures ∙ c.if-left-eq0.true)

pub returns-else-left-eq0 : goal.returns-else-left-eq0
returns-else-left-eq0 c =
    let e : expr 201 0 (take c.args.len c.args.tokens.now) ≡ Ok (c.in-Ok.x, c.start.new.tokens) = rw (← c.new-cursor.ensures) c.in-Ok.ensures in
    let some : 0 < length c.start.new.tokens = omega (arith, c.left.ensures, c.if-left-eq0.false) in
    front_part c.args.tokens.now c.args.len c.requires c.in-Ok.x c.start.new.tokens e some

pub refused_front-requires-clause-refuses : goal.refused_front-requires-clause-refuses
refused_front-requires-clause-refuses c =
    refuses_front c.args.tokens.now c.args.len c.requires c.in-Err.refusal c.start.new.tokens (rw (← c.new-cursor.ensures) c.in-Err.ensures)
