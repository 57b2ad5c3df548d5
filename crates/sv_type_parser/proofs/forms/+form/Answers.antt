use Rattle.std.proofs.Common.{◌≡◌, arith}
use Rattle.sv_type_parser.specs.Forms.{form}
use Rattle.sv_expr_reader.proofs.Turns.{deeper}
use Rattle.sv_type_parser.proofs.forms.+form.Goals as goal

pub returns : goal.returns
unfolding form
returns t c = rw (deeper (λ n. form n c.args.tokens.now) c.args.depth (omega arith)) c.level.ensures

pub returns-then-depth-eq0 : goal.returns-then-depth-eq0
unfolding form
returns-then-depth-eq0 t c = let none : c.args.depth ≡ 0 = omega arith in rw none c.name_alone.ensures
