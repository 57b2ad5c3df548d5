use Rattle.std.proofs.Common.{◌≡◌, Some, Err, sym, ap, ◌∙◌, arith}
use Rattle.sv_stmt_parser.specs.Targets.{target}
use Rattle.sv_stmt_parser.proofs.Targets.{name_told, brace_told, none_told}
use Rattle.sv_stmt_parser.proofs.lvalues.+target.Goals as goal

pub returns-then-depth-eq0 : goal.returns-then-depth-eq0
unfolding target
returns-then-depth-eq0 t c = let none : c.args.depth ≡ 0 = omega arith in λ _. ap (λ n. target n c.args.tokens.now) none ∙ ap Err (sym c.too_deep.ensures)

pub returns-in_default : goal.returns-in_default
returns-in_default t c = λ _. none_told c.args.depth c.args.tokens.now (omega arith) (sym c.target_next.ensures ∙ c.in_default.is) ∙ ap Err (sym c.refuse.ensures)

pub returns-in-Name : goal.returns-in-Name
returns-in-Name t c = rw (name_told c.args.depth c.args.tokens.now (omega arith) (sym c.target_next.ensures ∙ (c.in-Some.is ∙ ap Some c.in-Name.is))) c.named_target.ensures

pub returns-in-Brace : goal.returns-in-Brace
returns-in-Brace t c = rw (brace_told c.args.depth c.args.tokens.now (omega arith) (sym c.target_next.ensures ∙ (c.in-Some.is ∙ ap Some c.in-Brace.is))) c.guarded.ensures
