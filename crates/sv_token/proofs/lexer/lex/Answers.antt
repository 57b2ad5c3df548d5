use Rattle.std.proofs.lemmas.Result.{IfOk-from_err}
use Rattle.sv_token.proofs.Wants.{unrefused, given_none, is_err, handed_on, within_tokens}
use Rattle.sv_token.proofs.Cutting.{one_list_of}
use Rattle.sv_token.proofs.lexer.lex.Goals as goal

pub returns-in_err-lines-clause-cut : goal.returns-in_err-lines-clause-cut
returns-in_err-lines-clause-cut c = IfOk-from_err _ _ c.from_residual.ensures.0

pub returns-in_err-lines-clause-within : goal.returns-in_err-lines-clause-within
returns-in_err-lines-clause-within c = IfOk-from_err _ _ c.from_residual.ensures.0

pub returns-in_err-tokens-clause-cut : goal.returns-in_err-tokens-clause-cut
returns-in_err-tokens-clause-cut c = IfOk-from_err _ _ c.from_residual-in_err-tokens.ensures.0

pub returns-in_err-tokens-clause-within : goal.returns-in_err-tokens-clause-within
returns-in_err-tokens-clause-within c = IfOk-from_err _ _ c.from_residual-in_err-tokens.ensures.0

pub returns-in_err-lines-clause-refused : goal.returns-in_err-lines-clause-refused
returns-in_err-lines-clause-refused c = handed_on c.from_residual.result c.in_err-lines.field-0.0 _ c.from_residual.ensures.1 c.in_err-lines.ensures.refused

pub returns-in_err-lines-clause-faulty : goal.returns-in_err-lines-clause-faulty
returns-in_err-lines-clause-faulty c refusal r = is_err c.from_residual.result _ c.from_residual.ensures.1

pub returns-in_err-tokens-clause-refused : goal.returns-in_err-tokens-clause-refused
returns-in_err-tokens-clause-refused c = unrefused c.from_residual-in_err-tokens.result _ c.from_residual-in_err-tokens.ensures.1

pub returns-in_err-tokens-clause-faulty : goal.returns-in_err-tokens-clause-faulty
returns-in_err-tokens-clause-faulty c refusal r = is_err c.from_residual-in_err-tokens.result _ c.from_residual-in_err-tokens.ensures.1

pub returns-in_err-tokens-clause-only : goal.returns-in_err-tokens-clause-only
returns-in_err-tokens-clause-only c tokens l w = given_none (λ v. v.items) c.from_residual-in_err-tokens.result tokens c.from_residual-in_err-tokens.ensures.1

pub returns-clause-cut : goal.returns-clause-cut
returns-clause-cut c = (c.in_ok-lines.lines.items, c.in_ok-lines.ensures.cut, c.in_ok-tokens.ensures)

pub returns-clause-within : goal.returns-clause-within
returns-clause-within c = within_tokens c.args.text.now c.in_ok-lines.lines.items _ c.in_ok-tokens.ensures c.in_ok-lines.ensures.within

pub returns-clause-only : goal.returns-clause-only
returns-clause-only c tokens l w = one_list_of (c.in_ok-lines.lines.items, c.in_ok-lines.ensures.cut, c.in_ok-tokens.ensures) l
