use Rattle.std.proofs.Common.{◌≡◌, ◌-◌, length, slice_get, Ok, Err, sym, ◌∙◌, ap, subst}
use Rattle.sv_cursor.specs.declared.error.ParseErr.TheVariants.{Syntax, TooDeep}
use Rattle.sv_cursor.specs.Refusals.{place_at, refused, syntax_number_of}
use Rattle.sv_expr_parser.specs.Parsed.{IsLongest, IsParsed}
use Rattle.sv_expr_parser.proofs.Shifted.{from_there, ok_shifted, syntax_shifted, deep_shifted}
use Rattle.sv_expr_parser.proofs.parse.parse_expr.Goals as goal

pub returns-in-Ok : goal.returns-in-Ok
returns-in-Ok c =
    ok_shifted c.args.tokens.now c.args.end c.args.at c.requires c.in-Ok.x c.in-Ok.len
    (subst (λ i. IsLongest i (Ok (c.in-Ok.x, c.in-Ok.len))) (from_there c.args.tokens.now c.args.end c.args.at c.requires) c.in-Ok.ensures)

pub returns-in-Err-Syntax : goal.returns-in-Err-Syntax
returns-in-Err-Syntax c =
    let h = rw c.in-Err-Syntax.field-0-is at c.in-Err-Syntax.ensures in
    let e : c.refusal.result
    ≡ refused (syntax_number_of (slice_get c.args.tokens.now (length c.args.tokens.now - c.in-Err-Syntax.left))) (place_at c.args.tokens.now c.args.end (length c.args.tokens.now - c.in-Err-Syntax.left)) =
    c.refusal.ensures ∙ (ap (λ n. refused n c.place_at.result) c.syntax_number.ensures
    ∙ ap (refused (syntax_number_of (slice_get c.args.tokens.now (length c.args.tokens.now - c.in-Err-Syntax.left)))) c.place_at.ensures)
    in
    subst (λ e. IsParsed c.args.tokens.now c.args.end c.args.at (Err e)) (sym e)
    (syntax_shifted c.args.tokens.now c.args.end c.args.at c.requires c.in-Err-Syntax.left
    (subst (λ i. IsLongest i (Err (Syntax c.in-Err-Syntax.left))) (from_there c.args.tokens.now c.args.end c.args.at c.requires) h))

pub returns-in-Err-TooDeep : goal.returns-in-Err-TooDeep
returns-in-Err-TooDeep c =
    let h = rw c.in-Err-TooDeep.field-0-is at c.in-Err-TooDeep.ensures in
    let e : c.refusal-in-Err-TooDeep.result ≡ refused 9 (place_at c.args.tokens.now c.args.end (length c.args.tokens.now - c.in-Err-TooDeep.deep)) =
    c.refusal-in-Err-TooDeep.ensures ∙ ap (refused 9) c.place_at-in-Err-TooDeep.ensures
    in
    subst (λ e. IsParsed c.args.tokens.now c.args.end c.args.at (Err e)) (sym e)
    (deep_shifted c.args.tokens.now c.args.end c.args.at c.requires c.in-Err-TooDeep.deep c.in-Err-TooDeep.field-0-1
    (subst (λ i. IsLongest i (Err (TooDeep c.in-Err-TooDeep.deep c.in-Err-TooDeep.field-0-1))) (from_there c.args.tokens.now c.args.end c.args.at c.requires) h))
