use Rattle.std.proofs.Common.{◌≡◌, List, Option, Bool, None, length, ap, ◌∙◌, arith}
use Rattle.std.proofs.lemmas.List.{length-replicate}
use Rattle.refute_check.proofs.Widths.{fits_parts}
use Rattle.refute_check.proofs.checker.Checker.new.Goals as goal

pub returns-clause-least : goal.returns-clause-least
returns-clause-least c = λ width fits.
    let long : length c.in_ok-new.field-0 ≡ c.width_for-width.result = ap (λ (l : List (Option Bool)). length l) c.in_ok-new.ensures.open ∙ length-replicate c.width_for-width.result None in
    let most = c.width_for-width.ensures.least width (fits_parts width c.cnf.inside.vars c.args.cnf.now c.args.log.now c.log.inside.steps.items c.as_slice-2.result.now c.cnf.inside.clauses.items c.as_slice.result.now c.cnf.view_is c.log.view_is c.as_slice.ensures.value c.as_slice-2.ensures.value fits) in
    omega arith
