use Rattle.std.proofs.Common.{List, map, ◌++◌, sym, subst}
use Rattle.std.proofs.lemmas.Result.{err_from_is_err_and}
use Rattle.std.specs.List.{AllZip}
use Rattle.sv_meaning.specs.Meanings.{parts, fixed_faults}
use Rattle.sv_meaning.specs.Values.{mean}
use Rattle.sv_typed.specs.declared.tree.Typed.{Typed}
use Rattle.sv_typed.specs.Typed.{Stands}
use Rattle.sv_typing.specs.Judging.{JudgesAll}
use Rattle.sv_typing.proofs.Judged.{fixed_ok, fixed_err}
use Rattle.sv_typing.proofs.OfRules.{cause_first, cause_left, cause_right}
use Rattle.sv_typing.proofs.sides.repeat_of.Goals as goal

pub returns-in_err-count : goal.returns-in_err-count
returns-in_err-count c = λ at n d i h.
    let p = err_from_is_err_and c.from_residual.result c.from_residual.ensures.1 in
    let all = map (mean at) c.args.exprs.now in
    rw (p.1, p.2) (cause_first (fixed_faults n ++ (parts all).faults d) _ c.in_err-count.field-0.0 (cause_left (fixed_faults n) ((parts all).faults d) c.in_err-count.field-0.0 (fixed_err n c.args.count c.in_err-count.field-0.0 c.in_err-count.was i)))

pub returns-in_err-list : goal.returns-in_err-list
returns-in_err-list c = λ at n d i h.
    let p = err_from_is_err_and c.from_residual-in_err-list.result c.from_residual-in_err-list.ensures.1 in
    let all = map (mean at) c.args.exprs.now in
    rw (p.1, p.2) (cause_first (fixed_faults n ++ (parts all).faults d) _ c.in_err-list.field-0.0 (cause_right (fixed_faults n) ((parts all).faults d) c.in_err-list.field-0.0 (subst (JudgesAll all d) c.in_err-list.was h)))

pub returns : goal.returns
returns c = λ at n d i h.
    let all = map (mean at) c.args.exprs.now in
    let k = subst (JudgesAll all d) c.in_ok-list.was h in
    c.repeat_typed.ensures n all d (fixed_ok n c.args.count c.in_ok-count.count c.in_ok-count.was i) k (c.loose_in-loose.ensures at (subst (λ (z : List Typed). AllZip Stands z all) (sym c.as_slice.ensures) k.stands))
