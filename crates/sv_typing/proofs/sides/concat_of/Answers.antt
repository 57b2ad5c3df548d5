use Rattle.std.proofs.Common.{List, map, sym, subst}
use Rattle.std.proofs.lemmas.Result.{err_from_is_err_and}
use Rattle.std.specs.List.{AllZip}
use Rattle.sv_meaning.specs.Meanings.{parts}
use Rattle.sv_meaning.specs.Values.{mean}
use Rattle.sv_typed.specs.declared.tree.Typed.{Typed}
use Rattle.sv_typed.specs.Typed.{Stands}
use Rattle.sv_typing.specs.Judging.{JudgesAll}
use Rattle.sv_typing.proofs.OfRules.{cause_first}
use Rattle.sv_typing.proofs.sides.concat_of.Goals as goal

pub returns-in_err-list : goal.returns-in_err-list
returns-in_err-list c = λ at d h.
    let p = err_from_is_err_and c.from_residual.result c.from_residual.ensures.1 in
    rw (p.1, p.2) (cause_first ((parts (map (mean at) c.args.exprs.now)).faults d) _ c.in_err-list.field-0.0 (subst (JudgesAll (map (mean at) c.args.exprs.now) d) c.in_err-list.was h))

pub returns : goal.returns
returns c = λ at d h.
    let all = map (mean at) c.args.exprs.now in
    let k = subst (JudgesAll all d) c.in_ok-list.was h in
    c.concat_typed.ensures all d k (c.loose_in-loose.ensures at (subst (λ (z : List Typed). AllZip Stands z all) (sym c.as_slice.ensures) k.stands))
