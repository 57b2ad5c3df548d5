use Rattle.std.proofs.Common.{Some, Ok, Err, [], ◌∙◌, sym, subst}
use Rattle.sv_outside.specs.declared.refusal.TextErr.TheVariants.{No}
use Rattle.std.specs.List.{Contains}
use Rattle.sv_meaning.specs.Layouts.{number_is}
use Rattle.sv_meaning.specs.Meanings.{named, fixed_faults}
use Rattle.sv_names.specs.Kinds.{what_is}
use Rattle.sv_typing.specs.Casts.{CountUnder}
use Rattle.sv_typing.proofs.Targets.{number_fixed, number_unfixed}
use Rattle.sv_typing.proofs.sides.count_of.Goals as goal

pub returns-then-is_wholly : goal.returns-then-is_wholly
returns-then-is_wholly c =
    let k = c.in-Number.known in
    subst (λ o. CountUnder c.args.word.now (Some (what_is o)) c.args.constant (Ok c.new.result)) (sym c.in-Number.is)
    (number_fixed c.args.word.now k.value k.signed c.new.result c.is_wholly.ensures.some (sym c.is_wholly.ensures.is ∙ c.if-is_wholly.true) c.new.ensures.known c.new.ensures.constant)

pub returns-else-is_wholly : goal.returns-else-is_wholly
returns-else-is_wholly c =
    let k = c.in-Number.known in
    subst (λ o. CountUnder c.args.word.now (Some (what_is o)) c.args.constant (Err (No c.refusal.result))) (sym c.in-Number.is)
    (subst (Contains (fixed_faults (named c.args.word.now (Some (number_is k.value k.signed)) []))) (sym c.refusal.ensures)
    (number_unfixed c.args.word.now k.value k.signed c.is_wholly.ensures.some (sym c.is_wholly.ensures.is ∙ c.if-is_wholly.false)))
