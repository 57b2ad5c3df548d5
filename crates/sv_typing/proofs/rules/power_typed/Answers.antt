use Rattle.std.proofs.Common.{◌++◌, Result, IfOk, subst}
use Rattle.std.proofs.lemmas.Result.{err_from_is_err_and}
use Rattle.sv_outside.specs.declared.refusal.TextErr.{TextErr}
use Rattle.sv_typed.specs.declared.tree.Typed.{Typed}
use Rattle.sv_typed.specs.Typed.{IsSound}
use Rattle.sv_meaning.specs.Meanings.{power_faults}
use Rattle.sv_typing.proofs.Judged.{typed_ok}
use Rattle.sv_typing.proofs.OfRules.{both_cause, cause_first}
use Rattle.sv_typing.proofs.rules.power_typed.Goals as goal

pub returns-in_err-x : goal.returns-in_err-x
returns-in_err-x c = λ m n d s h k.
    let p = err_from_is_err_and c.from_residual.result c.from_residual.ensures.1 in
    rw (p.1, p.2) (cause_first (m.faults d ++ n.faults d) (power_faults c.args.place m n) c.in_err-x.field-0.0 (both_cause m n d c.args.x c.args.y c.in_err-x.field-0.0 c.in_err-x.ensures.failed h k))

pub power_of-made-requires : goal.power_of-made-requires
power_of-made-requires c = let P : Result Typed TextErr → Type 0 = λ r. IfOk r (λ t. IsSound t) in subst P c.in_ok-x.ensures.pair.1 c.requires

pub returns : goal.returns
returns c = λ m n d s h k.
    c.power_of-made.ensures m n d s (typed_ok m (m.faults d) c.args.x c.in_ok-x.x c.in_ok-x.ensures.pair.0 h) (typed_ok n (n.faults d) c.args.y c.in_ok-x.y c.in_ok-x.ensures.pair.1 k)
