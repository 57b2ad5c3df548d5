use Rattle.std.proofs.lemmas.Result.{IfOk-from_err}
use Rattle.std.proofs.Common.{◌+◌, ◌/◌, ◌^◌, [], ◌∷◌, ◌++◌, drop, ◌∙◌, ap, arith}
use Rattle.svtv_choices.specs.Choices as spec
use Rattle.svtv_choices.specs.Choices.{bits_of}
use Rattle.svtv_choices.proofs.Turns.{bits_more, choice_more, none_left}
use Rattle.svtv_choices.proofs.choice.choice_of.Goals as goal

pub low_bits-requires-clause-most : goal.low_bits-requires-clause-most
low_bits-requires-clause-most c =
    let e = bits_more c.args.vars.now c.vars.var-index c.var-item.result c.vars-test.true c.var-item.is in
    omega (arith, e, c.vars.invariant.few)

pub overflow_shr-left : goal.overflow_shr-left
overflow_shr-left c =
    let e = bits_more c.args.vars.now c.vars.var-index c.var-item.result c.vars-test.true c.var-item.is in
    omega (arith, e, c.vars.invariant.few)

pub vars-preserved : goal.vars-preserved
vars-preserved c =
    let vars = c.args.vars.now in
    let v = c.var-item.result in
    let e = bits_more vars c.vars.var-index v c.vars-test.true c.var-item.is in
    let more = ap (λ xs. xs ++ spec.choice_of (drop (c.vars.var-index + 1) vars) (c.vars.left / 2 ^ v.width)) (c.in_ok-push.ensures.ok ∙ ap (λ b. c.vars.choice ++ b ∷ []) c.low_bits.ensures) in
    record {
      is = more ∙ choice_more vars c.vars.var-index c.vars.left v c.vars.choice (spec.choice_of vars c.args.number) c.vars-test.true c.var-item.is c.vars.invariant.is;
      few = omega (arith, e, c.vars.invariant.few);
    }

pub returns : goal.returns
returns c = none_left c.args.vars.now c.vars.var-index c.vars.left c.vars.choice (spec.choice_of c.args.vars.now c.args.number) c.vars-test.false c.vars.invariant.is

pub returns-in_err-push : goal.returns-in_err-push
returns-in_err-push c = IfOk-from_err _ _ c.from_residual.ensures.0
