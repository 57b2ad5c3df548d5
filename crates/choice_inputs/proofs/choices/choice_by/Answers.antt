use Rattle.std.proofs.lemmas.Result.{IfOk-from_err}
use Rattle.std.proofs.Common.{◌∙◌, ◌+◌, [], ◌∷◌, ◌++◌, ap, take, arith, sym}
use Rattle.std.proofs.lemmas.List.{take_all}
use Rattle.choice_inputs.proofs.Chosen.{bits_more, bits_none, choice_more, inputs_more, long_part, wide_at}
use Rattle.choice_inputs.proofs.choices.choice_by.Goals as goal

pub part-requires : goal.part-requires
part-requires c =
    omega (arith, c.vars.invariant.long, bits_more c.args.vars.now c.vars.var-index c.var-item.result c.vars-test.true c.var-item.is)

pub vector_of-requires-clause-some : goal.vector_of-requires-clause-some
vector_of-requires-clause-some c =
    let more = bits_more c.args.vars.now c.vars.var-index c.var-item.result c.vars-test.true c.var-item.is in
    let long = long_part c.args.inputs.now c.part.result.now c.vars.at c.var-item.result.width (omega (arith, c.vars.invariant.long, more)) c.part.ensures in
    omega (arith, long, (wide_at c.args.vars.now c.vars.var-index c.var-item.result c.vars-test.true c.var-item.is c.requires.widths).0)

pub vars-preserved : goal.vars-preserved
vars-preserved c =
    let vars = c.args.vars.now in
    let x = c.var-item.result in
    let more = bits_more vars c.vars.var-index x c.vars-test.true c.var-item.is in
    let long = long_part c.args.inputs.now c.part.result.now c.vars.at x.width (omega (arith, c.vars.invariant.long, more)) c.part.ensures in
    let pushed = c.in_ok-push.ensures.ok ∙ ap (λ v. c.vars.choice ++ v ∷ []) c.vector_of.ensures in
    record {
      is = choice_more vars c.vars.var-index x c.vars.choice _ c.part.result.now c.vars-test.true c.var-item.is long c.vars.invariant.is pushed;
      inputs = inputs_more c.vars.choice _ c.args.inputs.now c.part.result.now c.vars.at x.width c.vars.invariant.inputs c.part.ensures pushed ∙ ap (λ n. take (c.vars.at + n) c.args.inputs.now) (sym c.from-at.ensures);
      long = omega (arith, c.vars.invariant.long, more, c.from-at.ensures);
    }

pub returns-clause-inputs : goal.returns-clause-inputs
returns-clause-inputs c =
    c.vars.invariant.inputs ∙ take_all c.vars.at c.args.inputs.now (omega (arith, c.vars.invariant.long, bits_none c.args.vars.now c.vars.var-index c.vars-test.false))

pub returns-in_err-push-clause-inputs : goal.returns-in_err-push-clause-inputs
returns-in_err-push-clause-inputs c = IfOk-from_err _ _ c.from_residual.ensures.0

pub returns-in_err-push-clause-is : goal.returns-in_err-push-clause-is
returns-in_err-push-clause-is c = IfOk-from_err _ _ c.from_residual.ensures.0
