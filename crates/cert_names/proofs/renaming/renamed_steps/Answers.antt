use Rattle.cert_names.proofs.Walks.{step_named, step_more}
use Rattle.cert_names.proofs.renaming.renamed_steps.Goals as goal

pub renamed_step-requires-clause-inside : goal.renamed_step-requires-clause-inside
renamed_step-requires-clause-inside c =
    step_named c.args.names.now c.args.steps.now c.loop-step.step-index c.step-item.result c.requires.inside c.loop-step-test.true c.step-item.is

pub loop-step-preserved : goal.loop-step-preserved
loop-step-preserved c =
    step_more c.args.names.now c.args.steps.now c.loop-step.new.items c.push.new.self.items c.loop-step.step-index c.step-item.result c.in_ok-renamed_step.field-0 c.loop-step-test.true c.step-item.is c.loop-step.invariant c.in_ok-renamed_step.ensures c.in_ok-push.ensures.items
