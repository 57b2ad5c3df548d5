use Rattle.std.proofs.Common.{List, Err, ap, subst, sym}
use Rattle.flat_net.specs.declared.flat.Flat.{Flat}
use Rattle.flat_net.specs.Flats.{IsFlat}
use Rattle.fourvec.specs.declared.Bit.{Bit}
use Rattle.goal_tree.specs.declared.tree.GoalTree.{GoalTree}
use Rattle.sv_meaning.specs.Designs.{Design}
use Rattle.svtv_report.specs.Seen.{verdict_is}
use Rattle.svtv_runs.specs.Runs.{Asked}
use Rattle.svtv_texts.specs.Passed.{AreLeastNodes, AreSampleNodes, bench}
use Rattle.svtv_table.specs.Binding.{IsBound}
use Rattle.svtv_verdicts.specs.Certs.{HasCert}
use Rattle.svtv_verdicts.specs.Verdicts.{IsRight}
use Rattle.svtv_commands.proofs.Growing.{one_there, stops_wide, tells}
use Rattle.svtv_commands.proofs.certifying.decided.Goals as goal

pub sample_nodes-requires-clause-flat : goal.sample_nodes-requires-clause-flat
sample_nodes-requires-clause-flat c = c.requires.elaborated.1.sound

pub certify-requires-clause-flat : goal.certify-requires-clause-flat
certify-requires-clause-flat c = subst IsFlat (sym c.in-Ok.ensures) c.requires.elaborated.1.sound

pub certify-requires-clause-bound : goal.certify-requires-clause-bound
certify-requires-clause-bound c = subst (λ (f : Flat). IsBound f.wires c.args.bound.now) (sym c.in-Ok.ensures) c.requires.bound

pub certify-requires-clause-samples : goal.certify-requires-clause-samples
certify-requires-clause-samples c =
    let b = c.args.bound.now in
    subst (λ nodes. AreSampleNodes b.vars b.samples c.in-Ok-sample_nodes.svtv.fsm.flat.arena nodes) (sym c.as_slice.ensures) c.in-Ok-sample_nodes.ensures.nodes

pub certify-requires-clause-there : goal.certify-requires-clause-there
certify-requires-clause-there c = one_there c.args.flat.arena c.in-Ok-sample_nodes.svtv.fsm.flat.arena c.in-Ok-sample_nodes.ensures.extends c.args.goal.now c.requires.there

pub returns-in-Err-sample_nodes-clause-stop : goal.returns-in-Err-sample_nodes-clause-stop
returns-in-Err-sample_nodes-clause-stop c d elaborated =
    stops_wide c.args.design.now d c.in-Err-sample_nodes.error c.too_wide.result c.too_wide.ensures (λ bits e. c.in-Err-sample_nodes.ensures.wide bits (ap Err e) d elaborated)

pub returns-in-Ok-decide_goal-clause-right : goal.returns-in-Ok-decide_goal-clause-right
returns-in-Ok-decide_goal-clause-right c =
    let b = c.args.bound.now in
    let shapes = c.in-Ok-sample_nodes.svtv.fsm.flat.arena in
    let found = c.in-Ok-decide_goal.certified in
    let Right : Design → (List (List Bit) → Asked) → GoalTree → Type 0 = λ d asked tree. IsRight (bench d asked b) tree c.args.budget (verdict_is found.decided.verdict) found.decided.shown in
    tells c.args.flat c.in-Ok.copy b shapes c.as_slice.result.now c.args.goal.now Right c.in-Ok.ensures c.in-Ok-sample_nodes.ensures.extends
    (λ d e. subst (λ nodes. AreLeastNodes d b shapes nodes) (sym c.as_slice.ensures) (c.in-Ok-sample_nodes.ensures.least d e)) c.in-Ok-decide_goal.ensures.right

pub returns-in-Ok-decide_goal-clause-cert : goal.returns-in-Ok-decide_goal-clause-cert
returns-in-Ok-decide_goal-clause-cert c =
    let b = c.args.bound.now in
    let shapes = c.in-Ok-sample_nodes.svtv.fsm.flat.arena in
    let found = c.in-Ok-decide_goal.certified in
    let Closes : Design → (List (List Bit) → Asked) → GoalTree → Type 0 = λ d asked tree. HasCert (bench d asked b) tree (verdict_is found.decided.verdict) found.cert in
    tells c.args.flat c.in-Ok.copy b shapes c.as_slice.result.now c.args.goal.now Closes c.in-Ok.ensures c.in-Ok-sample_nodes.ensures.extends
    (λ d e. subst (λ nodes. AreLeastNodes d b shapes nodes) (sym c.as_slice.ensures) (c.in-Ok-sample_nodes.ensures.least d e)) c.in-Ok-decide_goal.ensures.cert
