use Rattle.std.proofs.Common.{List, Err, ap, map, subst, sym}
use Rattle.flat_net.specs.declared.flat.Flat.{Flat}
use Rattle.flat_net.specs.Flats.{IsFlat}
use Rattle.fourvec.specs.declared.Bit.{Bit}
use Rattle.goal_tree.specs.declared.tree.GoalTree.{GoalTree}
use Rattle.sv_meaning.specs.Designs.{Design}
use Rattle.svtv_texts.specs.Passed.{bench}
use Rattle.svtv_texts.specs.Passed.{AreLeastNodes}
use Rattle.svtv_runs.specs.Runs.{Asked}
use Rattle.svtv_table.specs.Binding.{IsBound}
use Rattle.svtv_report.specs.Seen.{verdict_is}
use Rattle.svtv_texts.specs.Rights.{AreRight}
use Rattle.svtv_texts.specs.Passed.{AreSampleNodes}
use Rattle.svtv_commands.proofs.Growing.{reports, stops_wide, there_kept}
use Rattle.svtv_commands.proofs.judging.decided.Goals as goal

pub sample_nodes-requires-clause-flat : goal.sample_nodes-requires-clause-flat
sample_nodes-requires-clause-flat c = c.requires.elaborated.1.sound

pub decide_all-requires-clause-flat : goal.decide_all-requires-clause-flat
decide_all-requires-clause-flat c = subst IsFlat (sym c.in-Ok.ensures) c.requires.elaborated.1.sound

pub decide_all-requires-clause-bound : goal.decide_all-requires-clause-bound
decide_all-requires-clause-bound c = subst (λ (f : Flat). IsBound f.wires c.args.bound.now) (sym c.in-Ok.ensures) c.requires.bound

pub decide_all-requires-clause-samples : goal.decide_all-requires-clause-samples
decide_all-requires-clause-samples c =
    let b = c.args.bound.now in
    subst (λ nodes. AreSampleNodes b.vars b.samples c.in-Ok-sample_nodes.svtv.fsm.flat.arena nodes) (sym c.as_slice.ensures) c.in-Ok-sample_nodes.ensures.nodes

pub decide_all-requires-clause-there : goal.decide_all-requires-clause-there
decide_all-requires-clause-there c = there_kept c.args.flat.arena c.in-Ok-sample_nodes.svtv.fsm.flat.arena c.in-Ok-sample_nodes.ensures.extends c.args.goals.now c.requires.there

pub returns-in-Err-sample_nodes-clause-stop : goal.returns-in-Err-sample_nodes-clause-stop
returns-in-Err-sample_nodes-clause-stop c d elaborated =
    stops_wide c.args.design.now d c.in-Err-sample_nodes.error c.too_wide.result c.too_wide.ensures (λ bits e. c.in-Err-sample_nodes.ensures.wide bits (ap Err e) d elaborated)

pub returns-in-Ok-decide_all-clause-right : goal.returns-in-Ok-decide_all-clause-right
returns-in-Ok-decide_all-clause-right c =
    let b = c.args.bound.now in
    let shapes = c.in-Ok-sample_nodes.svtv.fsm.flat.arena in
    let found = c.in-Ok-decide_all.decisions in
    let Right : Design → (List (List Bit) → Asked) → List GoalTree → Type 0 = λ d asked trees. AreRight (bench d asked b) trees c.args.budget (map verdict_is found.verdicts) found.shown in
    reports c.args.flat c.in-Ok.copy b shapes c.as_slice.result.now c.args.goals.now Right c.in-Ok.ensures c.in-Ok-sample_nodes.ensures.extends
    (λ d e. subst (λ nodes. AreLeastNodes d b shapes nodes) (sym c.as_slice.ensures) (c.in-Ok-sample_nodes.ensures.least d e)) c.in-Ok-decide_all.ensures.right
