use Rattle.std.proofs.Common.{[], arith}
use Rattle.sv_typing.specs.Judging.{IsCause}
use Rattle.sv_names.specs.Names.{names_are}
use Rattle.svex_arena.proofs.Keeping.{extends_on}
use Rattle.goal_text.specs.Faults.{goals_faults}
use Rattle.goal_text.specs.Nodes.{IsLowered}
use Rattle.goal_text.proofs.Judged.{cause_handed, goals_next, goals_refused, goals_end, goals_used}
use Rattle.goal_text.proofs.Truths.{lowered_kept, zip_next}
use Rattle.goal_text.proofs.lowering.goals.Goals as goal

pub returns-in_err-part-clause-cause : goal.returns-in_err-part-clause-cause
returns-in_err-part-clause-cause c =
    let hyps = names_are c.args.hyps.now in
    let claims = names_are c.args.claims.now in
    let whole = goals_faults [] hyps claims c.args.trees.now in
    cause_handed c.from_residual.result c.in_err-part.field-0.0 (IsCause whole) c.from_residual.ensures.1
    (goals_refused hyps claims whole c.args.trees.now c.trees.tree-index c.trees.names c.tree-item.result c.in_err-part.field-0.0 c.trees-test.true c.tree-item.is c.trees.invariant.used c.trees.invariant.rest
    c.in_err-part.ensures.cause)

pub trees-preserved : goal.trees-preserved
trees-preserved c =
    let hyps = names_are c.args.hyps.now in
    let claims = names_are c.args.claims.now in
    let whole = goals_faults [] hyps claims c.args.trees.now in
    record {
      stays = extends_on c.args.arena.now c.trees.arena c.goal.new.arena c.trees.invariant.stays c.in_ok-part.ensures.stays;
      used = goals_used hyps claims whole c.args.trees.now c.trees.tree-index c.trees.names c.goal.new.before c.tree-item.result c.trees-test.true c.tree-item.is c.trees.invariant.used c.in_ok-part.ensures.adds;
      rest = goals_next hyps claims whole c.args.trees.now c.trees.tree-index c.trees.names c.tree-item.result c.trees-test.true c.tree-item.is c.trees.invariant.used c.in_ok-part.ensures.clear c.trees.invariant.rest;
      found = zip_next (IsLowered hyps claims) (lowered_kept hyps claims) c.trees.arena c.goal.new.arena c.args.trees.now c.trees.tree-index c.tree-item.result c.trees.found c.push.new.self c.in_ok-part.part
          c.in_ok-part.ensures.stays c.trees-test.true c.tree-item.is c.in_ok-push.ensures.ok c.trees.invariant.found c.in_ok-part.ensures.goal;
    }

pub returns-clause-clear : goal.returns-clause-clear
returns-clause-clear c =
    let hyps = names_are c.args.hyps.now in
    let claims = names_are c.args.claims.now in
    goals_end hyps claims (goals_faults [] hyps claims c.args.trees.now) c.args.trees.now c.trees.tree-index c.trees.names (omega (arith, c.trees-test.false)) c.trees.invariant.rest
