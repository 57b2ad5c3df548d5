use Rattle.std.proofs.Common.{arith}
use Rattle.sv_typing.specs.Judging.{IsCause}
use Rattle.sv_names.specs.Names.{names_are}
use Rattle.svex_arena.proofs.Keeping.{extends_on}
use Rattle.goal_text.specs.Faults.{exprs_faults}
use Rattle.goal_text.specs.Nodes.{HasTruth}
use Rattle.goal_text.proofs.Judged.{cause_handed, exprs_next, exprs_refused, exprs_end}
use Rattle.goal_text.proofs.Truths.{truth_kept, zip_next}
use Rattle.goal_text.proofs.lowering.truths.Goals as goal

pub returns-in_err-node-clause-cause : goal.returns-in_err-node-clause-cause
returns-in_err-node-clause-cause c =
    let at = names_are c.args.names.now in
    let whole = exprs_faults at c.args.exprs.now in
    cause_handed c.from_residual.result c.in_err-node.field-0.0 (IsCause whole) c.from_residual.ensures.1
    (exprs_refused at whole c.args.exprs.now c.exprs.expr-index c.expr-item.result c.in_err-node.field-0.0 c.exprs-test.true c.expr-item.is c.exprs.invariant.rest c.in_err-node.ensures.cause)

pub exprs-preserved : goal.exprs-preserved
exprs-preserved c =
    let at = names_are c.args.names.now in
    let whole = exprs_faults at c.args.exprs.now in
    record {
      stays = extends_on c.args.arena.now c.exprs.arena c.truth.new.arena c.exprs.invariant.stays c.in_ok-node.ensures.stays;
      rest = exprs_next at whole c.args.exprs.now c.exprs.expr-index c.expr-item.result c.exprs-test.true c.expr-item.is c.in_ok-node.ensures.clear c.exprs.invariant.rest;
      found = zip_next (HasTruth at) (truth_kept at) c.exprs.arena c.truth.new.arena c.args.exprs.now c.exprs.expr-index c.expr-item.result c.exprs.nodes c.push.new.self c.in_ok-node.node
          c.in_ok-node.ensures.stays c.exprs-test.true c.expr-item.is c.in_ok-push.ensures.ok c.exprs.invariant.found c.in_ok-node.ensures.truth;
    }

pub returns-clause-clear : goal.returns-clause-clear
returns-clause-clear c =
    let at = names_are c.args.names.now in exprs_end at (exprs_faults at c.args.exprs.now) c.args.exprs.now c.exprs.expr-index (omega (arith, c.exprs-test.false)) c.exprs.invariant.rest
