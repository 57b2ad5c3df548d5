use Rattle.std.proofs.Common.{List, subst}
use Rattle.std.specs.List.{AllZip}
use Rattle.sv_names.specs.Names.{names_are}
use Rattle.sv_tree.specs.declared.exprs.Expr.{Expr}
use Rattle.sv_modules.specs.Naming.{holds}
use Rattle.sv_typing.specs.Judging.{IsCause}
use Rattle.goal_text.specs.Faults.{exprs_faults, tree_faults}
use Rattle.goal_text.specs.Nodes.{HasTruth}
use Rattle.goal_text.proofs.Judged.{cause_handed, tree_hyp}
use Rattle.goal_text.proofs.Truths.{truths_kept}
use Rattle.goal_text.proofs.lowering.goal.Goals as goal

pub returns-clause-goal : goal.returns-clause-goal
returns-clause-goal c =
    let tree = c.args.tree.now in
    record {
      name = c.in_ok-name.ensures;
      over_hyps = truths_kept (names_are c.args.hyps.now) c.truths.new.arena c.truths-2.new.arena tree.hyps c.in_ok-hyps.hyps c.in_ok-claims.ensures.stays
          (subst (λ (xs : List Expr). AllZip (HasTruth (names_are c.args.hyps.now) c.truths.new.arena) xs c.in_ok-hyps.hyps) c.as_slice.ensures c.in_ok-hyps.ensures.truths);
      over_claims = subst (λ (xs : List Expr). AllZip (HasTruth (names_are c.args.claims.now) c.truths-2.new.arena) xs c.in_ok-claims.claims) c.as_slice-2.ensures c.in_ok-claims.ensures.truths;
    }

pub returns-in_err-hyps-clause-cause : goal.returns-in_err-hyps-clause-cause
returns-in_err-hyps-clause-cause c =
    let tree = c.args.tree.now in
    let taken = holds c.args.before.now tree.name.text in
    let hyps = names_are c.args.hyps.now in
    let claims = names_are c.args.claims.now in
    let error = c.in_err-hyps.field-0.0 in
    cause_handed c.from_residual-in_err-hyps.result error (IsCause (tree_faults taken hyps claims tree)) c.from_residual-in_err-hyps.ensures.1
    (tree_hyp taken hyps claims tree error (subst (λ (xs : List Expr). IsCause (exprs_faults hyps xs) error) c.as_slice.ensures c.in_err-hyps.ensures.cause))
