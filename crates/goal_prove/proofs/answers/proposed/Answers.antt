use Rattle.std.proofs.Common.{◌≡◌, ◌↔◌, Result, IfOk, IsOk, refl, subst, sym}
use Rattle.choice_inputs.specs.Questions.{IsTold}
use Rattle.refute_check.specs.Accepted.{IsAccepted}
use Rattle.refute_check.specs.Certs.{Certificate, certificate_of}
use Rattle.refute_check.specs.declared.checker.CheckErr.{CheckErr}
use Rattle.sat_core.specs.End.{IsRightProposal}
use Rattle.goal_prove.specs.Asked.{IsNever}
use Rattle.goal_prove.proofs.Deciding.{never_by_log, solved_by}
use Rattle.goal_prove.proofs.answers.proposed.Goals as goal

pub returns-in_ok-choice-in-Solution : goal.returns-in_ok-choice-in-Solution
returns-in_ok-choice-in-Solution c = (
  c.in_ok-choice-in-Solution.ensures.is,
  c.in_ok-choice-in-Solution.ensures.told c.args.root c.requires.within
      (solved_by c.args.aig.now c.args.root c.in_ok-cnf.cnf c.deref.result.now c.in-Solution.values.items c.in_ok-cnf.ensures.clauses
      (subst (IsRightProposal c.in_ok-cnf.cnf) c.in-Solution.is c.in_ok-values.ensures) c.deref.ensures.value),
)

pub returns-in-Ok : goal.returns-in-Ok
returns-in-Ok c =
    let cert = certificate_of c.in_ok-cnf.cnf c.in-Refutation.log in
    let is : c.in-Ok.checked ≡ cert = subst (λ (r : Result Certificate CheckErr). IfOk r (λ x. x ≡ cert)) c.in-Ok.is c.in_ok-checked-in-Refutation.ensures.same in
    let right : IsAccepted c.in_ok-cnf.cnf c.in-Refutation.log = (subst (λ (r : Result Certificate CheckErr). IsOk r ↔ IsAccepted c.in_ok-cnf.cnf c.in-Refutation.log) c.in-Ok.is c.in_ok-checked-in-Refutation.ensures.ok).0 refl in
    subst (IsNever c.args.vars.now (IsTold c.args.aig.now c.args.root)) (sym is)
    (never_by_log c.args.vars.now c.args.aig.now c.args.root cert c.len.ensures.graph c.requires.within c.requires.inputs c.in_ok-cnf.ensures.clauses right)
