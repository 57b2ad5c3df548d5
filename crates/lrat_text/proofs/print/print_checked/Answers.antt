use Rattle.lrat_text.proofs.Accepted.{same_can}
use Rattle.lrat_text.proofs.print.print_checked.Goals as goal

pub print_cert-requires-clause-steps : goal.print_cert-requires-clause-steps
print_cert-requires-clause-steps c =
    same_can c.args.checked.now.cnf c.cnf.result.now c.args.checked.now.log c.log.result.now c.cnf.ensures.same c.log.ensures.same c.cnf.ensures.accepted
