use Rattle.svtv_commands.proofs.Checked.{judged_as}
use Rattle.svtv_commands.proofs.checking.bad_step.Goals as goal

pub returns : goal.returns
returns c =
    judged_as c.args.cnf c.in_ok-cnf.cnf c.args.log c.in_ok-cnf.log c.in_ok-judged.judged c.bad_of.result c.in_ok-cnf.ensures.accepted c.in_ok-cnf.ensures.bad c.in_ok-judged.ensures.ok c.in_ok-judged.ensures.bad
    c.bad_of.ensures
