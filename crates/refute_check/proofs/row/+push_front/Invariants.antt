use Rattle.refute_check.proofs.row.+push_front.Given as goal

abbrev pub decreases-push_front : goal.decreases-push_front
decreases-push_front l = l.front
