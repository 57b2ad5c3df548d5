use Rattle.svex_compose.specs.Grouping.{AreMarked}
use Rattle.svex_compose.proofs.grouping.mark_all.Given as goal

abbrev pub invariant-members : goal.invariant-members
invariant-members l = AreMarked l.members l.initial.settled.items l.settled.items l.at
