use Rattle.compose_rounds.proofs.Turning.{ready_more}
use Rattle.svex_compose.proofs.grouping.settle_next.Goals as goal

pub returns-clause-ready : goal.returns-clause-ready
returns-clause-ready c =
    ready_more c.args.joins.now c.settle.new.arena c.settle.new.scene c.settle.new.replacer c.mark_all.new.settled c.mark_all.ensures.size c.mark_all.ensures.stays c.in_ok-settle.ensures.ready
