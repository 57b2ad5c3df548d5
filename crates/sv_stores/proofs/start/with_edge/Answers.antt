use Rattle.std.proofs.Common.{refl}
use Rattle.svex_arena.proofs.Keeping.{extends_on}
use Rattle.sv_lower.proofs.Lowered.{if_ok}
use Rattle.sv_stores.proofs.Starting.{edges_fit, triggers_more}
use Rattle.sv_stores.proofs.start.with_edge.Goals as goal

pub binary-requires-clause-fits : goal.binary-requires-clause-fits
binary-requires-clause-fits c = edges_fit _ _ c.args.edge _ _ c.in_ok-node.ensures.stays c.in_ok-node.ensures.ok c.requires.more c.requires.one

pub returns-clause-ok : goal.returns-clause-ok
returns-clause-ok c = λ edges k.
    if_ok _ _ _ c.binary.ensures.ok (λ n h. triggers_more _ _ _ c.args.edge edges _ _ _ _ c.len.ensures.arena c.in_ok-node.ensures.stays c.in_ok-node.ensures.ok k h refl)

pub returns-clause-stays : goal.returns-clause-stays
returns-clause-stays c = extends_on _ _ _ c.in_ok-node.ensures.stays c.binary.ensures.stays
