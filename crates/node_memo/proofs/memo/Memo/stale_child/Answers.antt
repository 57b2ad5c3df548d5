use Rattle.node_memo.proofs.memo.Memo.stale_child.Goals as goal

pub returns-clause-stale : goal.returns-clause-stale
returns-clause-stale c = tt

pub returns-clause-lower : goal.returns-clause-lower
returns-clause-lower c = tt
