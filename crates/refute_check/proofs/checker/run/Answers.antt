use Rattle.refute_check.proofs.checker.run.Goals as goal

pub returns-clause-ok : goal.returns-clause-ok
returns-clause-ok c = c.verdict.ensures.ok _ c.front-derived.ensures.front
