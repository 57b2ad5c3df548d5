use Rattle.refute_check.proofs.checker.width_for.Goals as goal

pub returns-clause-least : goal.returns-clause-least
returns-clause-least c = λ width fits. c.with_steps.ensures.least width (c.width_of.ensures.least width fits.clauses) fits.steps
