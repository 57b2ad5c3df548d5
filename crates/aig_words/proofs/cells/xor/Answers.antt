use Rattle.aig_words.proofs.cells.xor.Goals as goal

pub returns-clause-grew : goal.returns-clause-grew
returns-clause-grew c = record { grows = c.xor.ensures.grows; nodes = c.xor.ensures.nodes; flat = c.xor.ensures.flat }
