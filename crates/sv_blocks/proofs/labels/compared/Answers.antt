use Rattle.svex_arena.proofs.Keeping.{if_ok}
use Rattle.sv_blocks.proofs.Labeling.{yields_made}
use Rattle.sv_blocks.proofs.labels.compared.Goals as goal

pub returns-clause-ok : goal.returns-clause-ok
returns-clause-ok c = if_ok _ _ _ c.lowered.ensures.ok (λ n h. yields_made _ _ _ _ _ _ _ _ c.requires.scene c.requires.state.nodes c.lowered.ensures.stays h)
