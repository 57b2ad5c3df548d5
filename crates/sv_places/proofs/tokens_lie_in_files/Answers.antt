use Rattle.sv_preproc.specs.Laws.{Possible}
use Rattle.sv_places.proofs.Filed.{tokens_lie, end_lies}
use Rattle.sv_places.proofs.tokens_lie_in_files.Goals as goal

pub returns-clause-tokens : goal.returns-clause-tokens
returns-clause-tokens c told = tokens_lie (Possible told)

pub returns-clause-end : goal.returns-clause-end
returns-clause-end c told = end_lies (Possible told)
