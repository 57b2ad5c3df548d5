use Rattle.sv_preproc.specs.Laws.{Told}
use Rattle.sv_preproc.proofs.Unique.{one_list, told_once}
use Rattle.sv_preproc.proofs.law.one_text.Goals as goal

pub returns : goal.returns
returns c told main a b s t h k = one_list (Told told) (Told told) (told_once told) main a b s t h k
