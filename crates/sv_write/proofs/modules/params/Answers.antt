use Rattle.std.proofs.Common.{arith}
use Rattle.sv_write.proofs.Heads.{no_params, some_params}
use Rattle.sv_write.proofs.Adding.{◌▷◌, nothing_added, turned}
use Rattle.sv_write.proofs.modules.params.Goals as goal

pub returns-in-empty : goal.returns-in-empty
returns-in-empty c = turned (λ l. no_params c.args.all.now l (omega (arith, c.in-empty.len_below))) nothing_added

pub returns-in-len1-up : goal.returns-in-len1-up
returns-in-len1-up c = turned (λ l. some_params c.args.all.now l c.in-len1-up.len_at_least) (c.mark.ensures ▷ c.mark-in-len1-up.ensures ▷ c.commas.ensures ▷ c.mark-in-len1-up-2.ensures)
