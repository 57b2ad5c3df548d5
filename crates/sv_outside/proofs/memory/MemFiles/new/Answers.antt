use Rattle.sv_outside.proofs.Contents.{contents_mapped}
use Rattle.sv_outside.proofs.memory.MemFiles.new.Goals as goal

pub returns-clause-contents : goal.returns-clause-contents
returns-clause-contents c = λ name. contents_mapped c.args.list.items (λ v. v.items) name
