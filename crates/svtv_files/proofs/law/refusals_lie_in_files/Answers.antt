use Rattle.svtv_files.proofs.Filed.{unparsed_lies, faulty_lies}
use Rattle.svtv_files.proofs.law.refusals_lie_in_files.Goals as goal

pub returns-clause-unparsed : goal.returns-clause-unparsed
returns-clause-unparsed c = unparsed_lies

pub returns-clause-faulty : goal.returns-clause-faulty
returns-clause-faulty c = faulty_lies
