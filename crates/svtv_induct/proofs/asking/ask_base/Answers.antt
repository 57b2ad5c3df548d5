use Rattle.svtv_induct.proofs.Answering.{half_back}
use Rattle.svtv_induct.proofs.asking.ask_base.Goals as goal

pub returns-clause-same : goal.returns-clause-same
returns-clause-same c = half_back c.args.half.now c.base_answer-answer.new.half c.len-len.result c.cut.new.self c.base_answer-answer.ensures.grown c.len-len.ensures.is c.cut.ensures
