use Rattle.std.proofs.Common.{arith}
use Rattle.svtv_words.proofs.Names.{one_more_set}
use Rattle.svtv_words.proofs.positionals.Names.one_more.Goals as goal

pub returns : goal.returns
returns c = one_more_set (λ w. w.now) c.args.self.words c.args.self.count c.args.word (omega arith) (omega arith)
