use Rattle.std.proofs.Common.{arith}
use Rattle.flat_read.proofs.Unique.{legal}
use Rattle.flat_read.proofs.laws.legal_texts_break_nowhere.Goals as goal

pub returns : goal.returns
returns c flat n t b = legal c.args.text.now flat n (omega arith) t b
