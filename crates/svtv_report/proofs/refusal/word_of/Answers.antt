use Rattle.std.proofs.Common.{arith}
use Rattle.svtv_report.proofs.Words.{no_word}
use Rattle.svtv_report.proofs.refusal.word_of.Goals as goal

pub returns-in_default : goal.returns-in_default
returns-in_default c = no_word c.args.number (λ h. omega arith)
